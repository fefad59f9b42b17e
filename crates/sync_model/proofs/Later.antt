-- What a later write sends leads from the content before it to the content after it.
use Rattle.std.proofs.Common.{◌≡◌, ℕ, zero, suc, ◌+◌, Bool, true, false, cond, nat_eq, List, [], ◌∷◌, ◌++◌, map, refl, sym, ap, ◌∙◌, arith, Some, None, Option}
use Rattle.std.specs.Prelude.{not, ◌||◌, filter}
use Rattle.std.specs.Option.{unwrap_or}
use Rattle.std.proofs.lemmas.Bool.{eqb-true, false≢true}
use Rattle.dn_names.specs.Writing.{name_text}
use Rattle.entry_tree.specs.declared.entry.Entry.{Entry}
use Rattle.entry_tree.specs.declared.touched.EntryChange.{EntryChange}
use Rattle.entry_tree.specs.Bytes.{is_one_found}
use Rattle.entry_tree.specs.State.{ascends, entry_at}
use Rattle.entry_tree.specs.Touched.{identities, joined, change_at, is_change, touched}
use Rattle.sync_model.specs.Message.{CookieText, SyncMessage}
use Rattle.sync_model.specs.Message.SyncMessage.{AddOrModify, Delete}
use Rattle.sync_model.specs.Stream.{SyncOperation, content_after, among, notified, notified_all, group, later}
use Rattle.sync_model.specs.Copy.{Stage, SyncSession, Copy, Answer, slot, staged, effected, goes_on, commit_of, with_cookie, taken_in, taken, taken_all}
use Rattle.sync_model.specs.Copy.Answer.{Stored}
use Rattle.sync_model.specs.Law.{Ascending, settled, cookie_after, is_nil}
use Rattle.sync_model.proofs.Maps.{slot-staged}
use Rattle.entry_tree.proofs.Order.{same_entries}
use Rattle.entry_tree.proofs.Changing.{own_uuid}
use Rattle.sync_model.proofs.Steps.{differing, same_outside}
use Rattle.sync_model.proofs.Gather.{Each}
use Rattle.sync_model.proofs.Taking.{IsOwn, IsKeyed, keyed-staged, taken-own, at-effected, ascends-effected}
use Rattle.sync_model.proofs.Refresh.{ascends-content}

-- a search past its refresh, with something staged
abbrev pub session_on : ℕ → (ended : Bool) → Stage → SyncSession
session_on id ended stage = record { id = id; persists = true; persisting = true; ended = ended; named = []; stage = stage }

-- a copy in the midst of what a write sends
abbrev pub stepping : ℕ → (ended : Bool) → List Entry → Option CookieText → Stage → Copy
stepping id ended held cookie stage = record { held = held; cookie = cookie; session = Some (session_on id ended stage) }

-- these changes are staged, one after another
abbrev pub staged_all : Stage → List EntryChange → Stage
staged_all stage [] = stage
staged_all stage (entry_change ∷ entry_changes) = staged_all (staged entry_change.uuid entry_change.after stage) entry_changes

-- the touch is a change, and the entry that it leaves, where it leaves one, is of its identity
pub record IsStep (entry_change : EntryChange) : Type 0 where
  pub change : is_change entry_change ≡ true
  pub own : IsOwn entry_change.uuid entry_change.after

-- an entry that is put under its own identity
staged_own : (uuid : ℕ) (now : Entry) (stage : Stage) → now.uuid ≡ uuid → staged now.uuid (Some now) stage ≡ staged uuid (Some now) stage
staged_own uuid now stage own = ap (λ v. staged v (Some now) stage) own

-- a step is reported by one message, which is staged, and with a cookie takes effect
pub record NotifiedOne (cookie : Option CookieText) (entry_change : EntryChange) : Type 0 where
  pub message : SyncMessage
  pub is : notified cookie entry_change.uuid entry_change.before entry_change.after ≡ message ∷ []
  pub outcome : (id : ℕ) (ended : Bool) (held : List Entry) (old : Option CookieText) (stage : Stage)
      → taken_in (stepping id ended held old stage) (session_on id ended stage) message ≡ with_cookie (stepping id ended held old stage) (session_on id ended (staged entry_change.uuid entry_change.after stage)) cookie

-- each step that changes the content is one message, which stages that step
pub notified_one : (cookie : Option CookieText) (entry_change : EntryChange) → IsStep entry_change → NotifiedOne cookie entry_change
notified_one cookie entry_change is = step entry_change.before entry_change.after refl refl is.change is.own where
  put : (adds : Bool) (was : Option Entry) (now : Entry) → entry_change.after ≡ Some now → now.uuid ≡ entry_change.uuid → notified cookie entry_change.uuid entry_change.before entry_change.after ≡ AddOrModify adds now cookie ∷ [] → NotifiedOne cookie entry_change
  put adds was now after own same = record {
    message = AddOrModify adds now cookie;
    is = same;
    outcome = λ id ended held old stage.
        ap (λ more. with_cookie (stepping id ended held old stage) (session_on id ended more) cookie)
        (staged_own entry_change.uuid now stage own ∙ ap (λ change. staged entry_change.uuid change stage) (sym after));
  }

  step : (was now : Option Entry) → entry_change.before ≡ was → entry_change.after ≡ now → not (is_one_found was now) ≡ true → IsOwn entry_change.uuid now → NotifiedOne cookie entry_change
  step None None before after change own = absurd (false≢true change)
  step (Some was) None before after change own = record {
    message = Delete entry_change.uuid (name_text was.dn) cookie;
    is = λ i. notified cookie entry_change.uuid (before i) (after i);
    outcome = λ id ended held old stage.
        ap (λ change. with_cookie (stepping id ended held old stage) (session_on id ended (staged entry_change.uuid change stage)) cookie) (sym after);
  }
  step None (Some now) before after change own = put true None now after own (λ i. notified cookie entry_change.uuid (before i) (after i))
  step (Some was) (Some now) before after change own = put false (Some was) now after own (λ i. notified cookie entry_change.uuid (before i) (after i))

-- what comes of it with a cookie
abbrev pub stores : ℕ → (ended : Bool) → List Entry → Stage → CookieText → Copy × Answer
stores id ended held stage cookie = (settled id true ended (effected held stage) (Some cookie), Stored (commit_of stage (Some cookie)))

-- the message of a step without a cookie stages it
pub one_staged : (entry_change : EntryChange) (one : NotifiedOne None entry_change) (id : ℕ) (ended : Bool) (held : List Entry) (cookie : Option CookieText) (stage : Stage)
    → taken id (stepping id ended held cookie stage) one.message ≡ goes_on (stepping id ended held cookie stage) (session_on id ended (staged entry_change.uuid entry_change.after stage))
one_staged entry_change one id ended held cookie stage =
    taken-own (stepping id ended held cookie stage) (session_on id ended stage) one.message refl ∙ one.outcome id ended held cookie stage

-- the message of a step with a cookie stages it and puts the stage into effect
pub one_stored : (entry_change : EntryChange) (new : CookieText) (one : NotifiedOne (Some new) entry_change) (id : ℕ) (ended : Bool) (held : List Entry) (cookie : Option CookieText) (stage : Stage)
    → taken id (stepping id ended held cookie stage) one.message ≡ stores id ended held (staged entry_change.uuid entry_change.after stage) new
one_stored entry_change new one id ended held cookie stage =
    taken-own (stepping id ended held cookie stage) (session_on id ended stage) one.message refl ∙ one.outcome id ended held cookie stage

-- ---- all touches of a write

touches_taken : (entry_changes : List EntryChange) (entry_change : EntryChange) (new : CookieText) (id : ℕ) (ended : Bool) (held : List Entry) (cookie : Option CookieText) (stage : Stage) → Each IsStep (entry_change ∷ entry_changes)
    → taken_all id (stepping id ended held cookie stage) (notified_all new (entry_change ∷ entry_changes)) ≡ settled id true ended (effected held (staged_all stage (entry_change ∷ entry_changes))) (Some new)
touches_taken [] entry_change new id ended held cookie stage steps =
    let one : NotifiedOne (Some new) entry_change = notified_one (Some new) entry_change steps.0 in
    ap (taken_all id (stepping id ended held cookie stage)) one.is ∙ ap (λ (outcome : Copy × Answer). outcome.0) (one_stored entry_change new one id ended held cookie stage)
touches_taken (next ∷ entry_changes) entry_change new id ended held cookie stage steps =
    let one : NotifiedOne None entry_change = notified_one None entry_change steps.0 in
    ap (λ messages. taken_all id (stepping id ended held cookie stage) (messages ++ notified_all new (next ∷ entry_changes))) one.is
    ∙ ap (λ (outcome : Copy × Answer). taken_all id outcome.0 (notified_all new (next ∷ entry_changes))) (one_staged entry_change one id ended held cookie stage)
    ∙ touches_taken entry_changes next new id ended held cookie (staged entry_change.uuid entry_change.after stage) steps.1

own_of : (entries : List Entry) (uuid : ℕ) (found : Option Entry) → entry_at entries uuid ≡ found → IsOwn uuid found
own_of entries uuid None is = tt
own_of entries uuid (Some entry) is = own_uuid entries uuid entry is

-- what differs between two states is in steps
pub each-touched : (old new : List Entry) → Each IsStep (touched old new)
each-touched old new = go (joined (identities old) (identities new)) where
  go : (uuids : List ℕ) → Each IsStep (filter is_change (map (change_at old new) uuids))
  go [] = tt
  go (uuid ∷ uuids) = step (is_change (change_at old new uuid)) refl (go uuids) where
    step : (b : Bool) → is_change (change_at old new uuid) ≡ b → Each IsStep (filter is_change (map (change_at old new) uuids))
        → Each IsStep (cond b (change_at old new uuid ∷ filter is_change (map (change_at old new) uuids)) (filter is_change (map (change_at old new) uuids)))
    step true change ih = (record { change = change; own = own_of new uuid (entry_at new uuid) refl }, ih)
    step false change ih = ih

-- each touch leaves what the new state has
pub each-now : (old new : List Entry) → Each (λ entry_change. entry_change.after ≡ entry_at new entry_change.uuid) (touched old new)
each-now old new = go (joined (identities old) (identities new)) where
  go : (uuids : List ℕ) → Each (λ entry_change. entry_change.after ≡ entry_at new entry_change.uuid) (filter is_change (map (change_at old new) uuids))
  go [] = tt
  go (uuid ∷ uuids) = step (is_change (change_at old new uuid)) (go uuids) where
    step : (b : Bool) → Each (λ entry_change. entry_change.after ≡ entry_at new entry_change.uuid) (filter is_change (map (change_at old new) uuids))
        → Each (λ entry_change. entry_change.after ≡ entry_at new entry_change.uuid) (cond b (change_at old new uuid ∷ filter is_change (map (change_at old new) uuids)) (filter is_change (map (change_at old new) uuids)))
    step true ih = (refl, ih)
    step false ih = ih

slot-staged_all : (entry_changes : List EntryChange) (new : List Entry) (stage : Stage) (u : ℕ) → Each (λ entry_change. entry_change.after ≡ entry_at new entry_change.uuid) entry_changes
    → slot (staged_all stage entry_changes) u ≡ cond (among u (map (λ entry_change. entry_change.uuid) entry_changes)) (Some (entry_at new u)) (slot stage u)
slot-staged_all [] new stage u each = refl
slot-staged_all (entry_change ∷ entry_changes) new stage u each =
    slot-staged_all entry_changes new (staged entry_change.uuid entry_change.after stage) u each.1
    ∙ ap (cond (among u (map (λ t. t.uuid) entry_changes)) (Some (entry_at new u))) (slot-staged stage entry_change.uuid entry_change.after u)
    ∙ step (nat_eq u entry_change.uuid) refl (among u (map (λ t. t.uuid) entry_changes))
  where
    step : (b : Bool) → nat_eq u entry_change.uuid ≡ b → (more : Bool)
        → cond more (Some (entry_at new u)) (cond b (Some entry_change.after) (slot stage u)) ≡ cond (b || more) (Some (entry_at new u)) (slot stage u)
    step true here true = refl
    step true here false = ap Some (each.0 ∙ ap (entry_at new) (sym (eqb-true u entry_change.uuid here)))
    step false off true = refl
    step false off false = refl

keyed-staged_all : (entry_changes : List EntryChange) (stage : Stage) → Each IsStep entry_changes → IsKeyed stage → IsKeyed (staged_all stage entry_changes)
keyed-staged_all [] stage each keyed = keyed
keyed-staged_all (entry_change ∷ entry_changes) stage each keyed =
    keyed-staged_all entry_changes (staged entry_change.uuid entry_change.after stage) each.1 (keyed-staged stage entry_change.uuid entry_change.after each.0.own keyed)

-- what is staged for a write leads, once it takes effect, to the state after it
pub effected-touched : (old new : List Entry) → ascends old ≡ true → ascends new ≡ true → effected old (staged_all [] (touched old new)) ≡ new
effected-touched old new before after =
    same_entries (effected old stage) new (ascends-effected stage old before) after
    (λ u. at-effected stage old u before keyed ∙ ap (λ x. unwrap_or x (entry_at old u)) (slot-staged_all (touched old new) new [] u (each-now old new)) ∙ at u (among u (differing old new)) refl)
  where
    stage : Stage
    stage = staged_all [] (touched old new)

    keyed : IsKeyed (staged_all [] (touched old new))
    keyed = keyed-staged_all (touched old new) [] (each-touched old new) tt

    at : (u : ℕ) (b : Bool) → among u (differing old new) ≡ b → unwrap_or (cond b (Some (entry_at new u)) None) (entry_at old u) ≡ entry_at new u
    at u true here = refl
    at u false off = same_outside old new u off

notified_all_some : (entry_changes : List EntryChange) (cookie : CookieText) (entry_change : EntryChange) → IsStep entry_change → is_nil (notified_all cookie (entry_change ∷ entry_changes)) ≡ false
notified_all_some [] cookie entry_change is = ap is_nil (notified_one (Some cookie) entry_change is).is
notified_all_some (next ∷ entry_changes) cookie entry_change is = ap (λ messages. is_nil (messages ++ notified_all cookie (next ∷ entry_changes))) (notified_one None entry_change is).is

-- what a write sends, by the content before it and after it
abbrev pub notified_between : CookieText → List Entry → List Entry → List SyncMessage
notified_between cookie old new = notified_all cookie (touched old new)

-- the messages of a write lead a copy from the content before it to the content after it
pub group_taken : (id : ℕ) (ended : Bool) (old new : List Entry) (cookie : Option CookieText) (next : CookieText) → ascends old ≡ true → ascends new ≡ true
    → taken_all id (settled id true ended old cookie) (notified_between next old new) ≡ settled id true ended new (cond (is_nil (notified_between next old new)) cookie (Some next))
group_taken id ended old new cookie next before after = step (touched old new) (effected-touched old new before after) (each-touched old new) where
  step : (entry_changes : List EntryChange) → effected old (staged_all [] entry_changes) ≡ new → Each IsStep entry_changes
      → taken_all id (settled id true ended old cookie) (notified_all next entry_changes) ≡ settled id true ended new (cond (is_nil (notified_all next entry_changes)) cookie (Some next))
  step [] same each = ap (λ held. settled id true ended held cookie) same
  step (entry_change ∷ entry_changes) same each =
      touches_taken entry_changes entry_change next id ended old cookie [] each
      ∙ ap (λ held. settled id true ended held (Some next)) same
      ∙ ap (λ b. settled id true ended new (cond b cookie (Some next))) (sym (notified_all_some entry_changes next entry_change each.0))

-- taking two lists of messages is taking the one and then the other
pub taken_all-append : (messages more : List SyncMessage) (id : ℕ) (copy : Copy) → taken_all id copy (messages ++ more) ≡ taken_all id (taken_all id copy messages) more
taken_all-append [] more id copy = refl
taken_all-append (message ∷ messages) more id copy = taken_all-append messages more id _

module _ (operation : SyncOperation) (ascending : Ascending operation) where
  -- one more write
  group_ends : (id number : ℕ) (ended : Bool) (cookie : Option CookieText)
      → taken_all id (settled id true ended (content_after operation number) cookie) (group operation number)
      ≡ settled id true ended (content_after operation (number + 1)) (cond (is_nil (group operation number)) cookie (Some (operation.cookies (number + 1))))
  group_ends id number ended cookie =
      group_taken id ended (content_after operation number) (content_after operation (number + 1)) cookie (operation.cookies (number + 1)) (ascends-content operation ascending number) (ascends-content operation ascending (number + 1))

  -- the messages of later writes lead a copy to the content after the last of them
  pub later_ends : (count id from : ℕ) (cookie : Option CookieText) (ended : Bool)
      → taken_all id (settled id true ended (content_after operation from) cookie) (later operation from count)
      ≡ settled id true ended (content_after operation (from + count)) (cookie_after operation cookie from count)
  later_ends zero id from cookie ended =
      let same : from ≡ from + 0 = omega arith in
      ap (λ number. settled id true ended (content_after operation number) cookie) same
  later_ends (suc count) id from cookie ended =
      let same : from + count + 1 ≡ from + suc count = omega arith in
      taken_all-append (later operation from count) (group operation (from + count)) id (settled id true ended (content_after operation from) cookie)
      ∙ ap (λ copy. taken_all id copy (group operation (from + count))) (later_ends count id from cookie ended)
      ∙ group_ends id (from + count) ended (cookie_after operation cookie from count)
      ∙ ap (λ number. settled id true ended (content_after operation number) (cookie_after operation cookie from (suc count))) same
