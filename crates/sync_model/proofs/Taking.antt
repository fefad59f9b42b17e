-- What a part of a refresh does to a copy, as a whole and at one identity.
use Rattle.std.proofs.Common.{◌≡◌, ℕ, Bool, true, false, cond, nat_eq, nat_lt, List, [], ◌∷◌, ◌++◌, refl, sym, ap, ◌∙◌, arith, Some, None, Option, ◌⊎◌, inl, inr, ⊎_elim, subst}
use Rattle.std.specs.Prelude.{not, ◌||◌, ◌&&◌, ⊤, is_some, find}
use Rattle.std.specs.Option.{unwrap_or}
use Rattle.std.specs.Ordering.{match_ordering}
use Rattle.std.specs.declared.cmp.Ordering.TheVariants.{Less, Equal, Greater}
use Rattle.std.proofs.lemmas.Bool.Decides.{nat_tests}
use Rattle.std.proofs.lemmas.Bool.{cases_Bool, eqb-true, eq-eqb, cond-false, cond-true, or_parts, or_right, false≢true}
use Rattle.std.proofs.Math.Bool.{or-false}
use Rattle.entry_tree.specs.declared.entry.Entry.{Entry}
use Rattle.entry_tree.specs.State.{ascends, entry_at, is_identified}
use Rattle.entry_tree.specs.Touched.{identities, joined}
use Rattle.entry_tree.proofs.Directory.{ascends_filter}
use Rattle.entry_tree.proofs.Putting.{ascends_put, entry_at_put}
use Rattle.entry_tree.proofs.Taking.{among_identities}
use Rattle.sync_model.specs.Message.{CookieText, SyncMessage}
use Rattle.sync_model.specs.Message.SyncMessage.{AddOrModify, Delete, Present, IdSet, NewCookie, RefreshDelete, RefreshPresent, Done, Ignored}
use Rattle.sync_model.specs.Stream.{among}
use Rattle.sync_model.specs.Copy.{Stage, SyncSession, Copy, Answer, slot, is_put, is_known, staged, all_dropped, put_or_dropped, effected, unmentioned, present_ended, named_unless, goes_on, taken_in, taken_by, taken, taken_all}
use Rattle.sync_model.proofs.Maps.{slot-staged, slot-all_dropped, among-joined, among-filter, entry_at-dropped}
use Rattle.sync_model.proofs.Gather.{Each, IsPart, EachM, meant, meant_by, each-among}

-- a search that runs, with these names and this stage
abbrev pub session_in : ℕ → (persists ended : Bool) → List ℕ → Stage → SyncSession
session_in id persists ended named stage = record { id = id; persists = persists; persisting = false; ended = ended; named = named; stage = stage }

-- a copy in the refresh
abbrev pub refreshing : ℕ → List Entry → Option CookieText → (persists ended : Bool) → List ℕ → Stage → Copy
refreshing id held cookie persists ended named stage = record { held = held; cookie = cookie; session = Some (session_in id persists ended named stage) }

-- what a message of a part names and stages
abbrev pub named_by : List ℕ → SyncMessage → List ℕ
named_by named (IdSet d uuids cookie) = cond d named (joined named uuids)
named_by named (AddOrModify adds entry cookie) = named
named_by named (Delete uuid name cookie) = named
named_by named (Present uuid cookie) = named
named_by named (NewCookie cookie) = named
named_by named (RefreshDelete done cookie) = named
named_by named (RefreshPresent done cookie) = named
named_by named (Done code control) = named
named_by named Ignored = named

-- the stage after a message
abbrev pub staged_by : Stage → SyncMessage → Stage
staged_by stage (AddOrModify adds entry cookie) = staged entry.uuid (Some entry) stage
staged_by stage (IdSet d uuids cookie) = cond d (all_dropped stage uuids) stage
staged_by stage (Delete uuid name cookie) = stage
staged_by stage (Present uuid cookie) = stage
staged_by stage (NewCookie cookie) = stage
staged_by stage (RefreshDelete done cookie) = stage
staged_by stage (RefreshPresent done cookie) = stage
staged_by stage (Done code control) = stage
staged_by stage Ignored = stage

-- the identities that are named as present after some messages
abbrev pub names_after : List ℕ → List SyncMessage → List ℕ
names_after named [] = named
names_after named (m ∷ ms) = names_after (named_by named m) ms

-- the stage after some messages
abbrev pub stage_after : Stage → List SyncMessage → Stage
stage_after stage [] = stage
stage_after stage (m ∷ ms) = stage_after (staged_by stage m) ms

-- the running search takes a message of its own
pub taken-own : (copy : Copy) (session : SyncSession) (message : SyncMessage) → copy.session ≡ Some session → taken session.id copy message ≡ taken_in copy session message
taken-own copy session message h =
    ap (λ (r : Option SyncSession). taken_by r session.id copy message) h ∙ cond-true (nat_eq session.id session.id) _ _ (eq-eqb session.id session.id refl)

all_known : (held : List Entry) (stage : Stage) (Q : ℕ → Type 0) (us : List ℕ) → ((u : ℕ) → Q u → is_some (entry_at held u) ≡ true) → Each Q us → find (λ u. not (is_known held stage u)) us ≡ None
all_known held stage Q [] known a = refl
all_known held stage Q (u ∷ us) known a =
    ap (λ b. cond (not (b || is_put (slot stage u))) (Some u) (find (λ v. not (is_known held stage v)) us)) (known u a.0) ∙ all_known held stage Q us known a.1

-- a message of a part in the refresh is no fault, and the entries stay
pub taken-one : (m : SyncMessage) (deletes : Bool) (P : Entry → Type 0) (Q : ℕ → Type 0)
    (id : ℕ) (held : List Entry) (cookie : Option CookieText) (persists ended : Bool) (named : List ℕ) (stage : Stage)
    → IsPart deletes P Q m → (deletes ≡ false → (u : ℕ) → Q u → is_some (entry_at held u) ≡ true)
    → taken id (refreshing id held cookie persists ended named stage) m ≡ goes_on (refreshing id held cookie persists ended named stage) (session_in id persists ended (named_by named m) (staged_by stage m))
taken-one (AddOrModify adds entry c) deletes P Q id held cookie persists ended named stage a known =
    taken-own (refreshing id held cookie persists ended named stage) (session_in id persists ended named stage) (AddOrModify adds entry c) refl
    ∙ ap (λ k. taken_in (refreshing id held cookie persists ended named stage) (session_in id persists ended named stage) (AddOrModify adds entry k)) a.0
taken-one (IdSet true us c) deletes P Q id held cookie persists ended named stage a known =
    taken-own (refreshing id held cookie persists ended named stage) (session_in id persists ended named stage) (IdSet true us c) refl
    ∙ ap (λ k. taken_in (refreshing id held cookie persists ended named stage) (session_in id persists ended named stage) (IdSet true us k)) a.0
taken-one (IdSet false us c) deletes P Q id held cookie persists ended named stage a known =
    taken-own (refreshing id held cookie persists ended named stage) (session_in id persists ended named stage) (IdSet false us c) refl
    ∙ ap (λ found. named_unless found (refreshing id held cookie persists ended named stage) (session_in id persists ended named stage) us)
    (all_known held stage Q us (known (sym a.1)) a.2)
taken-one (Delete u p c) deletes P Q id held cookie persists ended named stage a known = absurd a
taken-one (Present u c) deletes P Q id held cookie persists ended named stage a known = absurd a
taken-one (NewCookie c) deletes P Q id held cookie persists ended named stage a known = absurd a
taken-one (RefreshDelete done c) deletes P Q id held cookie persists ended named stage a known = absurd a
taken-one (RefreshPresent done c) deletes P Q id held cookie persists ended named stage a known = absurd a
taken-one (Done code c) deletes P Q id held cookie persists ended named stage a known = absurd a
taken-one Ignored deletes P Q id held cookie persists ended named stage a known = absurd a

-- what a copy makes of messages that put and name entries, with any messages after them
pub taken-part : (ms : List SyncMessage) (rest : List SyncMessage) (deletes : Bool) (P : Entry → Type 0) (Q : ℕ → Type 0)
    (id : ℕ) (held : List Entry) (cookie : Option CookieText) (persists ended : Bool) (named : List ℕ) (stage : Stage)
    → EachM deletes P Q ms → (deletes ≡ false → (u : ℕ) → Q u → is_some (entry_at held u) ≡ true)
    → taken_all id (refreshing id held cookie persists ended named stage) (ms ++ rest)
    ≡ taken_all id (refreshing id held cookie persists ended (names_after named ms) (stage_after stage ms)) rest
taken-part [] rest deletes P Q id held cookie persists ended named stage a known = refl
taken-part (m ∷ ms) rest deletes P Q id held cookie persists ended named stage a known =
    ap (λ (outcome : Copy × Answer). taken_all id outcome.0 (ms ++ rest)) (taken-one m deletes P Q id held cookie persists ended named stage a.0 known)
    ∙ taken-part ms rest deletes P Q id held cookie persists ended (named_by named m) (staged_by stage m) a.1 known

-- ---- each put stands under its entry's identity

-- a change of an identity puts an entry of that identity, or drops it
abbrev pub IsOwn : ℕ → Option Entry → Type 0
IsOwn u None = ⊤
IsOwn u (Some entry) = entry.uuid ≡ u

-- each change of a stage puts an entry of its own identity, or drops it
abbrev pub IsKeyed : Stage → Type 0
IsKeyed stage = Each (λ (change : ℕ × Option Entry). IsOwn change.0 change.1) stage

-- a stage is keyed with one more change that is one of its identity
pub keyed-staged : (stage : Stage) (v : ℕ) (change : Option Entry) → IsOwn v change → IsKeyed stage → IsKeyed (staged v change stage)
keyed-staged [] v change own keyed = (own, tt)
keyed-staged (s ∷ stage) v change own keyed = step (keyed-staged stage v change own keyed.1) _ _ refl refl where
  step : IsKeyed (staged v change stage) → (l q : Bool) → nat_lt v s.0 ≡ l → nat_eq v s.0 ≡ q
      → IsKeyed (match_ordering (cond l Less (cond q Equal Greater)) ((v, change) ∷ s ∷ stage) ((s.0, change) ∷ stage) (s ∷ staged v change stage))
  step ih true q _ _ = (own, keyed)
  step ih false true _ same = (subst (λ k. IsOwn k change) (eqb-true v s.0 same) own, keyed.1)
  step ih false false _ _ = (keyed.0, ih)

-- it does where identities are dropped
pub keyed-all_dropped : (us : List ℕ) (stage : Stage) → IsKeyed stage → IsKeyed (all_dropped stage us)
keyed-all_dropped [] stage keyed = keyed
keyed-all_dropped (u ∷ us) stage keyed = keyed-all_dropped us (staged u None stage) (keyed-staged stage u None tt keyed)

-- a stage is keyed after the end of a present phase
pub keyed-present_ended : (named : List ℕ) (stage : Stage) (held : List Entry) → IsKeyed stage → IsKeyed (present_ended named stage held)
keyed-present_ended named stage held keyed = keyed-all_dropped (unmentioned named stage held) stage keyed

if_keyed : (b : Bool) (one other : Stage) → IsKeyed one → IsKeyed other → IsKeyed (cond b one other)
if_keyed true one other h k = h
if_keyed false one other h k = k

-- it does after a message is staged
pub keyed-staged_by : (m : SyncMessage) (stage : Stage) → IsKeyed stage → IsKeyed (staged_by stage m)
keyed-staged_by (AddOrModify adds entry c) stage keyed = keyed-staged stage entry.uuid (Some entry) refl keyed
keyed-staged_by (IdSet d us c) stage keyed = if_keyed d (all_dropped stage us) stage (keyed-all_dropped us stage keyed) keyed
keyed-staged_by (Delete u p c) stage keyed = keyed
keyed-staged_by (Present u c) stage keyed = keyed
keyed-staged_by (NewCookie c) stage keyed = keyed
keyed-staged_by (RefreshDelete done c) stage keyed = keyed
keyed-staged_by (RefreshPresent done c) stage keyed = keyed
keyed-staged_by (Done code c) stage keyed = keyed
keyed-staged_by Ignored stage keyed = keyed

-- a stage is keyed after messages
pub keyed-stage_after : (ms : List SyncMessage) (stage : Stage) → IsKeyed stage → IsKeyed (stage_after stage ms)
keyed-stage_after [] stage keyed = keyed
keyed-stage_after (m ∷ ms) stage keyed = keyed-stage_after ms (staged_by stage m) (keyed-staged_by m stage keyed)

-- ---- at one identity

-- entries ascend after a stage took effect on them
pub ascends-effected : (stage : Stage) (held : List Entry) → ascends held ≡ true → ascends (effected held stage) ≡ true
ascends-effected [] held asc = asc
ascends-effected (s ∷ stage) held asc = step s.1 (ascends-effected stage held asc) where
  step : (change : Option Entry) → ascends (effected held stage) ≡ true → ascends (put_or_dropped (effected held stage) s.0 change) ≡ true
  step None ih = ascends_filter (λ entry. not (is_identified s.0 entry)) (effected held stage) ih
  step (Some entry) ih = ascends_put entry (effected held stage) ih

-- what an identity has after a stage took effect: what is staged of it, else what it had
pub at-effected : (stage : Stage) (held : List Entry) (u : ℕ) → ascends held ≡ true → IsKeyed stage → entry_at (effected held stage) u ≡ unwrap_or (slot stage u) (entry_at held u)
at-effected [] held u asc keyed = refl
at-effected (s ∷ stage) held u asc keyed = step s.1 keyed.0 (at-effected stage held u asc keyed.1) (ascends-effected stage held asc) where
  step : (change : Option Entry) → IsOwn s.0 change → entry_at (effected held stage) u ≡ unwrap_or (slot stage u) (entry_at held u) → ascends (effected held stage) ≡ true
      → entry_at (put_or_dropped (effected held stage) s.0 change) u ≡ unwrap_or (cond (nat_eq u s.0) (Some change) (slot stage u)) (entry_at held u)
  step None own ih asc = grind (arith, nat_tests, entry_at-dropped (effected held stage) s.0 u)
  step (Some entry) own ih asc = grind (arith, nat_tests, entry_at_put entry (effected held stage) u asc)

-- what the end of a present phase stages is the drop of what was held and not named
pub slot-present_ended : (named : List ℕ) (stage : Stage) (held : List Entry) (u : ℕ)
    → slot (present_ended named stage held) u ≡ cond (is_some (entry_at held u) && not (among u named || is_put (slot stage u))) (Some None) (slot stage u)
slot-present_ended named stage held u =
    slot-all_dropped (unmentioned named stage held) stage u
    ∙ ap (λ b. cond b (Some None) (slot stage u))
    (among-filter (λ v. not (among v named || is_put (slot stage v))) (identities held) u ∙ ap (λ b. b && not (among u named || is_put (slot stage u))) (among_identities held u))

-- the slot at u is as it is to be: t comes out, and the end of a present phase leaves it
pub record Fine (held : List Entry) (t : Option Entry) (named : List ℕ) (stage : Stage) (u : ℕ) : Type 0 where
  pub outcome : unwrap_or (slot stage u) (entry_at held u) ≡ t
  pub marked : (slot stage u ≡ Some t) ⊎ (among u named ≡ true)

-- what is said of u in a part is right
pub record Right (deletes : Bool) (P : Entry → Type 0) (Q : ℕ → Type 0) (held : List Entry) (t : Option Entry) (u : ℕ) : Type 0 where
  pub sent : (entry : Entry) → P entry → entry.uuid ≡ u → t ≡ Some entry
  pub dropped : deletes ≡ true → Q u → t ≡ None
  pub kept : deletes ≡ false → Q u → entry_at held u ≡ t

staged_fine : (held : List Entry) (t : Option Entry) (named : List ℕ) (stage : Stage) (u : ℕ) → slot stage u ≡ Some t → Fine held t named stage u
staged_fine held t named stage u h = record { outcome = ap (λ x. unwrap_or x (entry_at held u)) h; marked = inl h }

same_fine : (held : List Entry) (t : Option Entry) (named : List ℕ) (old new : Stage) (u : ℕ) → slot new u ≡ slot old u → Fine held t named old u → Fine held t named new u
same_fine held t named old new u e f = record {
  outcome = ap (λ x. unwrap_or x (entry_at held u)) e ∙ f.outcome;
  marked = ⊎_elim (λ h. inl (e ∙ h)) (λ h. inr h) f.marked;
}

module _ (deletes : Bool) (P : Entry → Type 0) (Q : ℕ → Type 0) (held : List Entry) (t : Option Entry) (u : ℕ) where
  put_here : (stage : Stage) (entry : Entry) → Right deletes P Q held t u → P entry → nat_eq u entry.uuid ≡ true → slot (staged entry.uuid (Some entry) stage) u ≡ Some t
  put_here stage entry r p here =
      slot-staged stage entry.uuid (Some entry) u ∙ cond-true _ _ _ here ∙ sym (ap Some (r.sent entry p (sym (eqb-true u entry.uuid here))))

  put_off : (stage : Stage) (entry : Entry) → nat_eq u entry.uuid ≡ false → slot (staged entry.uuid (Some entry) stage) u ≡ slot stage u
  put_off stage entry off = slot-staged stage entry.uuid (Some entry) u ∙ cond-false _ _ _ off

  dropped_here : (stage : Stage) (us : List ℕ) → Right deletes P Q held t u → deletes ≡ true → Each Q us → among u us ≡ true → slot (all_dropped stage us) u ≡ Some t
  dropped_here stage us r d a here = slot-all_dropped us stage u ∙ cond-true _ _ _ here ∙ sym (ap Some (r.dropped d (each-among Q us u a here)))

  dropped_off : (stage : Stage) (us : List ℕ) → among u us ≡ false → slot (all_dropped stage us) u ≡ slot stage u
  dropped_off stage us off = slot-all_dropped us stage u ∙ cond-false _ _ _ off

  more_names : (named us : List ℕ) (stage : Stage) → Fine held t named stage u → Fine held t (joined named us) stage u
  more_names named us stage f = record {
    outcome = f.outcome;
    marked = ⊎_elim (λ h. inl h) (λ h. inr (among-joined us named u ∙ ap (λ b. b || among u us) h)) f.marked;
  }

  fine_one : (m : SyncMessage) (named : List ℕ) (stage : Stage) → Right deletes P Q held t u → IsPart deletes P Q m → Fine held t named stage u → Fine held t (named_by named m) (staged_by stage m) u
  fine_one (AddOrModify adds entry c) named stage r a f = elim (cases_Bool (nat_eq u entry.uuid)) [
    | inl here ↦ staged_fine held t named _ u (put_here stage entry r a.1 here)
    | inr off ↦ same_fine held t named stage _ u (put_off stage entry off) f
  ]
  fine_one (IdSet true us c) named stage r a f = elim (cases_Bool (among u us)) [
    | inl here ↦ staged_fine held t named _ u (dropped_here stage us r (sym a.1) a.2 here)
    | inr off ↦ same_fine held t named stage _ u (dropped_off stage us off) f
  ]
  fine_one (IdSet false us c) named stage r a f = more_names named us stage f
  fine_one (Delete v p c) named stage r a f = absurd a
  fine_one (Present v c) named stage r a f = absurd a
  fine_one (NewCookie c) named stage r a f = absurd a
  fine_one (RefreshDelete done c) named stage r a f = absurd a
  fine_one (RefreshPresent done c) named stage r a f = absurd a
  fine_one (Done code c) named stage r a f = absurd a
  fine_one Ignored named stage r a f = absurd a

  -- what is right at an identity stays so over messages that are right there
  pub fine_stays : (ms : List SyncMessage) (named : List ℕ) (stage : Stage) → Right deletes P Q held t u → EachM deletes P Q ms → Fine held t named stage u → Fine held t (names_after named ms) (stage_after stage ms) u
  fine_stays [] named stage r a f = f
  fine_stays (m ∷ ms) named stage r a f = fine_stays ms (named_by named m) (staged_by stage m) r a.1 (fine_one m named stage r a.0 f)

  -- a message that speaks of u makes its slot fine
  fine_said : (m : SyncMessage) (named : List ℕ) (stage : Stage) → Right deletes P Q held t u → IsPart deletes P Q m → slot stage u ≡ None → meant_by u m ≡ true → Fine held t (named_by named m) (staged_by stage m) u
  fine_said (AddOrModify adds entry c) named stage r a clear here = staged_fine held t named _ u (put_here stage entry r a.1 here)
  fine_said (IdSet true us c) named stage r a clear here = staged_fine held t named _ u (dropped_here stage us r (sym a.1) a.2 here)
  fine_said (IdSet false us c) named stage r a clear here = record {
    outcome = ap (λ x. unwrap_or x (entry_at held u)) clear ∙ r.kept (sym a.1) (each-among Q us u a.2 here);
    marked = inr (among-joined us named u ∙ or_right _ _ here);
  }
  fine_said (Delete v p c) named stage r a clear here = absurd a
  fine_said (Present v c) named stage r a clear here = absurd a
  fine_said (NewCookie c) named stage r a clear here = absurd a
  fine_said (RefreshDelete done c) named stage r a clear here = absurd a
  fine_said (RefreshPresent done c) named stage r a clear here = absurd a
  fine_said (Done code c) named stage r a clear here = absurd a
  fine_said Ignored named stage r a clear here = absurd a

  -- one that does not leaves the slot and the names as they are there
  stage_kept : (m : SyncMessage) (stage : Stage) → IsPart deletes P Q m → meant_by u m ≡ false → slot (staged_by stage m) u ≡ slot stage u
  stage_kept (AddOrModify adds entry c) stage a off = put_off stage entry off
  stage_kept (IdSet true us c) stage a off = dropped_off stage us off
  stage_kept (IdSet false us c) stage a off = refl
  stage_kept (Delete v p c) stage a off = absurd a
  stage_kept (Present v c) stage a off = absurd a
  stage_kept (NewCookie c) stage a off = absurd a
  stage_kept (RefreshDelete done c) stage a off = absurd a
  stage_kept (RefreshPresent done c) stage a off = absurd a
  stage_kept (Done code c) stage a off = absurd a
  stage_kept Ignored stage a off = absurd a

  names_kept : (m : SyncMessage) (named : List ℕ) → IsPart deletes P Q m → meant_by u m ≡ false → among u (named_by named m) ≡ among u named
  names_kept (AddOrModify adds entry c) named a off = refl
  names_kept (IdSet true us c) named a off = refl
  names_kept (IdSet false us c) named a off = among-joined us named u ∙ ap (λ b. among u named || b) off ∙ or-false (among u named)
  names_kept (Delete v p c) named a off = absurd a
  names_kept (Present v c) named a off = absurd a
  names_kept (NewCookie c) named a off = absurd a
  names_kept (RefreshDelete done c) named a off = absurd a
  names_kept (RefreshPresent done c) named a off = absurd a
  names_kept (Done code c) named a off = absurd a
  names_kept Ignored named a off = absurd a

  -- what is said of u once makes its slot fine
  pub fine_once : (ms : List SyncMessage) (named : List ℕ) (stage : Stage) → Right deletes P Q held t u → EachM deletes P Q ms → slot stage u ≡ None → meant u ms ≡ true → Fine held t (names_after named ms) (stage_after stage ms) u
  fine_once [] named stage r a clear h = absurd (false≢true h)
  fine_once (m ∷ ms) named stage r a clear h = elim (cases_Bool (meant_by u m)) [
    | inl here ↦ fine_stays ms (named_by named m) (staged_by stage m) r a.1 (fine_said m named stage r a.0 clear here)
    | inr off ↦ fine_once ms (named_by named m) (staged_by stage m) r a.1 (stage_kept m stage a.0 off ∙ clear) (sym (ap (λ b. b || meant u ms) off) ∙ h)
  ]

  -- where nothing is said of u its slot stays
  pub stage_untouched : (ms : List SyncMessage) (stage : Stage) → EachM deletes P Q ms → meant u ms ≡ false → slot (stage_after stage ms) u ≡ slot stage u
  stage_untouched [] stage a h = refl
  stage_untouched (m ∷ ms) stage a h =
      let p = or_parts (meant_by u m) (meant u ms) h in
      stage_untouched ms (staged_by stage m) a.1 p.1 ∙ stage_kept m stage a.0 p.0

  -- messages that are not about an identity do not name it
  pub names_untouched : (ms : List SyncMessage) (named : List ℕ) → EachM deletes P Q ms → meant u ms ≡ false → among u (names_after named ms) ≡ among u named
  names_untouched [] named a h = refl
  names_untouched (m ∷ ms) named a h =
      let p = or_parts (meant_by u m) (meant u ms) h in
      names_untouched ms (named_by named m) a.1 p.1 ∙ names_kept m named a.0 p.0

-- in a delete phase what is said of u once is staged, whatever was staged before
module _ (P : Entry → Type 0) (Q : ℕ → Type 0) (held : List Entry) (t : Option Entry) (u : ℕ) where
  last_said : (m : SyncMessage) (stage : Stage) → Right true P Q held t u → IsPart true P Q m → meant_by u m ≡ true → slot (staged_by stage m) u ≡ Some t
  last_said (AddOrModify adds entry c) stage r a here = put_here true P Q held t u stage entry r a.1 here
  last_said (IdSet true us c) stage r a here = dropped_here true P Q held t u stage us r refl a.2 here
  last_said (IdSet false us c) stage r a here = absurd (false≢true a.1)
  last_said (Delete v p c) stage r a here = absurd a
  last_said (Present v c) stage r a here = absurd a
  last_said (NewCookie c) stage r a here = absurd a
  last_said (RefreshDelete done c) stage r a here = absurd a
  last_said (RefreshPresent done c) stage r a here = absurd a
  last_said (Done code c) stage r a here = absurd a
  last_said Ignored stage r a here = absurd a

  -- what is staged of an identity at the end of a delete phase is what it is to have
  pub staged_last : (ms : List SyncMessage) (stage : Stage) → Right true P Q held t u → EachM true P Q ms → (meant u ms ≡ true) ⊎ (slot stage u ≡ Some t) → slot (stage_after stage ms) u ≡ Some t
  staged_last [] stage r a (inl h) = absurd (false≢true h)
  staged_last [] stage r a (inr h) = h
  staged_last (m ∷ ms) stage r a h = staged_last ms (staged_by stage m) r a.1 (elim (cases_Bool (meant_by u m)) [
    | inl here ↦ inr (last_said m stage r a.0 here)
    | inr off ↦ ⊎_elim (λ k. inl (sym (ap (λ b. b || meant u ms) off) ∙ k)) (λ s. inr (stage_kept true P Q held t u m stage a.0 off ∙ s)) h
  ])

-- the end of a present phase leaves a fine slot's outcome
pub ended_fine : (held : List Entry) (t : Option Entry) (named : List ℕ) (stage : Stage) (u : ℕ) → Fine held t named stage u → unwrap_or (slot (present_ended named stage held) u) (entry_at held u) ≡ t
ended_fine held t named stage u f = ap (λ x. unwrap_or x (entry_at held u)) (slot-present_ended named stage held u) ∙ ⊎_elim (staged_case t) named_case f.marked where
  named_case : among u named ≡ true → unwrap_or (cond (is_some (entry_at held u) && not (among u named || is_put (slot stage u))) (Some None) (slot stage u)) (entry_at held u) ≡ t
  named_case h = let o : unwrap_or (slot stage u) (entry_at held u) ≡ t = f.outcome in grind (arith, nat_tests, o)

  staged_case : (x : Option Entry) → slot stage u ≡ Some x → unwrap_or (cond (is_some (entry_at held u) && not (among u named || is_put (slot stage u))) (Some None) (slot stage u)) (entry_at held u) ≡ x
  staged_case None h = grind (arith, nat_tests)
  staged_case (Some e) h = grind (arith, nat_tests)

-- what was neither said nor staged is dropped by the end of a present phase
pub ended_clear : (held : List Entry) (named : List ℕ) (stage : Stage) (u : ℕ) → slot stage u ≡ None → among u named ≡ false → unwrap_or (slot (present_ended named stage held) u) (entry_at held u) ≡ None
ended_clear held named stage u h k = ap (λ x. unwrap_or x (entry_at held u)) (slot-present_ended named stage held u) ∙ rw (h, k) (step (entry_at held u)) where
  step : (x : Option Entry) → unwrap_or (cond (is_some x && not (false || false)) (Some None) None) x ≡ None
  step None = refl
  step (Some e) = refl
