-- What a copy has wherever the messages of a search are cut off.
use Rattle.std.proofs.Common.{◌≡◌, ℕ, zero, suc, ◌+◌, Bool, true, false, cond, List, [], ◌∷◌, ◌++◌, refl, sym, ap, ◌∙◌, arith, Some, None, Option, ◌⊎◌, inl, inr, ⊎_elim, subst, append_assoc}
use Rattle.std.specs.Prelude.{not, ◌||◌, ◌&&◌, ◌==◌, ⊤, flat_map, find}
use Rattle.std.proofs.lemmas.Bool.{cases_Bool, cond-false, cond-true, false≢true, true≢false}
use Rattle.std.proofs.lemmas.List.{append-nil}
use Rattle.dn_names.specs.Writing.{name_text}
use Rattle.entry_tree.specs.declared.entry.Entry.{Entry}
use Rattle.entry_tree.specs.declared.touched.EntryChange.{EntryChange}
use Rattle.entry_tree.specs.Bytes.{is_one_found}
use Rattle.entry_tree.specs.State.{ascends}
use Rattle.sync_model.specs.Message.{CookieText, SyncMessage}
use Rattle.sync_model.specs.Message.SyncMessage.{AddOrModify, Delete, Present, IdSet, NewCookie, RefreshDelete, RefreshPresent, Done, Ignored}
use Rattle.sync_model.specs.Stream.{SyncOperation, Start, RefreshPiece, WalkDecision, content_after, is_delete_phase, decide_piece, decide_late, gathered, last_mark, late_uuids, end_of, after_walk, refresh, notified, notified_all, group, later, stream}
use Rattle.sync_model.specs.Copy.{SyncSession, Copy, Fault, Answer, asked, staged, all_dropped, refused, goes_on, with_cookie, is_known, named_unless, ends_phase, taken_names, taken_info, taken_in, taken_by, taken, taken_all}
use Rattle.sync_model.specs.Copy.Fault.{OutOfPlace, PresentUnknown}
use Rattle.entry_tree.specs.Touched.{joined, touched}
use Rattle.sync_model.specs.Copy.Answer.{Staged, Stored, Copied, Over, Refused}
use Rattle.sync_model.specs.Keeping.{KeepsEntriesAndCookie}
use Rattle.sync_model.specs.Law.{Ascending, IsCut, MayBegin, settled, cookie_after, is_nil, ShowsContent, Shows}
use Rattle.sync_model.proofs.Gather.{Each, EachM, each-append, each-prefix, each-gathered}
use Rattle.sync_model.proofs.Refresh.{refresh_ends, marks-last, ascends-content}
use Rattle.sync_model.proofs.Later.{IsStep, each-touched, notified_between, group_taken, later_ends, taken_all-append}
use Rattle.sync_model.proofs.Groups.{heads, tails}
use Rattle.sync_model.proofs.NextMessages.{any_decision}

-- ---- messages that leave the entries and the cookie

-- a message with no cookie that does not end a refresh
abbrev pub IsQuiet : SyncMessage → Type 0
IsQuiet (AddOrModify adds entry cookie) = cookie ≡ None
IsQuiet (Delete uuid name cookie) = cookie ≡ None
IsQuiet (Present uuid cookie) = cookie ≡ None
IsQuiet (IdSet deletes uuids cookie) = cookie ≡ None
IsQuiet (NewCookie cookie) = ⊥
IsQuiet (RefreshDelete done cookie) = done ≡ false
IsQuiet (RefreshPresent done cookie) = done ≡ false
IsQuiet (Done code control) = ⊥
IsQuiet Ignored = ⊤

abbrev pub AllQuiet : List SyncMessage → Type 0
AllQuiet messages = Each IsQuiet messages

-- a stage took effect, or the search is over
abbrev pub is_effect : Answer → Bool
is_effect Staged = false
is_effect (Stored commit) = true
is_effect (Copied commit) = true
is_effect (Over code) = true
is_effect (Refused fault) = false

-- the copy has what it had, and nothing else was reported
record Unchanged (before : Copy) (outcome : Copy × Answer) : Type 0 where
  held : outcome.0.held ≡ before.held
  cookie : outcome.0.cookie ≡ before.cookie
  silent : is_effect outcome.1 ≡ false

unchanged_if : (b : Bool) (copy : Copy) (one other : Copy × Answer) → Unchanged copy one → Unchanged copy other → Unchanged copy (cond b one other)
unchanged_if true copy one other p q = p
unchanged_if false copy one other p q = q

goes_unchanged : (copy : Copy) (session : SyncSession) → Unchanged copy (goes_on copy session)
goes_unchanged copy session = record { held = refl; cookie = refl; silent = refl }

refused_unchanged : (copy : Copy) (fault : Fault) → Unchanged copy (refused copy fault)
refused_unchanged copy fault = record { held = refl; cookie = refl; silent = refl }

quiet_cookie : (copy : Copy) (session : SyncSession) (cookie : Option CookieText) → cookie ≡ None → Unchanged copy (with_cookie copy session cookie)
quiet_cookie copy session None none = goes_unchanged copy session
quiet_cookie copy session (Some cookie) none = let never : ⊥ = cc in absurd never

quiet_names : (copy : Copy) (session : SyncSession) (uuids : List ℕ) → Unchanged copy (taken_names copy session uuids)
quiet_names copy session uuids =
    unchanged_if session.persisting copy (refused copy OutOfPlace) (named_unless (find (λ uuid. not (is_known copy.held session.stage uuid)) uuids) copy session uuids)
    (refused_unchanged copy OutOfPlace)
    (step (find (λ uuid. not (is_known copy.held session.stage uuid)) uuids))
  where
    step : (unknown : Option ℕ) → Unchanged copy (named_unless unknown copy session uuids)
    step None = goes_unchanged copy (record session { named = joined session.named uuids })
    step (Some uuid) = refused_unchanged copy (PresentUnknown uuid)

quiet_phase : (copy : Copy) (session : SyncSession) (deletes done : Bool) (cookie : Option CookieText) → done ≡ false → Unchanged copy (taken_info copy session deletes done cookie)
quiet_phase copy session deletes true cookie quiet = absurd (true≢false quiet)
quiet_phase copy session deletes false cookie quiet =
    unchanged_if (session.persisting || ((false && not session.persists) || (not deletes && session.ended))) copy (refused copy OutOfPlace) (goes_on copy (ends_phase copy.held session deletes))
    (refused_unchanged copy OutOfPlace) (goes_unchanged copy (ends_phase copy.held session deletes))

quiet_in : (message : SyncMessage) (copy : Copy) (session : SyncSession) → IsQuiet message → Unchanged copy (taken_in copy session message)
quiet_in (AddOrModify adds entry cookie) copy session quiet = quiet_cookie copy (record session { stage = staged entry.uuid (Some entry) session.stage }) cookie quiet
quiet_in (Delete uuid name cookie) copy session quiet = quiet_cookie copy (record session { stage = staged uuid None session.stage }) cookie quiet
quiet_in (Present uuid cookie) copy session quiet = quiet_names copy session (uuid ∷ [])
quiet_in (IdSet true uuids cookie) copy session quiet = quiet_cookie copy (record session { stage = all_dropped session.stage uuids }) cookie quiet
quiet_in (IdSet false uuids cookie) copy session quiet = quiet_names copy session uuids
quiet_in (NewCookie cookie) copy session quiet = absurd quiet
quiet_in (RefreshDelete done cookie) copy session quiet = quiet_phase copy session true done cookie quiet
quiet_in (RefreshPresent done cookie) copy session quiet = quiet_phase copy session false done cookie quiet
quiet_in (Done code control) copy session quiet = absurd quiet
quiet_in Ignored copy session quiet = goes_unchanged copy session

quiet_one : (message : SyncMessage) (id : ℕ) (copy : Copy) → IsQuiet message → Unchanged copy (taken id copy message)
quiet_one message id copy quiet = step copy.session where
  step : (session : Option SyncSession) → Unchanged copy (taken_by session id copy message)
  step None = refused_unchanged copy OutOfPlace
  step (Some session) = unchanged_if (id == session.id) copy (taken_in copy session message) (refused copy OutOfPlace) (quiet_in message copy session quiet) (refused_unchanged copy OutOfPlace)

-- so do several of them
pub quiet_all : (messages : List SyncMessage) (id : ℕ) (copy : Copy) → AllQuiet messages → KeepsEntriesAndCookie copy (taken_all id copy messages)
quiet_all [] id copy quiet = record { held = refl; cookie = refl }
quiet_all (message ∷ messages) id copy quiet =
    let first : Unchanged copy (taken id copy message) = quiet_one message id copy quiet.0 in
    let rest : KeepsEntriesAndCookie (taken id copy message).0 (taken_all id (taken id copy message).0 messages) = quiet_all messages id (taken id copy message).0 quiet.1 in
    record { held = rest.held ∙ first.held; cookie = rest.cookie ∙ first.cookie }

-- ---- a part of a refresh is quiet

quiet-part : (messages : List SyncMessage) (deletes : Bool) (P : Entry → Type 0) (Q : ℕ → Type 0) → EachM deletes P Q messages → AllQuiet messages
quiet-part [] deletes P Q part = tt
quiet-part (AddOrModify adds entry cookie ∷ messages) deletes P Q part = (part.0.0, quiet-part messages deletes P Q part.1)
quiet-part (IdSet d uuids cookie ∷ messages) deletes P Q part = (part.0.0, quiet-part messages deletes P Q part.1)
quiet-part (Delete uuid name cookie ∷ messages) deletes P Q part = absurd part.0
quiet-part (Present uuid cookie ∷ messages) deletes P Q part = absurd part.0
quiet-part (NewCookie cookie ∷ messages) deletes P Q part = absurd part.0
quiet-part (RefreshDelete done cookie ∷ messages) deletes P Q part = absurd part.0
quiet-part (RefreshPresent done cookie ∷ messages) deletes P Q part = absurd part.0
quiet-part (Done code control ∷ messages) deletes P Q part = absurd part.0
quiet-part (Ignored ∷ messages) deletes P Q part = absurd part.0

quiet-gathered : (deletes : Bool) (decisions : List WalkDecision) → AllQuiet (gathered deletes decisions)
quiet-gathered deletes decisions =
    quiet-part (gathered deletes decisions) deletes (λ entry. ⊤) (λ uuid. ⊤) (each-gathered deletes (λ entry. ⊤) (λ uuid. ⊤) decisions (any_decision decisions))

-- ---- prefixes of lists

-- a prefix of two lists is one of the first, or the first and a prefix of the second
split_prefix : {X : Type 0} (prefix rest xs ys : List X) → prefix ++ rest ≡ xs ++ ys → ((more : List X) × (prefix ++ more ≡ xs)) ⊎ ((over : List X) × (prefix ≡ xs ++ over) × (over ++ rest ≡ ys))
split_prefix prefix rest [] ys h = inr (prefix, refl, h)
split_prefix [] rest (x ∷ xs) ys h = inl (x ∷ xs, refl)
split_prefix (first ∷ prefix) rest (x ∷ xs) ys h =
    let same : first ≡ x = heads first x (prefix ++ rest) (xs ++ ys) h in
    ⊎_elim
    (λ l. inl (l.0, λ i. same i ∷ l.1 i))
    (λ r. inr (r.0, λ i. same i ∷ r.1 i, r.2))
    (split_prefix prefix rest xs ys (tails first x (prefix ++ rest) (xs ++ ys) h))

nil_prefix : {X : Type 0} (prefix rest : List X) → prefix ++ rest ≡ [] → prefix ≡ []
nil_prefix [] rest h = refl
nil_prefix (first ∷ prefix) rest h = absurd (far h) where
  far : first ∷ (prefix ++ rest) ≡ [] → ⊥
  far q = cc

-- a list of quiet messages and one that is not
record IsClosed (messages : List SyncMessage) : Type 0 where
  quiet : List SyncMessage
  last : SyncMessage
  is : messages ≡ quiet ++ last ∷ []
  all : AllQuiet quiet

closed_prefix : (messages prefix rest : List SyncMessage) → IsClosed messages → prefix ++ rest ≡ messages → AllQuiet prefix ⊎ (prefix ≡ messages)
closed_prefix messages prefix rest closed h = ⊎_elim
    (λ l. inl (each-prefix IsQuiet prefix l.0 (subst AllQuiet (sym l.1) closed.all)))
    (λ r. over r.0 r.1 r.2)
    (split_prefix prefix rest closed.quiet (closed.last ∷ []) (h ∙ closed.is))
  where
    over : (more : List SyncMessage) → prefix ≡ closed.quiet ++ more → more ++ rest ≡ closed.last ∷ [] → AllQuiet prefix ⊎ (prefix ≡ messages)
    over [] p q = inl (subst AllQuiet (sym (p ∙ append-nil closed.quiet)) closed.all)
    over (first ∷ more) p q =
        let none : more ≡ [] = nil_prefix more rest (tails first closed.last (more ++ rest) [] q) in
        let one : first ≡ closed.last = heads first closed.last (more ++ rest) [] q in
        inr (p ∙ (λ i. closed.quiet ++ one i ∷ none i) ∙ sym closed.is)

-- ---- a refresh, and what a write sends, are closed

refresh_closed : (operation : SyncOperation) (start : Start) (accepted : ℕ) (pieces : List RefreshPiece) → IsClosed (refresh operation start accepted pieces)
refresh_closed operation start accepted pieces = step (late_uuids operation accepted last) where
  walked : List SyncMessage
  walked = gathered (is_delete_phase start) (flat_map (decide_piece operation start) pieces)

  last : ℕ
  last = last_mark accepted pieces

  all_walked : AllQuiet walked
  all_walked = quiet-gathered (is_delete_phase start) (flat_map (decide_piece operation start) pieces)

  late : List ℕ → List SyncMessage
  late uuids = gathered true (flat_map (decide_late operation last) uuids)

  all_late : (uuids : List ℕ) → AllQuiet (late uuids)
  all_late uuids = quiet-gathered true (flat_map (decide_late operation last) uuids)

  step : (uuids : List ℕ) → IsClosed (walked ++ after_walk operation (is_delete_phase start) last uuids)
  step [] = record { quiet = walked; last = end_of operation.persists (is_delete_phase start) (operation.cookies last); is = refl; all = all_walked }
  step (uuid ∷ uuids) = more (is_delete_phase start) where
    more : (covered : Bool) → IsClosed (walked ++ (cond covered [] (RefreshPresent false None ∷ []) ++ (late (uuid ∷ uuids) ++ end_of operation.persists true (operation.cookies last) ∷ [])))
    more true = record {
      quiet = walked ++ late (uuid ∷ uuids);
      last = end_of operation.persists true (operation.cookies last);
      is = simp append_assoc;
      all = each-append IsQuiet walked (late (uuid ∷ uuids)) all_walked (all_late (uuid ∷ uuids));
    }
    more false = record {
      quiet = walked ++ (RefreshPresent false None ∷ late (uuid ∷ uuids));
      last = end_of operation.persists true (operation.cookies last);
      is = simp append_assoc;
      all = each-append IsQuiet walked (RefreshPresent false None ∷ late (uuid ∷ uuids)) all_walked (refl, all_late (uuid ∷ uuids));
    }

touches_closed : (entry_changes : List EntryChange) (entry_change : EntryChange) (cookie : CookieText) → Each IsStep (entry_change ∷ entry_changes) → IsClosed (notified_all cookie (entry_change ∷ entry_changes))
touches_closed [] entry_change cookie steps = step entry_change.before entry_change.after steps.0.change where
  step : (was now : Option Entry) → not (is_one_found was now) ≡ true → IsClosed (notified (Some cookie) entry_change.uuid was now)
  step None None change = absurd (false≢true change)
  step (Some was) None change = record { quiet = []; last = Delete entry_change.uuid (name_text was.dn) (Some cookie); is = refl; all = tt }
  step None (Some now) change = record { quiet = []; last = AddOrModify true now (Some cookie); is = refl; all = tt }
  step (Some was) (Some now) change = record { quiet = []; last = AddOrModify false now (Some cookie); is = refl; all = tt }
touches_closed (next ∷ entry_changes) entry_change cookie steps = step entry_change.before entry_change.after (touches_closed entry_changes next cookie steps.1) where
  beyond : (message : SyncMessage) → IsQuiet message → IsClosed (notified_all cookie (next ∷ entry_changes)) → IsClosed (message ∷ notified_all cookie (next ∷ entry_changes))
  beyond message quiet closed = record { quiet = message ∷ closed.quiet; last = closed.last; is = ap (λ messages. message ∷ messages) closed.is; all = (quiet, closed.all) }

  step : (was now : Option Entry) → IsClosed (notified_all cookie (next ∷ entry_changes)) → IsClosed (notified None entry_change.uuid was now ++ notified_all cookie (next ∷ entry_changes))
  step None None closed = closed
  step (Some was) None closed = beyond (Delete entry_change.uuid (name_text was.dn) None) refl closed
  step None (Some now) closed = beyond (AddOrModify true now None) refl closed
  step (Some was) (Some now) closed = beyond (AddOrModify false now None) refl closed

group_prefix : (cookie : CookieText) (old new : List Entry) (prefix rest : List SyncMessage) → prefix ++ rest ≡ notified_between cookie old new → AllQuiet prefix ⊎ (prefix ≡ notified_between cookie old new)
group_prefix cookie old new prefix rest h = step (touched old new) (each-touched old new) h where
  step : (entry_changes : List EntryChange) → Each IsStep entry_changes → prefix ++ rest ≡ notified_all cookie entry_changes → AllQuiet prefix ⊎ (prefix ≡ notified_all cookie entry_changes)
  step [] steps q = inr (nil_prefix prefix rest q)
  step (entry_change ∷ entry_changes) steps q = closed_prefix (notified_all cookie (entry_change ∷ entry_changes)) prefix rest (touches_closed entry_changes entry_change cookie steps) q

-- a list that the test finds empty is
pub nil_is : {X : Type 0} (xs : List X) → is_nil xs ≡ true → xs ≡ []
nil_is [] h = refl
nil_is (x ∷ xs) h = absurd (false≢true h)

-- a write that sends nothing leaves the content
silent_same : (cookie : CookieText) (old new : List Entry) → ascends old ≡ true → ascends new ≡ true → is_nil (notified_between cookie old new) ≡ true → new ≡ old
silent_same cookie old new before after h =
    ap (λ (copy : Copy). copy.held) (sym (group_taken 0 false old new None cookie before after))
    ∙ ap (λ messages. (taken_all 0 (settled 0 true false old None) messages).held) (nil_is (notified_between cookie old new) h)

-- ---- what a copy has after a prefix

module _ (operation : SyncOperation) (ascending : Ascending operation) where
  still : (number : ℕ) → is_nil (group operation number) ≡ true → content_after operation (number + 1) ≡ content_after operation number
  still number silent =
      silent_same (operation.cookies (number + 1)) (content_after operation number) (content_after operation (number + 1)) (ascends-content operation ascending number) (ascends-content operation ascending (number + 1)) silent

  -- the cookie of a settled copy is that of its content
  shows_now : (count from id : ℕ) (ended : Bool)
      → ShowsContent operation from (from + count) (settled id true ended (content_after operation (from + count)) (cookie_after operation (Some (operation.cookies from)) from count))
  shows_now zero from id ended =
      let same : from + 0 ≡ from = omega arith in
      record { number = from; from = omega arith; upto = omega arith; held = ap (content_after operation) same; cookie = refl }
  shows_now (suc count) from id ended =
      let before : ShowsContent operation from (from + count) (settled id true ended (content_after operation (from + count)) (cookie_after operation (Some (operation.cookies from)) from count)) =
      shows_now count from id ended in
      let same : from + suc count ≡ from + count + 1 = omega arith in
      elim (cases_Bool (is_nil (group operation (from + count)))) [
        | inl silent ↦ record {
          number = before.number;
          from = before.from;
          upto = omega (arith, before.upto);
          held = ap (content_after operation) same ∙ still (from + count) silent ∙ before.held;
          cookie = cond-true _ _ _ silent ∙ before.cookie;
        }
        | inr sends ↦ record { number = from + count + 1; from = omega arith; upto = omega arith; held = ap (content_after operation) same; cookie = cond-false _ _ _ sends }
      ]

  later_prefix : (count from id : ℕ) (ended : Bool) (prefix rest : List SyncMessage) → prefix ++ rest ≡ later operation from count
      → ShowsContent operation from (from + count) (taken_all id (settled id true ended (content_after operation from) (Some (operation.cookies from))) prefix)
  later_prefix zero from id ended prefix rest h =
      subst (λ messages. ShowsContent operation from (from + 0) (taken_all id (settled id true ended (content_after operation from) (Some (operation.cookies from))) messages))
      (sym (nil_prefix prefix rest h)) (record { number = from; from = omega arith; upto = omega arith; held = refl; cookie = refl })
  later_prefix (suc count) from id ended prefix rest h = ⊎_elim
      (λ l. more (later_prefix count from id ended prefix l.0 l.1))
      (λ r. ⊎_elim
      (λ quiet. more (inside r.0 r.1 quiet))
      (λ all. subst (λ messages. ShowsContent operation from (from + suc count) (taken_all id first messages)) (sym (r.1 ∙ ap (λ messages. later operation from count ++ messages) all))
      (subst (ShowsContent operation from (from + suc count)) (sym (later_ends operation ascending (suc count) id from (Some (operation.cookies from)) ended)) (shows_now (suc count) from id ended)))
      (group_prefix (operation.cookies (from + count + 1)) (content_after operation (from + count)) (content_after operation (from + count + 1)) r.0 rest r.2))
      (split_prefix prefix rest (later operation from count) (group operation (from + count)) h)
    where
      first : Copy
      first = settled id true ended (content_after operation from) (Some (operation.cookies from))

      more : ShowsContent operation from (from + count) (taken_all id first prefix) → ShowsContent operation from (from + suc count) (taken_all id first prefix)
      more shows = record { number = shows.number; from = shows.from; upto = omega (arith, shows.upto); held = shows.held; cookie = shows.cookie }

      inside : (over : List SyncMessage) → prefix ≡ later operation from count ++ over → AllQuiet over → ShowsContent operation from (from + count) (taken_all id first prefix)
      inside over p quiet =
          let copy : Copy = settled id true ended (content_after operation (from + count)) (cookie_after operation (Some (operation.cookies from)) from count) in
          let shows : ShowsContent operation from (from + count) copy = shows_now count from id ended in
          let same : KeepsEntriesAndCookie copy (taken_all id copy over) = quiet_all over id copy quiet in
          let whole : taken_all id first prefix ≡ taken_all id copy over =
          ap (taken_all id first) p ∙ taken_all-append (later operation from count) over id first ∙ ap (λ c. taken_all id c over) (later_ends operation ascending count id from (Some (operation.cookies from)) ended) in
          subst (ShowsContent operation from (from + count)) (sym whole)
          (record { number = shows.number; from = shows.from; upto = shows.upto; held = same.held ∙ shows.held; cookie = same.cookie ∙ shows.cookie })

  -- a prefix is quiet, or the copy has the content after some of the writes, with its cookie
  pub prefix_cases : (id : ℕ) (start : Start) (accepted : ℕ) (pieces : List RefreshPiece) (count : ℕ) (copy : Copy) (prefix rest : List SyncMessage)
      → IsCut operation start accepted pieces → MayBegin operation start accepted copy.held
      → prefix ++ rest ≡ stream operation start accepted pieces count
      → AllQuiet prefix ⊎ ShowsContent operation accepted (last_mark accepted pieces + count) (taken_all id (asked id operation.persists copy) prefix)
  prefix_cases id start accepted pieces count copy prefix rest cut begins h = ⊎_elim
      (λ l. ⊎_elim (λ quiet. inl quiet) (λ all. inr (whole [] (all ∙ sym (append-nil (refresh operation start accepted pieces))) (past operation.persists [] (cond operation.persists (later operation last count) []) refl)))
      (closed_prefix (refresh operation start accepted pieces) prefix l.0 (refresh_closed operation start accepted pieces) l.1))
      (λ r. inr (whole r.0 r.1 (past operation.persists r.0 rest r.2)))
      (split_prefix prefix rest (refresh operation start accepted pieces) (cond operation.persists (later operation last count) []) h)
    where
      last : ℕ
      last = last_mark accepted pieces

      ends : (ended : Bool) × (taken_all id (asked id operation.persists copy) (refresh operation start accepted pieces) ≡ settled id operation.persists ended (content_after operation last) (Some (operation.cookies last)))
      ends = refresh_ends operation ascending id start accepted pieces copy cut begins

      past : (persists : Bool) (over rest : List SyncMessage) → over ++ rest ≡ cond persists (later operation last count) []
          → ShowsContent operation last (last + count) (taken_all id (settled id persists ends.0 (content_after operation last) (Some (operation.cookies last))) over)
      past true over rest q = later_prefix count last id ends.0 over rest q
      past false over rest q =
          subst (λ messages. ShowsContent operation last (last + count) (taken_all id (settled id false ends.0 (content_after operation last) (Some (operation.cookies last))) messages))
          (sym (nil_prefix over rest q)) (record { number = last; from = omega arith; upto = omega arith; held = refl; cookie = refl })

      whole : (over : List SyncMessage) → prefix ≡ refresh operation start accepted pieces ++ over
          → ShowsContent operation last (last + count) (taken_all id (settled id operation.persists ends.0 (content_after operation last) (Some (operation.cookies last))) over)
          → ShowsContent operation accepted (last + count) (taken_all id (asked id operation.persists copy) prefix)
      whole over p shows =
          let same : taken_all id (asked id operation.persists copy) prefix ≡ taken_all id (settled id operation.persists ends.0 (content_after operation last) (Some (operation.cookies last))) over =
          ap (taken_all id (asked id operation.persists copy)) p ∙ taken_all-append (refresh operation start accepted pieces) over id (asked id operation.persists copy) ∙ ap (λ c. taken_all id c over) ends.1 in
          record {
            number = shows.number;
            from = omega (arith, shows.from, marks-last pieces accepted cut.rises);
            upto = shows.upto;
            held = ap (λ (c : Copy). c.held) same ∙ shows.held;
            cookie = ap (λ (c : Copy). c.cookie) same ∙ shows.cookie;
          }

  -- after any prefix of a search a copy is as before it, or has some later content with its cookie
  pub prefix_shows : (id : ℕ) (start : Start) (accepted : ℕ) (pieces : List RefreshPiece) (count : ℕ) (copy : Copy) (prefix rest : List SyncMessage)
      → IsCut operation start accepted pieces → MayBegin operation start accepted copy.held
      → prefix ++ rest ≡ stream operation start accepted pieces count
      → Shows operation copy accepted (last_mark accepted pieces + count) (taken_all id (asked id operation.persists copy) prefix)
  prefix_shows id start accepted pieces count copy prefix rest cut begins h = ⊎_elim
      (λ quiet. inl (before quiet))
      (λ shows. inr shows)
      (prefix_cases id start accepted pieces count copy prefix rest cut begins h)
    where
      before : AllQuiet prefix → KeepsEntriesAndCookie copy (taken_all id (asked id operation.persists copy) prefix)
      before quiet =
          let same : KeepsEntriesAndCookie (asked id operation.persists copy) (taken_all id (asked id operation.persists copy) prefix) = quiet_all prefix id (asked id operation.persists copy) quiet in
          record { held = same.held; cookie = same.cookie }
