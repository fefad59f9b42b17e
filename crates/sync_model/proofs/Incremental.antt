-- From a cookie only what was touched since is sent whole, and later messages are about what their write changed.
use Rattle.std.proofs.Common.{◌≡◌, ◌≤◌, ℕ, zero, suc, ◌+◌, ◌-◌, Bool, true, false, List, [], ◌∷◌, ◌++◌, map, refl, sym, ap, ◌∙◌, arith, Some, None, Option, inl, inr, ⊎_elim, subst, cond}
use Rattle.std.specs.Prelude.{not, ◌||◌, ⊤, flat_map, filter_map, All}
use Rattle.std.proofs.lemmas.Bool.{cases_Bool, eq-eqb, false≢true, or_cases, or_right}
use Rattle.std.proofs.lemmas.List.{append-nil}
use Rattle.std.proofs.lemmas.List.Elements.{All-nil, All-cons}
use Rattle.entry_tree.specs.declared.entry.Entry.{Entry}
use Rattle.entry_tree.specs.declared.touched.EntryChange.{EntryChange}
use Rattle.entry_tree.specs.Bytes.{is_one_found}
use Rattle.entry_tree.specs.State.{entry_at}
use Rattle.entry_tree.specs.Touched.{touched}
use Rattle.entry_tree.specs.History.{differing_over}
use Rattle.sync_model.specs.Message.{CookieText, SyncMessage}
use Rattle.sync_model.specs.Message.SyncMessage.{AddOrModify, Delete, Present, IdSet, NewCookie, RefreshDelete, RefreshPresent, Done, Ignored}
use Rattle.sync_model.specs.Stream.{SyncOperation, Start, RefreshPiece, content_after, among, is_delete_phase, walk, decided, decide, decide_piece, decide_late, gathered, last_mark, late_uuids, end_of, after_walk, refresh, notified, notified_all, group}
use Rattle.sync_model.specs.Stream.Start.{InitialContent, DeletePhase, PresentPhase}
use Rattle.sync_model.specs.Law.{Ascending, MarksRise, IsCut}
use Rattle.sync_model.specs.Incremental.{number_of, sent_entry, about}
use Rattle.entry_tree.proofs.Same.{one_found-same}
use Rattle.entry_tree.proofs.Changing.{own_uuid}
use Rattle.sync_model.proofs.Steps.{differing, among-differing, same_outside, over_none, among-over_more, over_split}
use Rattle.sync_model.proofs.Gather.{Each, EachD, EachM, each-append, eachd-append, each-gathered}
use Rattle.sync_model.proofs.Refresh.{marks-last, found, found_from_state}
use Rattle.sync_model.proofs.Taking.{IsOwn}
use Rattle.sync_model.proofs.Later.{IsStep, each-touched}

-- in either phase a search begins with the number of its cookie
pub number_of-phase : (b : Bool) (n : ℕ) → number_of (cond b (DeletePhase n) (PresentPhase n)) ≡ Some n
number_of-phase true n = refl
number_of-phase false n = refl

-- ---- entries that are sent

-- P of the entry that a message sends whole
abbrev pub IsSent : (Entry → Type 0) → SyncMessage → Type 0
IsSent P (AddOrModify adds entry cookie) = P entry
IsSent P (Delete uuid name cookie) = ⊤
IsSent P (Present uuid cookie) = ⊤
IsSent P (IdSet deletes uuids cookie) = ⊤
IsSent P (NewCookie cookie) = ⊤
IsSent P (RefreshDelete done cookie) = ⊤
IsSent P (RefreshPresent done cookie) = ⊤
IsSent P (Done code control) = ⊤
IsSent P Ignored = ⊤

sent-part : (messages : List SyncMessage) (deletes : Bool) (P : Entry → Type 0) (Q : ℕ → Type 0) → EachM deletes P Q messages → Each (IsSent P) messages
sent-part [] deletes P Q part = tt
sent-part (AddOrModify adds entry cookie ∷ messages) deletes P Q part = (part.0.1, sent-part messages deletes P Q part.1)
sent-part (IdSet d uuids cookie ∷ messages) deletes P Q part = (tt, sent-part messages deletes P Q part.1)
sent-part (Delete uuid name cookie ∷ messages) deletes P Q part = absurd part.0
sent-part (Present uuid cookie ∷ messages) deletes P Q part = absurd part.0
sent-part (NewCookie cookie ∷ messages) deletes P Q part = absurd part.0
sent-part (RefreshDelete done cookie ∷ messages) deletes P Q part = absurd part.0
sent-part (RefreshPresent done cookie ∷ messages) deletes P Q part = absurd part.0
sent-part (Done code control ∷ messages) deletes P Q part = absurd part.0
sent-part (Ignored ∷ messages) deletes P Q part = absurd part.0

all_sent : (P : Entry → Type 0) (messages : List SyncMessage) → Each (IsSent P) messages → All P (filter_map sent_entry messages)
all_sent P [] sent = All-nil P
all_sent P (AddOrModify adds entry cookie ∷ messages) sent = All-cons P entry (filter_map sent_entry messages) sent.0 (all_sent P messages sent.1)
all_sent P (Delete uuid name cookie ∷ messages) sent = all_sent P messages sent.1
all_sent P (Present uuid cookie ∷ messages) sent = all_sent P messages sent.1
all_sent P (IdSet deletes uuids cookie ∷ messages) sent = all_sent P messages sent.1
all_sent P (NewCookie cookie ∷ messages) sent = all_sent P messages sent.1
all_sent P (RefreshDelete done cookie ∷ messages) sent = all_sent P messages sent.1
all_sent P (RefreshPresent done cookie ∷ messages) sent = all_sent P messages sent.1
all_sent P (Done code control ∷ messages) sent = all_sent P messages sent.1
all_sent P (Ignored ∷ messages) sent = all_sent P messages sent.1

-- ---- identities of a list

-- what holds of each number that is among some holds of each of these
pub each_among : (Q : ℕ → Type 0) (us : List ℕ) → ((u : ℕ) → among u us ≡ true → Q u) → Each Q us
each_among Q [] h = tt
each_among Q (u ∷ us) h = (h u (ap (λ b. b || among u us) (eq-eqb u u refl)), each_among Q us (λ v here. h v (or_right _ _ here)))

each-split : (Q : ℕ → Type 0) (us vs : List ℕ) → Each Q (us ++ vs) → Each Q us × Each Q vs
each-split Q [] vs each = (tt, each)
each-split Q (u ∷ us) vs each = let rest : Each Q us × Each Q vs = each-split Q us vs each.1 in ((each.0, rest.0), rest.1)

module _ (operation : SyncOperation) (ascending : Ascending operation) where
  -- touched by the writes after the first number up to the second
  abbrev pub IsTouched : ℕ → ℕ → ℕ → Type 0
  IsTouched from upto u = among u (differing_over operation.states from (upto - from)) ≡ true

  touched_before : (a m e u : ℕ) → a ≤ m → m ≤ e → IsTouched a m u → IsTouched a e u
  touched_before a m e u least most h =
      let steps : e - a ≡ (m - a) + (e - m) = omega arith in
      ap (λ n. among u (differing_over operation.states a n)) steps ∙ over_split (e - m) operation.states a (m - a) u
      ∙ ap (λ b. b || among u (differing_over operation.states (a + (m - a)) (e - m))) h

  touched_after : (a m e u : ℕ) → a ≤ m → m ≤ e → IsTouched m e u → IsTouched a e u
  touched_after a m e u least most h =
      let steps : e - a ≡ (m - a) + (e - m) = omega arith in
      let middle : a + (m - a) ≡ m = omega arith in
      ap (λ n. among u (differing_over operation.states a n)) steps ∙ over_split (e - m) operation.states a (m - a) u
      ∙ or_right (among u (differing_over operation.states a (m - a))) _ (ap (λ n. among u (differing_over operation.states n (e - m))) middle ∙ h)

  -- what a write changes in the content it touches
  change_touched : (n u : ℕ) → among u (differing (content_after operation n) (content_after operation (n + 1))) ≡ true → among u (differing (operation.states n) (operation.states (n + 1))) ≡ true
  change_touched n u h = elim (cases_Bool (among u (differing (operation.states n) (operation.states (n + 1))))) [
    | inl here ↦ here
    | inr off ↦ absurd (false≢true (sym (same off) ∙ h))
  ]
    where
      same : among u (differing (operation.states n) (operation.states (n + 1))) ≡ false → among u (differing (content_after operation n) (content_after operation (n + 1))) ≡ false
      same off =
          among-differing (content_after operation n) (content_after operation (n + 1)) u
          ∙ ap (λ x. not (is_one_found x (found operation ascending (n + 1) u)))
          (found_from_state operation ascending n (n + 1) u (same_outside (operation.states n) (operation.states (n + 1)) u off))
          ∙ ap not (one_found-same (found operation ascending (n + 1) u))

  changed_touched : (steps r u : ℕ) → among u (differing_over (λ n. content_after operation n) r steps) ≡ true → among u (differing_over operation.states r steps) ≡ true
  changed_touched zero r u h = absurd (false≢true (sym (ap (among u) (over_none (λ n. content_after operation n) r)) ∙ h))
  changed_touched (suc steps) r u h =
      among-over_more operation.states r steps u ∙ ⊎_elim
      (λ old. ap (λ b. b || among u (differing (operation.states (r + steps)) (operation.states (r + steps + 1)))) (changed_touched steps r u old))
      (λ new. or_right (among u (differing_over operation.states r steps)) _ (change_touched (r + steps) u new))
      (or_cases _ _ (sym (among-over_more (λ n. content_after operation n) r steps u) ∙ h))

  -- ---- a refresh from a cookie

  abbrev IsEntryTouched : ℕ → ℕ → Entry → Type 0
  IsEntryTouched a e entry = IsTouched a e entry.uuid

  -- all that a delete phase sends of a touched identity is touched
  sends_touched : (a e u : ℕ) (x : Option Entry) (entries : List Entry) → entry_at entries u ≡ x → IsTouched a e u → EachD (IsEntryTouched a e) (λ v. ⊤) (decided true true u x)
  sends_touched a e u None entries is h = (tt, tt)
  sends_touched a e u (Some entry) entries is h = (subst (IsTouched a e) (sym (own_uuid entries u entry is)) h, tt)

  names_or_sends : (a e u : ℕ) (x : Option Entry) (sent : Bool) (entries : List Entry) → entry_at entries u ≡ x → (sent ≡ true → IsTouched a e u) → EachD (IsEntryTouched a e) (λ v. ⊤) (decided false sent u x)
  names_or_sends a e u None sent entries is h = tt
  names_or_sends a e u (Some entry) true entries is h = (subst (IsTouched a e) (sym (own_uuid entries u entry is)) (h refl), tt)
  names_or_sends a e u (Some entry) false entries is h = (tt, tt)

  -- what is known of an identity of the walk
  abbrev IsWalked : Start → ℕ → ℕ → Type 0
  IsWalked InitialContent r u = ⊤
  IsWalked (DeletePhase a) r u = IsTouched a r u
  IsWalked (PresentPhase a) r u = ⊤

  one_sent : (start : Start) (a r e m u : ℕ) → number_of start ≡ Some a → a ≤ r → r ≤ m → m ≤ e → IsWalked start r u → EachD (IsEntryTouched a e) (λ v. ⊤) (decide operation start m u)
  one_sent InitialContent a r e m u from p q w h = let never : ⊥ = cc in absurd never
  one_sent (DeletePhase b) a r e m u from p q w h =
      let same : b ≡ a = cc in
      sends_touched a e u (entry_at (content_after operation m) u) (content_after operation m) refl (touched_before a r e u p (omega arith) (subst (λ n. IsTouched n r u) same h))
  one_sent (PresentPhase b) a r e m u from p q w h =
      let same : b ≡ a = cc in
      names_or_sends a e u (entry_at (content_after operation m) u) (among u (differing_over operation.states b (m - b))) (content_after operation m) refl
      (λ here. touched_before a m e u (omega arith) w (subst (λ n. IsTouched n m u) same here))

  uuids_sent : (us : List ℕ) (start : Start) (a r e m : ℕ) → number_of start ≡ Some a → a ≤ r → r ≤ m → m ≤ e → Each (IsWalked start r) us → EachD (IsEntryTouched a e) (λ v. ⊤) (flat_map (decide operation start m) us)
  uuids_sent [] start a r e m from p q w each = tt
  uuids_sent (u ∷ us) start a r e m from p q w each =
      eachd-append (IsEntryTouched a e) (λ v. ⊤) (decide operation start m u) (flat_map (decide operation start m) us)
      (one_sent start a r e m u from p q w each.0) (uuids_sent us start a r e m from p q w each.1)

  pieces_sent : (ps : List RefreshPiece) (start : Start) (a r e m : ℕ) → number_of start ≡ Some a → a ≤ r → r ≤ m → MarksRise m ps → last_mark m ps ≤ e
      → Each (IsWalked start r) (flat_map (λ p. p.uuids) ps) → EachD (IsEntryTouched a e) (λ v. ⊤) (flat_map (decide_piece operation start) ps)
  pieces_sent [] start a r e m from p q rise w each = tt
  pieces_sent (piece ∷ ps) start a r e m from p q rise w each =
      let split : Each (IsWalked start r) piece.uuids × Each (IsWalked start r) (flat_map (λ x. x.uuids) ps) =
      each-split (IsWalked start r) piece.uuids (flat_map (λ x. x.uuids) ps) each in
      eachd-append (IsEntryTouched a e) (λ v. ⊤) (decide_piece operation start piece) (flat_map (decide_piece operation start) ps)
      (uuids_sent piece.uuids start a r e piece.mark from p (omega (arith, q, rise.0)) (omega (arith, w, marks-last ps piece.mark rise.1)) split.0)
      (pieces_sent ps start a r e piece.mark from p (omega (arith, q, rise.0)) rise.1 w split.1)

  late_sent : (us : List ℕ) (a e : ℕ) → Each (IsTouched a e) us → EachD (IsEntryTouched a e) (λ v. ⊤) (flat_map (decide_late operation e) us)
  late_sent [] a e each = tt
  late_sent (u ∷ us) a e each =
      eachd-append (IsEntryTouched a e) (λ v. ⊤) (decide_late operation e u) (flat_map (decide_late operation e) us)
      (sends_touched a e u (entry_at (content_after operation e) u) (content_after operation e) refl each.0) (late_sent us a e each.1)

  walked : (start : Start) (r u : ℕ) → among u (walk operation start r) ≡ true → IsWalked start r u
  walked InitialContent r u here = tt
  walked (DeletePhase a) r u here = here
  walked (PresentPhase a) r u here = tt

  late_touched : (a r e : ℕ) → a ≤ r → r ≤ e → Each (IsTouched a e) (late_uuids operation r e)
  late_touched a r e p q = each_among (IsTouched a e) (late_uuids operation r e) (λ u here. touched_after a r e u p q (changed_touched (e - r) r u here))

  end_sent : (P : Entry → Type 0) (persists deletes : Bool) (cookie : CookieText) → Each (IsSent P) (end_of persists deletes cookie ∷ [])
  end_sent P true true cookie = (tt, tt)
  end_sent P true false cookie = (tt, tt)
  end_sent P false deletes cookie = (tt, tt)

  after_sent : (covered : Bool) (a e : ℕ) (us : List ℕ) → Each (IsTouched a e) us → Each (IsSent (IsEntryTouched a e)) (after_walk operation covered e us)
  after_sent covered a e [] each = end_sent (IsEntryTouched a e) operation.persists covered (operation.cookies e)
  after_sent covered a e (u ∷ us) each = go covered where
    late : Each (IsSent (IsEntryTouched a e)) (gathered true (flat_map (decide_late operation e) (u ∷ us)) ++ end_of operation.persists true (operation.cookies e) ∷ [])
    late = each-append (IsSent (IsEntryTouched a e)) (gathered true (flat_map (decide_late operation e) (u ∷ us))) (end_of operation.persists true (operation.cookies e) ∷ [])
        (sent-part (gathered true (flat_map (decide_late operation e) (u ∷ us))) true (IsEntryTouched a e) (λ v. ⊤)
        (each-gathered true (IsEntryTouched a e) (λ v. ⊤) (flat_map (decide_late operation e) (u ∷ us)) (late_sent (u ∷ us) a e each)))
        (end_sent (IsEntryTouched a e) operation.persists true (operation.cookies e))

    go : (b : Bool) → Each (IsSent (IsEntryTouched a e)) (after_walk operation b e (u ∷ us))
    go true = late
    go false = (tt, late)

  -- each entry that a refresh sends whole was touched after the writes of the cookie
  pub refresh_sent : (start : Start) (a r : ℕ) (ps : List RefreshPiece) → number_of start ≡ Some a → a ≤ r → IsCut operation start r ps
      → All (λ entry. IsTouched a (last_mark r ps) entry.uuid) (filter_map sent_entry (refresh operation start r ps))
  refresh_sent start a r ps from p cut =
      let e : ℕ = last_mark r ps in
      let le : r ≤ e = marks-last ps r cut.rises in
      let walks : Each (IsWalked start r) (flat_map (λ x. x.uuids) ps) =
      each_among (IsWalked start r) (flat_map (λ x. x.uuids) ps) (λ u here. walked start r u (ap (among u) (sym cut.cut) ∙ here)) in
      all_sent (IsEntryTouched a e) (refresh operation start r ps)
      (each-append (IsSent (IsEntryTouched a e)) (gathered (is_delete_phase start) (flat_map (decide_piece operation start) ps)) (after_walk operation (is_delete_phase start) e (late_uuids operation r e))
      (sent-part (gathered (is_delete_phase start) (flat_map (decide_piece operation start) ps)) (is_delete_phase start) (IsEntryTouched a e) (λ v. ⊤)
      (each-gathered (is_delete_phase start) (IsEntryTouched a e) (λ v. ⊤) (flat_map (decide_piece operation start) ps)
      (pieces_sent ps start a r e r from p (omega arith) cut.rises (omega arith) walks)))
      (after_sent (is_delete_phase start) a e (late_uuids operation r e) (late_touched a r e p le)))

-- ---- later messages

about-notified : (cookie : Option CookieText) (entry_change : EntryChange) (rest : List SyncMessage) → IsStep entry_change → map about (notified cookie entry_change.uuid entry_change.before entry_change.after ++ rest) ≡ (entry_change.uuid ∷ []) ∷ map about rest
about-notified cookie entry_change rest is = step entry_change.before entry_change.after is.change is.own where
  step : (was now : Option Entry) → not (is_one_found was now) ≡ true → IsOwn entry_change.uuid now → map about (notified cookie entry_change.uuid was now ++ rest) ≡ (entry_change.uuid ∷ []) ∷ map about rest
  step None None change own = absurd (false≢true change)
  step (Some was) None change own = refl
  step None (Some now) change own = ap (λ uuid. (uuid ∷ []) ∷ map about rest) own
  step (Some was) (Some now) change own = ap (λ uuid. (uuid ∷ []) ∷ map about rest) own

-- the messages of a write are about the identities that it changed
pub about-notified_all : (entry_changes : List EntryChange) (cookie : CookieText) → Each IsStep entry_changes → map about (notified_all cookie entry_changes) ≡ map (λ entry_change. entry_change.uuid ∷ []) entry_changes
about-notified_all [] cookie steps = refl
about-notified_all (entry_change ∷ []) cookie steps =
    ap (map about) (sym (append-nil (notified (Some cookie) entry_change.uuid entry_change.before entry_change.after))) ∙ about-notified (Some cookie) entry_change [] steps.0
about-notified_all (entry_change ∷ next ∷ entry_changes) cookie steps =
    about-notified None entry_change (notified_all cookie (next ∷ entry_changes)) steps.0 ∙ ap (λ names. (entry_change.uuid ∷ []) ∷ names) (about-notified_all (next ∷ entry_changes) cookie steps.1)

-- the messages of a write are about the identities that it changes in the content, one each
pub group_about : (operation : SyncOperation) (before : ℕ)
    → map about (group operation before) ≡ map (λ entry_change. entry_change.uuid ∷ []) (touched (content_after operation before) (content_after operation (before + 1)))
group_about operation before =
    about-notified_all (touched (content_after operation before) (content_after operation (before + 1))) (operation.cookies (before + 1))
    (each-touched (content_after operation before) (content_after operation (before + 1)))
