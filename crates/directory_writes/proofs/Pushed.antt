-- The log and the numbers of the last touches after one more write.
use Rattle.std.proofs.Common.{◌≡◌, ◌≢◌, ◌≤◌, ◌⊎◌, ℕ, suc, ◌+◌, Bool, true, false, cond, List, [], ◌∷◌, ◌++◌, length, take, refl, sym, ap, ◌∙◌, arith, subst, Some, None, Option, inl, inr, length-append}
use Rattle.std.specs.Prelude.{not, ◌&&◌, ◌||◌, filter, is_some, map, Result, Ok, Err, OnOk}
use Rattle.std.specs.List.Sorted.{IsStrictlySortedBy}
use Rattle.std.specs.Map.{keys_of}
use Rattle.std.specs.BTreeMap.{insert_entry}
use Rattle.std.specs.Ordering.{nat_cmp}
use Rattle.std.proofs.Math.Seq.{take-append_seam}
use Rattle.std.proofs.lemmas.Bool.{cases_eq, eq-eqb, ne_eqb, false≢true}
use Rattle.std.proofs.lemmas.List.{append-nil, take_all, take-append-le}
use Rattle.entry_tree.specs.declared.entry.Entry.{Entry}
use Rattle.entry_tree.specs.declared.op.Write.{Write}
use Rattle.entry_tree.specs.declared.touched.EntryChange.{EntryChange}
use Rattle.csn_cookie.specs.Csn.{CsnValue}
use Rattle.entry_tree.specs.Bytes.{is_one_found}
use Rattle.entry_tree.specs.History.{state_of}
use Rattle.entry_tree.specs.Sound.{is_commit}
use Rattle.entry_tree.specs.State.{entry_at}
use Rattle.entry_tree.specs.Touched.{identities, joined, change_at, is_change, touched}
use Rattle.entry_tree.proofs.Same.{one_found-same, one_found-true}
use Rattle.session_log.specs.Calls.{IsLogOf}
use Rattle.session_log.specs.Log.{Log}
use Rattle.sync_model.specs.Stream.{among}
use Rattle.sync_model.proofs.Gather.{Each}
use Rattle.sync_model.proofs.Steps.{among-differing}
use Rattle.directory_writes.specs.Directory.{entries_after, last_csn, IsNumbered, AreNumbered}
use Rattle.directory_writes.specs.Touches.{Numbers, uuids_of, last_touch, logged, notes_of, all_notes, IsLogged, number_at, is_number_kept, renewed_by, renewed}
use Rattle.directory_writes.proofs.Csns.{last_csn-push}
use Rattle.directory_writes.proofs.Keyed.{closed_at, closed-dropped, dropped_at, dropped-other, dropped-same, opened-other, opened-same}
use Rattle.directory_writes.proofs.Notified.{Agree, agree-longer, notes-agree, last-agree, last-low, noted_each-is}

-- ---- the states around the last write

module _ (history : ℕ) (writes : List Write) (w : Write) where
  before : ℕ → List Entry
  before = state_of history writes

  after : ℕ → List Entry
  after = state_of history (writes ++ w ∷ [])

  agree : Agree (state_of history (writes ++ w ∷ [])) (state_of history writes) (length writes)
  agree = agree-longer history writes (w ∷ [])

  -- before it the entries are those of the earlier writes
  pub old_state : state_of history (writes ++ w ∷ []) (length writes) ≡ entries_after history writes
  old_state = ap (entries_after history) (take-append_seam writes (w ∷ []))

  long : length (writes ++ w ∷ []) ≡ suc (length writes)
  long = omega (arith, length-append writes (w ∷ []))

  -- after it they are those of all
  pub new_state : state_of history (writes ++ w ∷ []) (length writes + 1) ≡ entries_after history (writes ++ w ∷ [])
  new_state =
      let end : length writes + 1 ≡ length (writes ++ w ∷ []) = omega (arith, long) in
      ap (state_of history (writes ++ w ∷ [])) end
      ∙ ap (λ ws. entries_after history (take (length (writes ++ w ∷ [])) ws)) (sym (append-nil (writes ++ w ∷ [])))
      ∙ ap (entries_after history) (take-append_seam (writes ++ w ∷ []) [])

  -- the log notes what one more write touched
  pub logged-push : (log : Log) → IsLogged history writes log
      → IsLogged history (writes ++ w ∷ []) (logged (length writes + 1) (entries_after history writes) (entries_after history (writes ++ w ∷ [])) log)
  logged-push log is =
      subst (λ notes. IsLogOf notes (logged (length writes + 1) (entries_after history writes) (entries_after history (writes ++ w ∷ [])) log))
      (ap (λ rest. rest ++ notes_of (length writes + 1) us) (sym (notes-agree (length writes) (state_of history (writes ++ w ∷ [])) (state_of history writes) agree))
      ∙ (λ i. all_notes (state_of history (writes ++ w ∷ [])) (length writes) ++ notes_of (length writes + 1) (uuids_of (touched (sym old_state i) (sym new_state i))))
      ∙ ap (all_notes (state_of history (writes ++ w ∷ []))) (sym long))
      (noted_each-is us (length writes + 1) (all_notes (state_of history writes) (length writes)) log is)
    where
      us : List ℕ
      us = uuids_of (touched (entries_after history writes) (entries_after history (writes ++ w ∷ [])))

-- ---- what is kept for an identity after a renewal

renewed-other : (b : Bool) (number : ℕ) (numbers : Numbers) (v u : ℕ) → u ≢ v → number_at (cond b (insert_entry nat_cmp numbers v number) (dropped_at numbers v)) u ≡ number_at numbers u
renewed-other true number numbers v u far = opened-other numbers v u number far
renewed-other false number numbers v u far = dropped-other numbers v u far

-- the numbers after an insertion are the renewed ones where the number is kept
pub kept_now : {E : Type 0} (r : Result (Unit {0}) E) (commits : Bool) (number : ℕ) (numbers : Numbers) (t : EntryChange) (later : Numbers) → is_number_kept commits t.after ≡ true
    → OnOk r (later ≡ insert_entry nat_cmp numbers t.uuid number) → OnOk r (later ≡ renewed_by commits number numbers t)
kept_now (Ok done) commits number numbers t later kept is = is ∙ sym (ap (λ b. cond b (insert_entry nat_cmp numbers t.uuid number) (dropped_at numbers t.uuid)) kept)
kept_now (Err error) commits number numbers t later kept is = tt

-- and those after a removal where it is not
pub dropped_now : {E : Type 0} (r : Result (Unit {0}) E) (commits : Bool) (number : ℕ) (numbers : Numbers) (t : EntryChange) (later : Numbers) → is_number_kept commits t.after ≡ false
    → IsStrictlySortedBy nat_cmp (keys_of numbers) → OnOk r (later ≡ closed_at numbers t.uuid) → OnOk r (later ≡ renewed_by commits number numbers t)
dropped_now (Ok done) commits number numbers t later gone sorted is =
    is ∙ closed-dropped numbers t.uuid sorted ∙ sym (ap (λ b. cond b (insert_entry nat_cmp numbers t.uuid number) (dropped_at numbers t.uuid)) gone)
dropped_now (Err error) commits number numbers t later gone sorted is = tt

-- a change that reports what the identity has in these entries
abbrev IsNow : List Entry → EntryChange → Type 0
IsNow new entry_change = entry_change.after ≡ entry_at new entry_change.uuid

-- what is kept for an identity that has an entry: the number of a commit that touched it, and none of another write that did
abbrev number_kept : Bool → ℕ → Option ℕ
number_kept true number = Some number
number_kept false number = None

at_renewed : (commits : Bool) (touches : List EntryChange) (number : ℕ) (numbers : Numbers) (new : List Entry) (u : ℕ) (e : Entry) → Each (IsNow new) touches → entry_at new u ≡ Some e
    → number_at (renewed commits number numbers touches) u ≡ cond (among u (uuids_of touches)) (number_kept commits number) (number_at numbers u)
at_renewed commits [] number numbers new u e each found = refl
at_renewed commits (t ∷ ts) number numbers new u e each found =
    at_renewed commits ts number next new u e each.1 found ∙ both (cases_eq u t.uuid)
  where
    next : Numbers
    next = renewed_by commits number numbers t

    now : u ≡ t.uuid → t.after ≡ Some e
    now here = each.0 ∙ ap (entry_at new) (sym here) ∙ found

    kept : (b : Bool) → number_at (cond (b && true) (insert_entry nat_cmp numbers u number) (dropped_at numbers u)) u ≡ number_kept b number
    kept true = opened-same numbers u number
    kept false = dropped-same numbers u

    set : u ≡ t.uuid → number_at next u ≡ number_kept commits number
    set here =
        ap (λ o. number_at (cond (commits && is_some o) (insert_entry nat_cmp numbers t.uuid number) (dropped_at numbers t.uuid)) u) (now here)
        ∙ ap (λ v. number_at (cond (commits && true) (insert_entry nat_cmp numbers v number) (dropped_at numbers v)) u) (sym here)
        ∙ kept commits

    choose : (b : Bool) → cond b (number_kept commits number) (number_kept commits number) ≡ number_kept commits number
    choose true = refl
    choose false = refl

    both : (u ≡ t.uuid) ⊎ (u ≢ t.uuid)
        → cond (among u (uuids_of ts)) (number_kept commits number) (number_at next u) ≡ cond (among u (uuids_of (t ∷ ts))) (number_kept commits number) (number_at numbers u)
    both (inl here) =
        ap (cond (among u (uuids_of ts)) (number_kept commits number)) (set here) ∙ choose (among u (uuids_of ts))
        ∙ sym (ap (λ b. cond (b || among u (uuids_of ts)) (number_kept commits number) (number_at numbers u)) (eq-eqb u t.uuid here))
    both (inr far) =
        ap (cond (among u (uuids_of ts)) (number_kept commits number)) (renewed-other (is_number_kept commits t.after) number numbers t.uuid u far)
        ∙ sym (ap (λ b. cond (b || among u (uuids_of ts)) (number_kept commits number) (number_at numbers u)) (ne_eqb u t.uuid far))

each-now : (old new : List Entry) (us : List ℕ) → Each (IsNow new) (filter is_change (map (change_at old new) us))
each-now old new [] = tt
each-now old new (u ∷ us) = step (is_change (change_at old new u)) (each-now old new us) where
  step : (b : Bool) → Each (IsNow new) (filter is_change (map (change_at old new) us))
      → Each (IsNow new) (cond b (change_at old new u ∷ filter is_change (map (change_at old new) us)) (filter is_change (map (change_at old new) us)))
  step true rest = (refl, rest)
  step false rest = rest

-- ---- the number of each entry after one more write

-- the number of a write that is kept, or the write's CSN, is that of the write
touched_now : (first : CsnValue) (writes : List Write) (w : Write) (e : Entry) (commits : Bool) → (commits ≡ false → e.csn ≡ w.csn)
    → IsNumbered first (writes ++ w ∷ []) e.csn (length writes + 1) (number_kept commits (length writes + 1))
touched_now first writes w e true own = refl
touched_now first writes w e false own =
    let end : length (writes ++ w ∷ []) ≤ length writes + 1 = omega (arith, length-append writes (w ∷ [])) in
    own refl ∙ sym (ap (last_csn first) (take_all (length writes + 1) (writes ++ w ∷ []) end) ∙ last_csn-push first writes w)

-- what is known of an earlier write stays
still_touched : (first : CsnValue) (writes : List Write) (w : Write) (csn : CsnValue) (touch : ℕ) (number : Option ℕ) → touch ≤ length writes
    → IsNumbered first writes csn touch number → IsNumbered first (writes ++ w ∷ []) csn touch number
still_touched first writes w csn touch None low is = is ∙ ap (last_csn first) (sym (take-append-le touch writes (w ∷ []) low))
still_touched first writes w csn touch (Some number) low is = is

-- each entry has its number after one more write
pub numbered-push : (first : CsnValue) (history : ℕ) (writes : List Write) (w : Write) (old new : List Entry) (numbers later : Numbers)
    → old ≡ entries_after history writes → new ≡ entries_after history (writes ++ w ∷ [])
    → later ≡ renewed (is_commit w.op) (length writes + 1) numbers (touched old new)
    → ((u : ℕ) (e : Entry) → is_commit w.op ≡ false → entry_at new u ≡ Some e → (entry_at old u ≡ Some e) ⊎ (e.csn ≡ w.csn))
    → AreNumbered first history writes old numbers → AreNumbered first history (writes ++ w ∷ []) new later
numbered-push first history writes w old new numbers later is_old is_new renews leaves each u e found =
    subst (IsNumbered first (writes ++ w ∷ []) e.csn (last_touch (state_of history (writes ++ w ∷ [])) (length (writes ++ w ∷ [])) u)) (sym kept)
    (subst (λ touch. IsNumbered first (writes ++ w ∷ []) e.csn touch (cond (not one) (number_kept (is_commit w.op) (length writes + 1)) (number_at numbers u))) number
    (step one refl))
  where
    one : Bool
    one = is_one_found (entry_at old u) (Some e)

    earlier : ℕ
    earlier = last_touch (state_of history writes) (length writes) u

    number : cond one earlier (length writes + 1) ≡ last_touch (state_of history (writes ++ w ∷ [])) (length (writes ++ w ∷ [])) u
    number =
        ap (λ o. cond (is_one_found (entry_at old u) o) earlier (length writes + 1)) (sym found)
        ∙ (λ i. cond (is_one_found (entry_at ((is_old ∙ sym (old_state history writes w)) i) u) (entry_at ((is_new ∙ sym (new_state history writes w)) i) u))
        (sym (last-agree (length writes) (state_of history (writes ++ w ∷ [])) (state_of history writes) u (agree-longer history writes (w ∷ []))) i) (length writes + 1))
        ∙ ap (λ k. last_touch (state_of history (writes ++ w ∷ [])) k u) (sym (long history writes w))

    kept : number_at later u ≡ cond (not one) (number_kept (is_commit w.op) (length writes + 1)) (number_at numbers u)
    kept =
        ap (λ ns. number_at ns u) renews
        ∙ at_renewed (is_commit w.op) (touched old new) (length writes + 1) numbers new u e (each-now old new (joined (identities old) (identities new))) found
        ∙ ap (λ b. cond b (number_kept (is_commit w.op) (length writes + 1)) (number_at numbers u)) (among-differing old new u)
        ∙ ap (λ o. cond (not (is_one_found (entry_at old u) o)) (number_kept (is_commit w.op) (length writes + 1)) (number_at numbers u)) found

    -- an entry that differs from what was there has the CSN of the write
    own : one ≡ false → is_commit w.op ≡ false → e.csn ≡ w.csn
    own differs other = by (leaves u e other found)
      where
        by : (entry_at old u ≡ Some e) ⊎ (e.csn ≡ w.csn) → e.csn ≡ w.csn
        by (inl was) = absurd (false≢true (sym differs ∙ ap (λ o. is_one_found o (Some e)) was ∙ one_found-same (Some e)))
        by (inr is) = is

    step : (b : Bool) → one ≡ b
        → IsNumbered first (writes ++ w ∷ []) e.csn (cond b earlier (length writes + 1)) (cond (not b) (number_kept (is_commit w.op) (length writes + 1)) (number_at numbers u))
    step false differs = touched_now first writes w e (is_commit w.op) (own differs)
    step true same =
        still_touched first writes w e.csn earlier (number_at numbers u) (last-low (length writes) (state_of history writes) u)
        (each u e (one_found-true (entry_at old u) (Some e) same))
