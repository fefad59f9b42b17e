-- The table as it is made, and as it is closed.
use Rattle.std.proofs.Common.{◌≡◌, ◌≢◌, ℕ, ◌<◌, ◌≤◌, List, [], ◌∷◌, length, Option, Some, IfSome, sym, refl, ap, ◌∙◌, subst, ⊎_elim, inl, arith, append-nil}
use Rattle.std.proofs.lemmas.Option.{none-some}
use mathlib.Core.Option.{none, some, some-injective, some-ne-none}
use lib.ListN.{get_elem?}
use Rattle.atomic_table.specs.Table.{State, opening, Seen, Final}
use Rattle.turn_cell.specs.declared.table.PassView.{PassView}
use Rattle.turn_cell.specs.declared.table.SeatView.{SeatView}
use Rattle.turn_cell.specs.Journals.{HasGrown}
use Rattle.turn_cell.specs.Rule.{idle, dealer, HasSeen, HaveSeen, Fits, TakesTurns}
use Rattle.turn_cell.proofs.Sums.{each-snoc, two-le-total}
use Rattle.turn_cell.proofs.Numbers.{new_passes-once, new_passes-length, new_passes-numbers, new_passes-every}

-- the rule holds of a table as it is made
pub opens : {D N X : Type 0} (journal : D → List (N × ℕ)) (share : D → ℕ → List X) (seats : ℕ) (value : D)
    → seats ≤ 1024
    → TakesTurns journal share (journal value) seats
    (opening (0 ∷ 0 ∷ length (journal value) ∷ []) (Some value ∷ []) (dealer (journal value) (share value) seats))
opens {D} {N} {X} journal share seats value few = let entries = journal value in record {
  value = value;
  served = 0;
  drawn = 0;
  words = refl;
  few = few;
  grown = record { added = []; grew = sym (append-nil entries); numbers = tt };
  dealt = record {
    passes = omega (arith, new_passes-length seats entries (share value) 1 seats);
    once = λ number. omega (arith, new_passes-once seats entries (share value) number 1 seats);
    out = refl;
    apart = λ ticket. omega arith;
  };
  placed = inl refl;
  each = λ place view there. each-snoc (Fits journal share seats 0 0 value (some (Some value) ∷ [])) [] (dealer entries (share value) seats)
      (record {
        seen = new_passes-every seats entries (share value) (λ pass. HasSeen entries (share value pass.number) pass)
            (λ number. record { later = []; goes_on = sym (append-nil entries); others = tt; same = refl }) 1 seats;
        numbers = new_passes-numbers seats entries (share value) 1 seats (omega arith) (omega arith);
        ticket = tt;
        taken = tt;
      })
      (λ other its at. absurd (some-ne-none its (sym at))) place view there;
}

module _ {D N X : Type 0} (journal : D → List (N × ℕ)) (share : D → ℕ → List X) (opened : List (N × ℕ)) (seats : ℕ) where
  -- a seat without a ticket that has all passes: no other one is in turn
  at_home : (state : State (Option D) (SeatView D N X)) (rule : TakesTurns journal share opened seats state) (id : ℕ)
      (passes : List (PassView N X)) → get_elem? state.views id ≡ some (idle passes) → seats ≤ length passes
      → state.homes ≡ some (Some rule.value) ∷ []
  at_home state rule id passes at all =
      ⊎_elim
      (λ home. home)
      (λ out.
      let its : SeatView D N X = out.1.1 in
      let fits = rule.each out.1.0 its out.1.2 in
      let has = subst (λ (taken : Option D).
      IfSome taken (λ value. (value ≡ rule.value) × (its.ticket ≡ Some rule.served) × (state.homes ≡ none ∷ [])))
      out.1.3 fits.taken in
      let waits = subst (λ (held : Option ℕ).
      IfSome held (λ ticket. (rule.served ≤ ticket) × (ticket < rule.drawn) × (0 < length its.passes))) has.1 fits.ticket in
      let some_pass : 0 < length its.passes = waits.2 in
      let other : id ≢ out.1.0 = λ same.
      let seat : some (idle passes) ≡ some its = sym at ∙ (ap (λ n. get_elem? state.views n) same ∙ out.1.2) in
      none-some rule.value (ap (λ (view : SeatView D N X). view.taken) (some-injective (idle passes) its seat) ∙ out.1.3) in
      let two = two-le-total (λ (view : SeatView D N X). length view.passes) state.views id out.1.0 (idle passes) its other at out.1.2 in
      absurd (omega (arith, two, rule.dealt.passes, all, some_pass)))
      rule.placed

  -- what is in the slot, where a seat has all passes
  pub closes : (words : List ℕ) (slots : List (Option D)) (id : ℕ) (view : SeatView D N X) (passes : List (PassView N X))
      → view ≡ idle passes → seats ≤ length passes
      → Final (Seen (TakesTurns journal share opened seats) id view) words slots
      → (value : D) × (get_elem? slots 0 ≡ some (Some value)) × HaveSeen journal share value passes
      × HasGrown seats opened (journal value)
  closes words slots id view passes is all final =
      let state = final.0 in
      let rule = final.1.0 in
      let at : get_elem? state.views id ≡ some (idle passes) = final.1.1 ∙ ap some is in (
        rule.value,
        final.4 0 (Some rule.value) (ap (λ homes. get_elem? homes 0) (at_home state rule id passes at all)),
        (rule.each id (idle passes) at).seen,
        rule.grown,
      )
