-- What the rule says of the tickets that are out, and of the seat in turn.
use Rattle.std.proofs.Common.{◌≡◌, ◌≢◌, ℕ, ◌+◌, ◌<◌, ◌≤◌, ◌==◌, if◌then◌else◌, List, [], ◌∷◌, ◌++◌, set, length, Option, Some, None, IfSome, sym, refl, ap, ◌∙◌, inl, inr, arith}
use Rattle.std.proofs.lemmas.Bool.Decides.{nat_tests}
use Rattle.std.proofs.lemmas.Option.{IfSome_then, none-some}
use mathlib.Core.Option.{none, some, some-injective}
use mathlib.Core.Option as maybe
use lib.ListN.{get_elem?}
use Rattle.atomic_table.specs.Table.{State}
use Rattle.atomic_table.proofs.Lists.{set_else, at_longer}
use Rattle.turn_cell.specs.declared.table.SeatView.{SeatView}
use Rattle.turn_cell.specs.Rule.{total, tickets, tickets_at, times, AreDealt, IsPlaced, TakesTurns}
use Rattle.turn_cell.proofs.Sums.{total-set, total-le, two-le-total}

-- ---- a ticket

tickets_at-here : (ticket : ℕ) (held : Option ℕ) → held ≡ Some ticket → tickets_at ticket held ≡ 1
tickets_at-here ticket held is =
    rw is (let n : ℕ = if ticket == ticket then 1 else 0 in let one : n ≡ 1 = grind (arith, nat_tests) in one)

-- another ticket is not this one
pub tickets_at-other : (this ticket : ℕ) → this ≢ ticket → tickets_at this (Some ticket) ≡ 0
tickets_at-other this ticket other =
    let n : ℕ = if this == ticket then 1 else 0 in let none : n ≡ 0 = grind (arith, nat_tests) in none

-- a view has a ticket once at most
pub tickets_at-most : (this ticket : ℕ) → tickets_at this (Some ticket) ≤ 1
tickets_at-most this ticket =
    let n : ℕ = if this == ticket then 1 else 0 in let one : n ≤ 1 = grind (arith, nat_tests) in one

-- a ticket that is not drawn yet is no seat's
pub tickets_at-later : (this : ℕ) (held : Option ℕ) (served drawn passes : ℕ) → drawn ≤ this
    → IfSome held (λ ticket. (served ≤ ticket) × (ticket < drawn) × (0 < passes)) → tickets_at this held ≡ 0
tickets_at-later this None served drawn passes later fits = refl
tickets_at-later this (Some ticket) served drawn passes later fits =
    let low : ticket < drawn = fits.1 in tickets_at-other this ticket (omega arith)

tickets-low : (held : Option ℕ) (served drawn passes : ℕ)
    → IfSome held (λ ticket. (served ≤ ticket) × (ticket < drawn) × (0 < passes)) → tickets held ≤ passes
tickets-low None served drawn passes fits = omega arith
tickets-low (Some ticket) served drawn passes fits = let some_pass : 0 < passes = fits.2 in omega arith

-- ---- one view changes

module _ {D N X : Type 0} (served drawn seats : ℕ) (views : List (SeatView D N X)) (place : ℕ)
    (old new : SeatView D N X) where
  -- its passes have the same numbers
  pub dealt-set : (served' drawn' : ℕ) → AreDealt seats served drawn views → get_elem? views place ≡ some old
      → length new.passes ≡ length old.passes
      → ((number : ℕ) → times number new.passes ≡ times number old.passes)
      → served' + drawn + tickets new.ticket ≡ served + drawn' + tickets old.ticket
      → ((ticket : ℕ) → total (λ view. tickets_at ticket view.ticket) (set views place new) ≤ 1)
      → AreDealt seats served' drawn' (set views place new)
  dealt-set served' drawn' dealt at same_length same_numbers moved apart = record {
    passes =
        let sum = total-set (λ (view : SeatView D N X). length view.passes) views place old new at in
        let all = dealt.passes in omega (arith, sum, all, same_length);
    once = λ number.
        let sum = total-set (λ (view : SeatView D N X). times number view.passes) views place old new at in
        let once = dealt.once number in omega (arith, sum, once, same_numbers number);
    out =
        let sum = total-set (λ (view : SeatView D N X). tickets view.ticket) views place old new at in
        let out = dealt.out in omega (arith, sum, out, moved);
    apart = apart;
  }

  -- it has no ticket that it had not before
  pub apart-set : AreDealt seats served drawn views → get_elem? views place ≡ some old
      → ((ticket : ℕ) → tickets_at ticket new.ticket ≤ tickets_at ticket old.ticket)
      → (ticket : ℕ) → total (λ view. tickets_at ticket view.ticket) (set views place new) ≤ 1
  apart-set dealt at fewer ticket =
      let sum = total-set (λ (view : SeatView D N X). tickets_at ticket view.ticket) views place old new at in
      let apart = dealt.apart ticket in omega (arith, sum, apart, fewer ticket)

module _ {D N X : Type 0} (journal : D → List (N × ℕ)) (share : D → ℕ → List X) (value : D)
    (homes : List (maybe.Option (Option D))) (views : List (SeatView D N X)) where
  -- a seat that did not have the value changes
  pub placed-set : (place : ℕ) (old new : SeatView D N X) → get_elem? views place ≡ some old → old.taken ≡ None
      → IsPlaced journal share value homes views → IsPlaced journal share value homes (set views place new)
  placed-set place old new at rests (inl home) = inl home
  placed-set place old new at rests (inr out) =
      let other : out.1.0 ≢ place = λ same.
      let seat : some old ≡ some out.1.1 = sym at ∙ (ap (λ n. get_elem? views n) (sym same) ∙ out.1.2) in
      let is : old ≡ out.1.1 = some-injective old out.1.1 seat in
      none-some value (sym rests ∙ (ap (λ (view : SeatView D N X). view.taken) is ∙ out.1.3)) in
      inr (out.0, (out.1.0, out.1.1, set_else views place out.1.0 new other ∙ out.1.2, out.1.3))

  -- the value stays where it is as a view is added
  pub placed-snoc : (new : SeatView D N X) → IsPlaced journal share value homes views
      → IsPlaced journal share value homes (views ++ new ∷ [])
  placed-snoc new (inl home) = inl home
  placed-snoc new (inr out) =
      inr (out.0, (out.1.0, out.1.1, at_longer views (new ∷ []) out.1.0 out.1.1 out.1.2, out.1.3))

-- ---- what the rule says

module _ {D N X : Type 0} (journal : D → List (N × ℕ)) (share : D → ℕ → List X) (opened : List (N × ℕ))
    (seats : ℕ) (state : State (Option D) (SeatView D N X)) (rule : TakesTurns journal share opened seats state) where
  -- no more tickets are out than there are passes
  pub few_tickets : rule.drawn ≤ rule.served + 1025
  few_tickets =
      let each_low = total-le (λ (view : SeatView D N X). tickets view.ticket)
      (λ (view : SeatView D N X). length view.passes) state.views
      (λ place view at. tickets-low view.ticket rule.served rule.drawn (length view.passes) (rule.each place view at).ticket) in
      omega (arith, each_low, rule.dealt.passes, rule.dealt.out, rule.few)

  -- no ticket is two seats'
  pub one_seat : (i j : ℕ) (v w : SeatView D N X) (ticket : ℕ)
      → get_elem? state.views i ≡ some v → get_elem? state.views j ≡ some w
      → v.ticket ≡ Some ticket → w.ticket ≡ Some ticket → i ≢ j → ⊥
  one_seat i j v w ticket at_i at_j v_has w_has apart =
      let two = two-le-total (λ (view : SeatView D N X). tickets_at ticket view.ticket) state.views i j v w apart at_i at_j in
      let one = rule.dealt.apart ticket in
      omega (arith, two, one, tickets_at-here ticket v.ticket v_has, tickets_at-here ticket w.ticket w_has)

  -- while a seat is in turn
  module _ (seat : ℕ) (view : SeatView D N X) (at : get_elem? state.views seat ≡ some view)
      (serves : view.ticket ≡ Some rule.served) where
    -- no other one has the ticket that is served
    pub others_wait : (other : ℕ) (its : SeatView D N X) → other ≢ seat → get_elem? state.views other ≡ some its
        → (ticket : ℕ) → its.ticket ≡ Some ticket → ticket ≢ rule.served
    others_wait other its apart there ticket has same =
        one_seat seat other view its rule.served at there serves (has ∙ ap Some same) (λ e. apart (sym e))

    -- no other one has the value
    pub others_rest : (other : ℕ) (its : SeatView D N X) → other ≢ seat → get_elem? state.views other ≡ some its
        → (Q : D → Type 0) → IfSome its.taken Q
    others_rest other its apart there Q =
        IfSome_then its.taken (rule.each other its there).taken
        (λ value fits. absurd (others_wait other its apart there rule.served fits.1 refl))
