-- Seats share out their passes and tickets among themselves anew.
use Rattle.std.proofs.Common.{◌≡◌, ℕ, ◌+◌, List, length, arith}
use Rattle.turn_cell.specs.declared.table.SeatView.{SeatView}
use Rattle.turn_cell.specs.Rule.{total, times, tickets, tickets_at, AreDealt}

module _ {D N X : Type 0} where
  -- the sums of the rule over these seats are the same before and after
  pub record AreShared (old new : List (SeatView D N X)) : Type 0 where
    pub passes : total (λ view. length view.passes) old ≡ total (λ view. length view.passes) new
    pub once : (number : ℕ)
        → total (λ view. times number view.passes) old ≡ total (λ view. times number view.passes) new
    pub out : total (λ view. tickets view.ticket) old ≡ total (λ view. tickets view.ticket) new
    pub apart : (ticket : ℕ)
        → total (λ view. tickets_at ticket view.ticket) old
        ≡ total (λ view. tickets_at ticket view.ticket) new

  -- where some seats share out what they had, each pass and ticket is still with one seat
  pub dealt-again : (seats served drawn : ℕ) (before after old new : List (SeatView D N X))
      → ((f : SeatView D N X → ℕ) → total f after + total f old ≡ total f before + total f new)
      → AreShared old new → AreDealt seats served drawn before → AreDealt seats served drawn after
  dealt-again seats served drawn before after old new sum shared dealt = record {
    passes = let f : SeatView D N X → ℕ = λ view. length view.passes in
        omega (arith, sum f, shared.passes, dealt.passes);
    once = λ number. let f : SeatView D N X → ℕ = λ view. times number view.passes in
        omega (arith, sum f, shared.once number, dealt.once number);
    out = let f : SeatView D N X → ℕ = λ view. tickets view.ticket in
        omega (arith, sum f, shared.out, dealt.out);
    apart = λ ticket. let f : SeatView D N X → ℕ = λ view. tickets_at ticket view.ticket in
        omega (arith, sum f, shared.apart ticket, dealt.apart ticket);
  }
