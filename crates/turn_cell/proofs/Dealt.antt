-- A seat is split: the new one gets its first pass.
use Rattle.std.proofs.Common.{ℕ, List, [], ◌∷◌, ◌++◌, set, take, drop, refl, arith}
use Rattle.atomic_table.specs.Table.{Splits}
use Rattle.turn_cell.specs.declared.table.PassView.{PassView}
use Rattle.turn_cell.specs.declared.table.SeatView.{SeatView}
use Rattle.turn_cell.specs.Rule.{idle, IsOneOf, HasSeen, Fits, TakesTurns}
use Rattle.turn_cell.specs.Steps.{dealt, undealt}
use Rattle.turn_cell.proofs.Sums.{total-set, total-snoc, each-set, each-snoc}
use Rattle.turn_cell.proofs.Each.{every-take, every-drop}
use Rattle.turn_cell.proofs.Numbers.{times-split, length-split}
use Rattle.turn_cell.proofs.Tickets.{placed-set, placed-snoc}
use Rattle.turn_cell.proofs.Seats.{dealt-again}

-- the rule holds after a seat is split
pub deals : {D N X : Type 0} (journal : D → List (N × ℕ)) (share : D → ℕ → List X) (opened : List (N × ℕ))
    (seats id : ℕ) (passes : List (PassView N X))
    → Splits (TakesTurns journal share opened seats) id (idle passes) (undealt (idle passes)) (dealt (idle passes))
deals {D} {N} {X} journal share opened seats id passes state rule at =
    let old : SeatView D N X = idle passes in
    let left : SeatView D N X = idle (drop 1 passes) in
    let right : SeatView D N X = idle (take 1 passes) in
    let views = set state.views id left in
    let mine = rule.each id old at in
    let has = λ (pass : PassView N X). HasSeen (journal rule.value) (share rule.value pass.number) pass in
    let numbered = λ (pass : PassView N X). IsOneOf seats pass in record {
      value = rule.value;
      served = rule.served;
      drawn = rule.drawn;
      words = rule.words;
      few = rule.few;
      grown = rule.grown;
      dealt = dealt-again seats rule.served rule.drawn state.views (views ++ right ∷ []) (old ∷ []) (left ∷ right ∷ [])
          (λ f. let sum = total-set f state.views id old left at in
          let sum_after = total-snoc f views right in omega (arith, sum, sum_after))
          (record {
            passes = let split = length-split passes in omega (arith, split);
            once = λ number. let split = times-split number passes in omega (arith, split);
            out = refl;
            apart = λ ticket. refl;
          })
          rule.dealt;
      placed = placed-snoc journal share rule.value state.homes views right
          (placed-set journal share rule.value state.homes state.views id old left at refl rule.placed);
      each = each-snoc (Fits journal share seats rule.served rule.drawn rule.value state.homes) views right
          (record { seen = every-take has 1 passes mine.seen; numbers = every-take numbered 1 passes mine.numbers; ticket = tt; taken = tt })
          (each-set (Fits journal share seats rule.served rule.drawn rule.value state.homes) state.views id left
          (record { seen = every-drop has 1 passes mine.seen; numbers = every-drop numbered 1 passes mine.numbers; ticket = tt; taken = tt })
          (λ other view _ there. rule.each other view there));
    }
