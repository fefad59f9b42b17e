-- Two seats are joined: the first gets the passes of the second.
use Rattle.std.proofs.Common.{◌≡◌, ℕ, List, [], ◌∷◌, ◌++◌, set, sym, refl, ◌∙◌, arith, length-append}
use mathlib.Core.Option.{some}
use lib.ListN.{get_elem?}
use Rattle.atomic_table.specs.Table.{Joins}
use Rattle.atomic_table.proofs.Lists.{set_else}
use Rattle.turn_cell.specs.declared.table.PassView.{PassView}
use Rattle.turn_cell.specs.declared.table.SeatView.{SeatView}
use Rattle.turn_cell.specs.Rule.{idle, IsOneOf, HasSeen, Fits, TakesTurns}
use Rattle.turn_cell.specs.Steps.{joined, spent}
use Rattle.turn_cell.proofs.Sums.{total-set, each-set}
use Rattle.turn_cell.proofs.Each.{every-append}
use Rattle.turn_cell.proofs.Numbers.{times-append}
use Rattle.turn_cell.proofs.Tickets.{placed-set}
use Rattle.turn_cell.proofs.Seats.{dealt-again}

-- the rule holds after two seats are joined
pub merges : {D N X : Type 0} (journal : D → List (N × ℕ)) (share : D → ℕ → List X) (opened : List (N × ℕ))
    (seats id other : ℕ) (passes more : List (PassView N X))
    → Joins (TakesTurns journal share opened seats) id (idle passes) other (idle more) (joined (idle passes) (idle more)) spent
merges {D} {N} {X} journal share opened seats id other passes more state rule at apart there =
    let one : SeatView D N X = idle passes in
    let two : SeatView D N X = idle more in
    let both : SeatView D N X = idle (passes ++ more) in
    let views = set state.views id both in
    let was : get_elem? state.views other ≡ some two = sym (set_else state.views id other both apart) ∙ there in
    let mine = rule.each id one at in
    let theirs = rule.each other two was in record {
      value = rule.value;
      served = rule.served;
      drawn = rule.drawn;
      words = rule.words;
      few = rule.few;
      grown = rule.grown;
      dealt = dealt-again seats rule.served rule.drawn state.views (set views other spent)
          (one ∷ two ∷ []) (both ∷ spent ∷ [])
          (λ f. let sum = total-set f state.views id one both at in
          let sum_after = total-set f views other two spent there in omega (arith, sum, sum_after))
          (record {
            passes = let sum = length-append passes more in omega (arith, sum);
            once = λ number. let sum = times-append number passes more in omega (arith, sum);
            out = refl;
            apart = λ ticket. refl;
          })
          rule.dealt;
      placed = placed-set journal share rule.value state.homes views other two spent there refl
          (placed-set journal share rule.value state.homes state.views id one both at refl rule.placed);
      each = each-set (Fits journal share seats rule.served rule.drawn rule.value state.homes) views other spent
          (record { seen = tt; numbers = tt; ticket = tt; taken = tt })
          (λ k view _ here. each-set (Fits journal share seats rule.served rule.drawn rule.value state.homes) state.views id both
          (record {
            seen = every-append (λ pass. HasSeen (journal rule.value) (share rule.value pass.number) pass) passes more mine.seen theirs.seen;
            numbers = every-append (IsOneOf seats) passes more mine.numbers theirs.numbers;
            ticket = tt;
            taken = tt;
          })
          (λ i its _ found. rule.each i its found) k view here);
    }
