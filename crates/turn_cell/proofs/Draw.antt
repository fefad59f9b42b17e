-- A seat draws a ticket.
use Rattle.std.proofs.Common.{◌≡◌, ℕ, ◌+◌, ◌%◌, ◌^◌, ◌<◌, ◌≤◌, List, [], ◌∷◌, set, length, get_or, Option, refl, ap, ◌∙◌, ⊎_elim, arith}
use Rattle.std.proofs.Math.Nat.{mod-add-mod}
use Rattle.std.proofs.lemmas.Bool.{cases_eq}
use Rattle.std.proofs.lemmas.Option.{IfSome_then}
use mathlib.Core.Option.{none}
use mathlib.Core.Option as maybe
use Rattle.atomic_table.specs.Table.{step, keeps, Allows}
use Rattle.turn_cell.specs.declared.table.PassView.{PassView}
use Rattle.turn_cell.specs.declared.table.SeatView.{SeatView}
use Rattle.turn_cell.specs.Rule.{total, tickets_at, idle, waiting, Fits, TakesTurns}
use Rattle.turn_cell.specs.Steps.{Draws}
use Rattle.turn_cell.proofs.Sums.{total-set, total-none, each-set}
use Rattle.turn_cell.proofs.Tickets.{dealt-set, placed-set, tickets_at-other, tickets_at-most, tickets_at-later}

-- what fits goes on to fit where one more ticket may be out
widened : {D N X : Type 0} (journal : D → List (N × ℕ)) (share : D → ℕ → List X) (seats served drawn : ℕ)
    (value : D) (homes : List (maybe.Option (Option D))) (view : SeatView D N X)
    → Fits journal share seats served drawn value homes view
    → Fits journal share seats served (drawn + 1) value homes view
widened journal share seats served drawn value homes view fits = record {
  seen = fits.seen;
  numbers = fits.numbers;
  ticket = IfSome_then view.ticket fits.ticket (λ ticket old. (old.0, omega arith, old.2));
  taken = fits.taken;
}

-- the rule holds after a seat draws a ticket
pub draws : {D N X : Type 0} (journal : D → List (N × ℕ)) (share : D → ℕ → List X) (opened : List (N × ℕ))
    (seats slots id : ℕ) (passes : List (PassView N X)) → 0 < length passes
    → Allows (TakesTurns journal share opened seats) slots id (idle passes, []) 0 (λ n. (n + 1) % 2 ^ 64)
    (Draws (step slots 0 1 0 none) (idle passes, []))
draws {D} {N} {X} journal share opened seats slots id passes some_pass state rule _ at _ =
    let old : SeatView D N X = idle passes in
    let new : SeatView D N X = waiting passes rule.drawn in
    let found : get_or state.words 0 0 ≡ rule.drawn % 2 ^ 64 = ap (λ words. get_or words 0 0) rule.words in
    let mine = rule.each id old at in
    let low : rule.served ≤ rule.drawn = omega (arith, rule.dealt.out) in (
      new,
      keeps,
      tt,
      record {
        value = rule.value;
        served = rule.served;
        drawn = rule.drawn + 1;
        words = ap (λ words. set words 0 ((get_or words 0 0 + 1) % 2 ^ 64)) rule.words
            ∙ ap (λ n. n ∷ (rule.served % 2 ^ 64) ∷ length (journal rule.value) ∷ []) (mod-add-mod rule.drawn (2 ^ 64) 1);
        few = rule.few;
        grown = rule.grown;
        dealt = dealt-set rule.served rule.drawn seats state.views id old new rule.served (rule.drawn + 1) rule.dealt at
            refl (λ number. refl) (omega arith)
            (λ ticket.
            let sum = total-set (λ (view : SeatView D N X). tickets_at ticket view.ticket) state.views id old new at in
            ⊎_elim
            (λ (is : ticket ≡ rule.drawn).
            let unheld : total (λ (view : SeatView D N X). tickets_at ticket view.ticket) state.views ≡ 0 =
            total-none (λ (view : SeatView D N X). tickets_at ticket view.ticket) state.views
            (λ place view there. tickets_at-later ticket view.ticket rule.served rule.drawn (length view.passes)
            (omega arith) (rule.each place view there).ticket) in
            omega (arith, sum, unheld, tickets_at-most ticket rule.drawn))
            (λ (other : ticket ≡ rule.drawn → ⊥).
            omega (arith, sum, tickets_at-other ticket rule.drawn other, rule.dealt.apart ticket))
            (cases_eq ticket rule.drawn));
        placed = placed-set journal share rule.value state.homes state.views id old new at refl rule.placed;
        each = each-set (Fits journal share seats rule.served (rule.drawn + 1) rule.value state.homes) state.views id new
            (record { seen = mine.seen; numbers = mine.numbers; ticket = (low, omega arith, some_pass); taken = tt })
            (λ other view _ there.
            widened journal share seats rule.served rule.drawn rule.value state.homes view (rule.each other view there));
      },
      (rule.drawn, found, refl),
    )
