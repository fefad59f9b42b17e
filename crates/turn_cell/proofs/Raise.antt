-- A seat ends its turn: the next ticket is served.
use Rattle.std.proofs.Common.{◌≡◌, ℕ, ◌+◌, ◌%◌, ◌^◌, ◌<◌, ◌≤◌, List, [], ◌∷◌, set, length, get_or, Some, refl, ap, ◌∙◌, inl, arith}
use Rattle.std.proofs.Math.Nat.{mod-add-mod}
use mathlib.Core.Option.{none, some}
use Rattle.atomic_table.specs.Table.{step, gives, Allows}
use Rattle.turn_cell.specs.declared.table.PassView.{PassView}
use Rattle.turn_cell.specs.declared.table.SeatView.{SeatView}
use Rattle.turn_cell.specs.Rule.{idle, in_turn, Fits, TakesTurns}
use Rattle.turn_cell.specs.Steps.{Raises}
use Rattle.turn_cell.proofs.Sums.{each-set}
use Rattle.turn_cell.proofs.Each.{if_some-weaker}
use Rattle.turn_cell.proofs.Tickets.{dealt-set, apart-set, others_wait, others_rest}

-- the rule holds after a seat ends its turn
pub raises : {D N X : Type 0} (journal : D → List (N × ℕ)) (share : D → ℕ → List X) (opened : List (N × ℕ))
    (seats slots id : ℕ) (passes : List (PassView N X)) (ticket : ℕ) (value : D)
    → Allows (TakesTurns journal share opened seats) slots id (in_turn passes ticket value, (0, Some value) ∷ []) 1
    (λ n. (n + 1) % 2 ^ 64)
    (Raises (step slots 1 1 0 none) (in_turn passes ticket value, (0, Some value) ∷ []))
raises {D} {N} {X} journal share opened seats slots id passes ticket value state rule _ at _ =
    let old : SeatView D N X = in_turn passes ticket value in
    let new : SeatView D N X = idle passes in
    let mine = rule.each id old at in
    let homes = set state.homes 0 (some (Some value)) in
    let home : homes ≡ some (Some rule.value) ∷ [] =
    ap (λ slots. set slots 0 (some (Some value))) mine.taken.2 ∙ ap (λ d. some (Some d) ∷ []) mine.taken.0 in (
      new,
      gives,
      tt,
      record {
        value = rule.value;
        served = rule.served + 1;
        drawn = rule.drawn;
        words = ap (λ words. set words 1 ((get_or words 1 0 + 1) % 2 ^ 64)) rule.words
            ∙ ap (λ n. (rule.drawn % 2 ^ 64) ∷ n ∷ length (journal rule.value) ∷ []) (mod-add-mod rule.served (2 ^ 64) 1);
        few = rule.few;
        grown = rule.grown;
        dealt = dealt-set rule.served rule.drawn seats state.views id old new (rule.served + 1) rule.drawn rule.dealt at
            refl (λ number. refl) (omega arith)
            (apart-set rule.served rule.drawn seats state.views id old new rule.dealt at (λ this. omega arith));
        placed = inl home;
        each = each-set (Fits journal share seats (rule.served + 1) rule.drawn rule.value homes) state.views id new
            (record { seen = mine.seen; numbers = mine.numbers; ticket = tt; taken = tt })
            (λ other view apart there. let fits = rule.each other view there in record {
              seen = fits.seen;
              numbers = fits.numbers;
              ticket = if_some-weaker view.ticket
                  (λ its. (rule.served ≤ its) × (its < rule.drawn) × (0 < length view.passes))
                  (λ its. (rule.served + 1 ≤ its) × (its < rule.drawn) × (0 < length view.passes)) fits.ticket
                  (λ its has fact.
                  let waits = others_wait journal share opened seats state rule id old at mine.taken.1 other view apart there its has in
                  let low : rule.served ≤ its = fact.0 in
                  (omega (arith, waits, low), fact.1, fact.2));
              taken = others_rest journal share opened seats state rule id old at mine.taken.1 other view apart there
                  (λ taken. (taken ≡ rule.value) × (view.ticket ≡ Some (rule.served + 1)) × (homes ≡ none ∷ []));
            });
      },
      refl,
    )
