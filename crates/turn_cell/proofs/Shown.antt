-- A seat reads the length of the journal: its first pass has then seen the journal.
use Rattle.std.proofs.Common.{◌≡◌, ℕ, List, [], ◌∷◌, set, length, get_or, Option, sym, refl, ap, arith, le_refl, append-nil}
use mathlib.Core.Option.{none}
use Rattle.atomic_table.specs.Table.{step, keeps, Allows}
use Rattle.turn_cell.specs.declared.table.PassView.{PassView}
use Rattle.turn_cell.specs.declared.table.SeatView.{SeatView}
use Rattle.turn_cell.specs.Journals.{Every}
use Rattle.turn_cell.specs.Rule.{times, idle, IsOneOf, HasSeen, HaveSeen, Fits, TakesTurns}
use Rattle.turn_cell.specs.Steps.{first_shown, Meets}
use Rattle.turn_cell.proofs.Sums.{each-set}
use Rattle.turn_cell.proofs.Each.{every-weaker}
use Rattle.turn_cell.proofs.Tickets.{dealt-set, apart-set, placed-set}

module _ {N X : Type 0} where
  shown-length : (journal : List (N × ℕ)) (passes : List (PassView N X))
      → length (first_shown journal passes) ≡ length passes
  shown-length journal [] = refl
  shown-length journal (pass ∷ passes) = refl

  shown-times : (journal : List (N × ℕ)) (number : ℕ) (passes : List (PassView N X))
      → times number (first_shown journal passes) ≡ times number passes
  shown-times journal number [] = refl
  shown-times journal number (pass ∷ passes) = refl

  shown-numbers : (journal : List (N × ℕ)) (seats : ℕ) (passes : List (PassView N X))
      → Every (IsOneOf seats) passes → Every (IsOneOf seats) (first_shown journal passes)
  shown-numbers journal seats [] all = tt
  shown-numbers journal seats (pass ∷ passes) all = (all.0, all.1)

module _ {D N X : Type 0} (journal : D → List (N × ℕ)) (share : D → ℕ → List X) where
  shown-seen : (value : D) (passes : List (PassView N X)) → HaveSeen journal share value passes
      → HaveSeen journal share value (first_shown (journal value) passes)
  shown-seen value [] all = tt
  shown-seen value (pass ∷ passes) all = (
    record { later = []; goes_on = sym (append-nil (journal value)); others = tt; same = all.0.same },
    all.1,
  )

-- the rule holds after a seat reads the length of the journal
pub meets : {D N X : Type 0} (journal : D → List (N × ℕ)) (share : D → ℕ → List X) (opened : List (N × ℕ))
    (seats slots id : ℕ) (passes : List (PassView N X))
    → Allows (TakesTurns journal share opened seats) slots id (idle passes, []) 2 (λ n. n)
    (Meets (step slots 2 0 0 none) (idle passes, []))
meets {D} {N} {X} journal share opened seats slots id passes state rule _ at _ =
    let entries = journal rule.value in
    let old : SeatView D N X = idle passes in
    let new : SeatView D N X = idle (first_shown entries passes) in
    let mine = rule.each id old at in (
      new,
      keeps,
      tt,
      record {
        value = rule.value;
        served = rule.served;
        drawn = rule.drawn;
        words = ap (λ words. set words 2 (get_or words 2 0)) rule.words;
        few = rule.few;
        grown = rule.grown;
        dealt = dealt-set rule.served rule.drawn seats state.views id old new rule.served rule.drawn rule.dealt at
            (shown-length entries passes) (λ number. shown-times entries number passes) refl
            (apart-set rule.served rule.drawn seats state.views id old new rule.dealt at (λ this. le_refl 0));
        placed = placed-set journal share rule.value state.homes state.views id old new at refl rule.placed;
        each = each-set (Fits journal share seats rule.served rule.drawn rule.value state.homes) state.views id new
            (record {
              seen = shown-seen journal share rule.value passes mine.seen;
              numbers = shown-numbers entries seats passes mine.numbers;
              ticket = tt;
              taken = tt;
            })
            (λ other view _ there. rule.each other view there);
      },
      record {
        journal = entries;
        count = ap (λ words. get_or words 2 0) rule.words;
        seat = refl;
        seen = every-weaker (λ pass. HasSeen entries (share rule.value pass.number) pass)
            (λ pass. HasSeen entries pass.share pass) passes
            (λ pass has. record { later = has.later; goes_on = has.goes_on; others = has.others; same = refl }) mine.seen;
      },
    )
