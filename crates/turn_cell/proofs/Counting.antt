-- A seat in turn counts the entries that its value has gained.
use Rattle.std.proofs.Common.{◌≡◌, ◌≢◌, ℕ, ◌+◌, ◌%◌, ◌^◌, ◌<◌, List, [], ◌∷◌, ◌++◌, map, set, length, get_or, Option, Some, None, sym, refl, ap, ◌∙◌, subst, inr, arith, append_assoc, append-nil, le_refl}
use Rattle.std.proofs.Math.Nat.{mod-eq_of_lt}
use mathlib.Core.Option.{none}
use lib.ListN.{length-map}
use Rattle.atomic_table.specs.Table.{step, keeps, Allows}
use Rattle.atomic_table.proofs.Lists.{set_here}
use Rattle.turn_cell.specs.declared.table.PassView.{PassView}
use Rattle.turn_cell.specs.declared.table.SeatView.{SeatView}
use Rattle.turn_cell.specs.Journals.{Every, IsNumber, HasGrown}
use Rattle.turn_cell.specs.Rule.{tickets_at, times, in_turn, IsOther, IsOneOf, HasSeen, HaveSeen, Fits, TakesTurns, Grows}
use Rattle.turn_cell.specs.Steps.{updated, Counts}
use Rattle.turn_cell.proofs.Sums.{two-le-total, each-set, place-low}
use Rattle.turn_cell.proofs.Each.{every-append, every-weaker, every-both}
use Rattle.turn_cell.proofs.Numbers.{times-map, held_by_one, every-other}
use Rattle.turn_cell.proofs.Tickets.{dealt-set, apart-set, others_rest}

-- the value of the slot that was taken last
abbrev pub in_hand : {D : Type 0} → List (ℕ × Option D) → Option D
in_hand [] = None
in_hand (slot ∷ slots) = slot.1

-- a journal that has grown goes on to grow by entries of one pass
grown-more : {N : Type 0} (seats number : ℕ) (opened before after added : List (N × ℕ)) → HasGrown seats opened before
    → after ≡ before ++ added → Every (λ entry. entry.1 ≡ number) added → IsNumber seats number
    → HasGrown seats opened after
grown-more seats number opened before after added grown grew own is_number = record {
  added = grown.added ++ added;
  grew = grew ∙ (ap (λ journal. journal ++ added) grown.grew ∙ append_assoc opened grown.added added);
  numbers = every-append (λ entry. IsNumber seats entry.1) grown.added added grown.numbers
      (every-weaker (λ entry. entry.1 ≡ number) (λ entry. IsNumber seats entry.1) added
      (λ entry is. subst (IsNumber seats) (sym is) is_number) own);
}

module _ {D N X : Type 0} (journal : D → List (N × ℕ)) (share : D → ℕ → List X) where
  -- a pass of another number has still seen its own entries
  seen-grown : (number : ℕ) (before after : D) → Grows journal share number before after
      → (pass : PassView N X) → pass.number ≢ number → IsNumber pass.seats number
      → HasSeen (journal before) (share before pass.number) pass
      → HasSeen (journal after) (share after pass.number) pass
  seen-grown number before after grows pass other is_number has = record {
    later = has.later ++ grows.added;
    goes_on = grows.entries
        ∙ (ap (λ entries. entries ++ grows.added) has.goes_on ∙ append_assoc pass.seen has.later grows.added);
    others = every-append (IsOther pass) has.later grows.added has.others
        (every-weaker (λ entry. entry.1 ≡ number) (IsOther pass) grows.added
        (λ entry is. ((λ same. other (sym same ∙ is)), subst (IsNumber pass.seats) (sym is) is_number)) grows.own);
    same = grows.others pass.number other ∙ has.same;
  }

  seen-updated : (value : D) (passes : List (PassView N X))
      → HaveSeen journal share value (map (updated journal share value) passes)
  seen-updated value [] = tt
  seen-updated value (pass ∷ passes) = (
    record { later = []; goes_on = sym (append-nil (journal value)); others = tt; same = refl },
    seen-updated value passes,
  )

  numbers-updated : (seats : ℕ) (value : D) (passes : List (PassView N X))
      → Every (IsOneOf seats) passes
      → Every (IsOneOf seats) (map (updated journal share value) passes)
  numbers-updated seats value [] all = tt
  numbers-updated seats value (pass ∷ passes) all = (all.0, numbers-updated seats value passes all.1)

-- a seat in turn may count what its value has gained
pub counts : {D N X : Type 0} (journal : D → List (N × ℕ)) (share : D → ℕ → List X) (opened : List (N × ℕ))
    (seats slots id : ℕ) (passes : List (PassView N X)) (ticket number n : ℕ) (found value : D)
    → Grows journal share number found value → 0 < times number passes
    → length (journal value) < 2 ^ 64 → length (journal value) ≡ length (journal found) + n
    → Allows (TakesTurns journal share opened seats) slots id (in_turn passes ticket found, (0, Some value) ∷ []) 2
    (λ m. (m + n) % 2 ^ 64)
    (Counts journal share (step slots 2 n 0 none) (in_turn passes ticket found, (0, Some value) ∷ []))
counts {D} {N} {X} journal share opened seats slots id passes ticket number n found value grows some_own few more state rule _ at _ =
    let update = updated journal share value in
    let old : SeatView D N X = in_turn passes ticket found in
    let new : SeatView D N X = in_turn (map update passes) ticket value in
    let mine = rule.each id old at in
    let is : found ≡ rule.value = mine.taken.0 in
    let from : Grows journal share number rule.value value = subst (λ d. Grows journal share number d value) is grows in
    let counted_now : (length (journal rule.value) + n) % 2 ^ 64 ≡ length (journal value) =
    let same : length (journal found) ≡ length (journal rule.value) = ap (λ d. length (journal d)) is in
    let sum : length (journal rule.value) + n ≡ length (journal value) = omega (arith, same, more) in
    rw sum (mod-eq_of_lt few) in
    let lengths : length (map update passes) ≡ length passes = length-map passes update in
    let is_number : IsNumber seats number = held_by_one (IsNumber seats) number passes some_own
    (every-weaker (IsOneOf seats) (λ pass. IsNumber seats pass.number) passes (λ pass one. one.0) mine.numbers) in (
      new,
      keeps,
      tt,
      record {
        value = value;
        served = rule.served;
        drawn = rule.drawn;
        words = ap (λ words. set words 2 ((get_or words 2 0 + n) % 2 ^ 64)) rule.words
            ∙ ap (λ m. (rule.drawn % 2 ^ 64) ∷ (rule.served % 2 ^ 64) ∷ m ∷ []) counted_now;
        few = rule.few;
        grown = grown-more seats number opened (journal rule.value) (journal value) from.added rule.grown from.entries from.own is_number;
        dealt = dealt-set rule.served rule.drawn seats state.views id old new rule.served rule.drawn rule.dealt at
            lengths (λ this. times-map this update (λ pass. refl) passes) refl
            (apart-set rule.served rule.drawn seats state.views id old new rule.dealt at
            (λ this. le_refl (tickets_at this (Some ticket))));
        placed = inr (mine.taken.2, (id, new, set_here state.views id new (place-low state.views id old at), refl));
        each = each-set (Fits journal share seats rule.served rule.drawn value state.homes) state.views id new
            (record {
              seen = seen-updated journal share value passes;
              numbers = numbers-updated journal share seats value passes mine.numbers;
              ticket = (mine.ticket.0, mine.ticket.1, let some_pass : 0 < length passes = mine.ticket.2 in omega (arith, lengths, some_pass));
              taken = (refl, mine.taken.1, mine.taken.2);
            })
            (λ other view apart there.
            let fits = rule.each other view there in
            let none_own : times number view.passes ≡ 0 =
            let two = two-le-total (λ (v : SeatView D N X). times number v.passes) state.views id other old view
            (λ e. apart (sym e)) at there in
            let one = rule.dealt.once number in
            omega (arith, two, one, some_own) in
            record {
              seen = every-both (λ pass. (pass.number ≢ number) × IsOneOf seats pass)
                  (λ pass. HasSeen (journal rule.value) (share rule.value pass.number) pass)
                  (λ pass. HasSeen (journal value) (share value pass.number) pass) view.passes
                  (λ pass other. seen-grown journal share number rule.value value from pass other.0
                  (subst (λ n. IsNumber n number) (sym other.1.1) is_number))
                  (every-both (λ pass. pass.number ≢ number) (IsOneOf seats) (λ pass. (pass.number ≢ number) × IsOneOf seats pass)
                  view.passes (λ pass other one. (other, one)) (every-other number view.passes none_own) fits.numbers)
                  fits.seen;
              numbers = fits.numbers;
              ticket = fits.ticket;
              taken = others_rest journal share opened seats state rule id old at mine.taken.1 other view apart there
                  (λ taken. (taken ≡ value) × (view.ticket ≡ Some rule.served) × (state.homes ≡ none ∷ []));
            });
      },
      (λ slot same.
          let held : Some value ≡ Some slot = ap in_hand same in
          let its : value ≡ slot = cc in
          ap (λ d. (in_turn (map (updated journal share d) passes) ticket d, (0, Some value) ∷ [])) its),
    )
