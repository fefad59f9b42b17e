-- The same is printed after every schedule.
use Rattle.std.proofs.Common.{◌≡◌, ℕ, zero, suc, List, ◌++◌, length, codes, refl, sym, ap, ◌∙◌}
use Rattle.std.specs.Fmt.{decimal}
use Rattle.std.specs.List.Sorted.{IsPermutation}
use Rattle.std.proofs.lemmas.List.{length-map}
use Rattle.std.proofs.lemmas.List.Sorted.{length_permutation}
use Rattle.hex.specs.Hex.{encode_lower}
use Rattle.sha2.specs.Sha256.{sha256}
use Rattle.entry_writes.specs.declared.op.Write.{Write}
use Rattle.entry_tree.specs.Selection.{Search, select}
use Rattle.drill_plan.specs.declared.plan.DrillPlan.{DrillPlan}
use Rattle.drill_plan.specs.Ending.{entries_after, write_with, writes_in_turn, whole, followed_by, IsInRange, IsSchedule}
use Rattle.drill_plan.specs.Operations.{all_operations}
use Rattle.drill_plan.specs.Plain.{PlainEntry, plain_of_each}
use Rattle.drill_plan.specs.Summary.{text_of, entries_text, consumer_line, consumer_lines, SchedulesPrintAlike}
use Rattle.drill_plan.proofs.Counted.{as_many}
use Rattle.drill_plan.proofs.Schedules.{schedules_alike}
use Rattle.drill_plan.proofs.Texts.{same_text}

-- what is printed of entries by their number and their text
abbrev entries_with : (count : ℕ) (text : List ℕ) → List ℕ
entries_with count text =
    codes " entries " ++ (decimal count ++ (codes " sha256 " ++ (encode_lower (sha256 text) ++ codes "\n")))

-- what is printed of entries that come in another order
same_entries_text : (xs ys : List PlainEntry) → IsPermutation xs ys → entries_text xs ≡ entries_text ys
same_entries_text xs ys permuted =
    ap (λ count. entries_with count (text_of xs)) (sym (length_permutation xs ys permuted))
    ∙ ap (entries_with (length ys)) (same_text xs ys permuted)

abbrev selected_after : List Write → Search → List PlainEntry
selected_after writes search = plain_of_each (select search (entries_after writes))

module _ (plan : DrillPlan) (writes : List Write) (range : IsInRange plan) (schedule : IsSchedule plan writes) where
  same_line : (search : Search) → entries_text (selected_after writes search) ≡ entries_text (selected_after (writes_in_turn plan) search)
  same_line search =
      same_entries_text (selected_after writes search) (selected_after (writes_in_turn plan) search)
      (schedules_alike plan writes search range schedule)

  same_consumers : (n : ℕ) → consumer_lines writes n ≡ consumer_lines (writes_in_turn plan) n
  same_consumers zero = refl
  same_consumers (suc n) =
      ap (λ lines. lines ++ consumer_line n (selected_after writes (followed_by n))) (same_consumers n)
      ∙ ap (λ text. consumer_lines (writes_in_turn plan) n ++ (codes "consumer " ++ (decimal n ++ text))) (same_line (followed_by n))

  same_count : length writes ≡ length (writes_in_turn plan)
  same_count = as_many plan writes schedule ∙ sym (length-map (all_operations plan) write_with)

-- schedules of one plan print the same
pub printed_alike : SchedulesPrintAlike
printed_alike plan writes range schedule =
    ap (λ count. (codes "writes " ++ (decimal count ++ entries_text (selected_after writes whole))) ++ consumer_lines writes plan.consumers)
    (same_count plan writes range schedule)
    ∙ ap (λ text. (codes "writes " ++ (decimal (length (writes_in_turn plan)) ++ text)) ++ consumer_lines writes plan.consumers)
    (same_line plan writes range schedule whole)
    ∙ ap (λ lines. (codes "writes " ++ (decimal (length (writes_in_turn plan)) ++ entries_text (selected_after (writes_in_turn plan) whole))) ++ lines)
    (same_consumers plan writes range schedule plan.consumers)
