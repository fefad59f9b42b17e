-- The operations of a drill: first the suffix is added, then each writer adds a unit and works on
-- the entries below it, whatever the other writers do.
use Rattle.std.specs.Prelude.{ℕ, zero, suc, ◌+◌, ◌%◌, ◌==◌, Bool, true, false, not, if◌then◌else◌, List, [], ◌∷◌, ◌++◌, set, replicate, slice_index_or, None}
use Rattle.std.specs.Fmt.{decimal}
use Rattle.schema_rules.specs.declared.raw.How.TheVariants.{Replace}
use Rattle.dn_names.specs.Names.{TypeAndValue}
use Rattle.entry_writes.specs.declared.edit.Edit.{Edit}
use Rattle.entry_writes.specs.declared.op.Op.{Op}
use Rattle.entry_writes.specs.declared.op.Op.TheVariants.{Add, Delete, Modify, Rename}
use Rattle.drill_plan.specs.declared.plan.DrillPlan.{DrillPlan}
use Rattle.drill_plan.specs.Names.{department_number, surname, suffix, suffix_attributes, unit_rdn, unit_name, unit_attributes, entry_name, entry_attributes}
use Rattle.drill_plan.specs.Numbers.{first_number, next_number, slot_of, kind_of}

-- a writer: its place among the writers, how many operations it has done below its unit, the number
-- that it drew last, which entries are there, and whether its unit has its second name
pub record WriterState : Type 0 where
  pub writer : ℕ
  pub step : ℕ
  pub number : ℕ
  pub present : List Bool
  pub renamed : Bool

abbrev pub slots : ℕ
slots = 64

abbrev pub first_state : (seed writer : ℕ) → WriterState
first_state seed writer = record {
  writer = writer;
  step = 0;
  number = first_number seed writer;
  present = replicate slots false;
  renamed = false;
}

-- the next number is drawn for the next operation
abbrev pub drawn : WriterState → WriterState
drawn w = record w { step = w.step + 1; number = next_number w.number }

abbrev pub is_present : WriterState → Bool
is_present w = slice_index_or w.present (slot_of w.number) false

-- the entry that is taken up
abbrev pub taken_up : WriterState → List (List TypeAndValue)
taken_up w = entry_name w.writer w.renamed (slot_of w.number)

-- a type gets this one value
abbrev pub replacing : ℕ → List ℕ → List Edit
replacing kind value = record { how = Replace; kind = kind; values = value ∷ [] } ∷ []

-- the unit gets its other name
abbrev pub renaming : WriterState → Op
renaming w = Rename (unit_name w.writer w.renamed) (unit_rdn w.writer (not w.renamed)) true None

-- to an entry that is there: 0 deletes it, 1 replaces its department's number, 2 renames the unit
-- and so moves the entry, 3 replaces its surname
abbrev pub change : WriterState → (kind : ℕ) → Op
change w kind =
    if kind == 0 then Delete (taken_up w)
    else if kind == 1
    then Modify (taken_up w) (replacing department_number (decimal (w.step % 4)))
    else if kind == 2 then renaming w
    else Modify (taken_up w) (replacing surname (decimal w.step))

-- the operation for the number that was drawn: an entry that is not there is added
abbrev pub operation : WriterState → Op
operation w =
    if is_present w then change w (kind_of w.number)
    else Add (taken_up w) (entry_attributes (slot_of w.number) w.step (kind_of w.number))

abbrev pub with_present : WriterState → Bool → WriterState
with_present w there = record w { present = set w.present (slot_of w.number) there }

abbrev pub after_change : WriterState → (kind : ℕ) → WriterState
after_change w kind =
    if kind == 0 then with_present w false
    else if kind == 2 then record w { renamed = not w.renamed }
    else w

abbrev pub after_operation : WriterState → WriterState
after_operation w =
    if is_present w then after_change w (kind_of w.number) else with_present w true

-- the next n operations
abbrev pub operations : (n : ℕ) → WriterState → List Op
operations zero w = []
operations (suc n) w = operation (drawn w) ∷ operations n (after_operation (drawn w))

-- ---- all of them

abbrev pub add_suffix : Op
add_suffix = Add suffix suffix_attributes

abbrev pub add_unit : (writer : ℕ) → Op
add_unit writer = Add (unit_name writer false) (unit_attributes writer)

abbrev pub writer_operations : DrillPlan → (writer : ℕ) → List Op
writer_operations plan writer =
    add_unit writer ∷ operations plan.size (first_state plan.seed writer)

-- those of the first n writers, one writer after the other
abbrev pub operations_of_first : DrillPlan → (n : ℕ) → List Op
operations_of_first plan zero = []
operations_of_first plan (suc n) = operations_of_first plan n ++ writer_operations plan n

abbrev pub all_operations : DrillPlan → List Op
all_operations plan = add_suffix ∷ operations_of_first plan plan.writers
