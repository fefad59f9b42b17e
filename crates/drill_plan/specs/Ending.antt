-- What is left when all operations of a drill were done.
use Rattle.std.specs.Prelude.{◌≡◌, ℕ, ◌<◌, ◌≤◌, ◌%◌, List, [], ◌∷◌, map, codes}
use Rattle.std.specs.Fmt.{decimal}
use Rattle.std.specs.List.Sorted.{IsPermutation}
use Rattle.csn_cookie.specs.Csn.{start}
use Rattle.ldap_filter.specs.FilterTree.{all_of, equal, no_trees}
use Rattle.entry_writes.specs.declared.entry.Entry.{Entry}
use Rattle.entry_writes.specs.declared.op.Op.{Op}
use Rattle.entry_writes.specs.declared.op.Write.{Write}
use Rattle.entry_tree.specs.declared.spec.Scope.TheVariants.{Sub}
use Rattle.entry_tree.specs.History.{state_from}
use Rattle.entry_tree.specs.Selection.{Search, select}
use Rattle.drill_plan.specs.declared.plan.DrillPlan.{DrillPlan}
use Rattle.drill_plan.specs.Names.{suffix}
use Rattle.drill_plan.specs.Operations.{add_suffix, writer_operations, all_operations}
use Rattle.drill_plan.specs.Plain.{plain_of_each}
use Rattle.drill_plan.specs.Schedule.{NumberedWrites, writes_of, operations_by}

-- the numbers of the history and of the server
abbrev pub history : ℕ
history = 1

abbrev pub server : ℕ
server = 1

-- the entries after these writes of the directory
abbrev pub entries_after : List Write → List Entry
entries_after writes = state_from history [] 0 writes

-- a write of this operation; its CSN is not seen in what is printed
abbrev pub write_with : Op → Write
write_with op = record { csn = start server; op = op }

-- the first operation and then all of each writer, one writer after the other
abbrev pub writes_in_turn : DrillPlan → List Write
writes_in_turn plan = map write_with (all_operations plan)

-- the entries after them
abbrev pub end_of : DrillPlan → List Entry
end_of plan = entries_after (writes_in_turn plan)

-- all entries
abbrev pub whole : Search
whole = record { base = suffix; scope = Sub; filter = all_of no_trees }

-- what a consumer follows: the entries of one department
abbrev pub followed_by : (consumer : ℕ) → Search
followed_by consumer = record {
  base = suffix;
  scope = Sub;
  filter = equal (codes "departmentNumber") (decimal (consumer % 4));
}

-- ---- any order between writers

abbrev pub AreOf : (writers : ℕ) → NumberedWrites → Type 0
AreOf writers [] = Unit {0}
AreOf writers (w ∷ numbered) = (w.0 < writers) × AreOf writers numbered

-- The writes are the first operation and then those of the writers, each writer's in their order.
pub record IsSchedule (plan : DrillPlan) (writes : List Write) : Type 0 where
  pub first : Write
  pub numbered : NumberedWrites
  pub is : writes ≡ first ∷ writes_of numbered
  pub suffix_first : first.op ≡ add_suffix
  pub writers : AreOf plan.writers numbered
  pub each : (writer : ℕ) → writer < plan.writers
      → operations_by writer numbered ≡ writer_operations plan writer

-- a plan that keeps to the greatest numbers
pub record IsInRange (plan : DrillPlan) : Type 0 where
  pub writers : plan.writers ≤ 8
  pub size : plan.size ≤ 2000

-- Whatever the order between writers, the names and the attributes in the end are the same, all of
-- them and those that a search selects.
abbrev pub SchedulesEndAlike : Type 0
SchedulesEndAlike =
    (plan : DrillPlan) (writes : List Write) (search : Search)
    → IsInRange plan
    → IsSchedule plan writes
    → IsPermutation (plain_of_each (select search (entries_after writes)))
    (plain_of_each (select search (end_of plan)))
