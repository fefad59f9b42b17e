-- What is kept beside the writes of a directory, and by which the next one is judged.
use Rattle.std.specs.Prelude.{◌≡◌, ℕ, ◌+◌, List, [], Option, Some, None}
use Rattle.csn_cookie.specs.Csn.{CsnValue, start}
use Rattle.entry_tree.specs.declared.entry.Entry.{Entry}
use Rattle.entry_tree.specs.declared.op.Op.{Op}
use Rattle.entry_tree.specs.Sound.{is_commit}
use Rattle.entry_tree.specs.Touched.{with_changes, CanBeMade}
use Rattle.entry_tree.specs.declared.touched.EntryChange.{EntryChange}
use Rattle.directory_writes.specs.declared.previous.Previous.{Previous}
use Rattle.directory_writes.specs.declared.preview.Preview.{Preview}
use Rattle.directory_writes.specs.Touches.{Numbers, renewed}

-- how many writes there are, what they weigh, the last CSN, the entries after them, and the number
-- of the last touch of each entry that a commit touched last
pub record StandingState : Type 0 where
  pub count : ℕ
  pub weight : ℕ
  pub last : CsnValue
  pub entries : List Entry
  pub numbers : Numbers

-- without writes
abbrev pub fresh_standing : ℕ → StandingState
fresh_standing sid =
    record { count = 0; weight = 0; last = start sid; entries = []; numbers = [] }

-- after one more write, which was previewed so
abbrev pub standing_after : StandingState → Op → Preview → StandingState
standing_after s op preview =
    record {
      count = s.count + 1;
      weight = preview.weight;
      last = preview.csn_maker;
      entries = with_changes s.entries preview.touched;
      numbers = renewed (is_commit op) (s.count + 1) s.numbers preview.touched;
    }

-- the changes can be made to the entries, and lead to the others
pub record LeadsTo
    (before : List Entry) (changes : List EntryChange) (after : List Entry) : Type 0 where
  pub fit : CanBeMade before changes
  pub leads : with_changes before changes ≡ after

-- what is left of what was kept before the last write, if anything, leads to these entries and
-- numbers after it
abbrev pub IsPrevious : Option Previous → List Entry → Numbers → Type 0
IsPrevious None entries numbers = Unit {0}
IsPrevious (Some previous) entries numbers =
    LeadsTo previous.tree previous.changes entries
    × (renewed previous.commits previous.number previous.numbers previous.changes ≡ numbers)
