-- What is printed of a drill, by what its first port knows and by the copies.
use Rattle.std.specs.Prelude.{◌≡◌, ℕ, suc, List, [], ◌∷◌, ◌++◌, length}
use Rattle.entry_tree.specs.Selection.{select}
use Rattle.directory_writes.specs.Directory.{AreAccepted, entries_of}
use Rattle.directory_writes.specs.Formed.{AreFormed}
use Rattle.sync_consumer.specs.Taking.{ConsumerState}
use Rattle.sync_provider.specs.Ports.{PortState}
use Rattle.drill_plan.specs.Ending.{whole}
use Rattle.drill_plan.specs.Plain.{plain_of_each}
use Rattle.drill_plan.specs.Summary.{consumer_line, writes_line}
use Rattle.sync_drill.specs.Going.{OthersCameIn}

-- the lines of consumers with these copies, the first of which is at this place
abbrev pub copies_text : (place : ℕ) → List ConsumerState → List ℕ
copies_text place [] = []
copies_text place (copy ∷ copies) =
    consumer_line place (plain_of_each copy.copy.held) ++ copies_text (suc place) copies

-- a port counted its writes, all of which were accepted
pub record HasCountedWrites (old new : PortState) (count : ℕ) : Type 0 where
  pub came : OthersCameIn old new
  pub is : count ≡ length new.directory.writes
  pub accepted : AreAccepted new.directory.suffix new.directory.history new.directory.writes
  pub formed : AreFormed new.directory.writes

-- the line of all entries: the port counted its writes first, and then found its entries
pub record IsWholeLine (old new : PortState) (line : List ℕ) : Type 0 where
  pub counted : PortState
  pub count : ℕ
  pub earlier : HasCountedWrites old counted count
  pub later : OthersCameIn counted new
  pub is : line ≡ writes_line count (plain_of_each (select whole (entries_of new.directory)))

-- the whole text: that line, and one for each of these copies
pub record IsSummary (old new : PortState) (copies : List ConsumerState) (text : List ℕ)
    : Type 0 where
  pub line : List ℕ
  pub first : IsWholeLine old new line
  pub is : text ≡ line ++ copies_text 0 copies
