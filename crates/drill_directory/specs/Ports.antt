-- The passes with which the directory of a drill is made, and their ports.
use Rattle.std.specs.Prelude.{◌≡◌, ℕ, List}
use Rattle.turn_cell.specs.declared.pass.Pass.{Pass}
use Rattle.turn_cell.specs.Passes.{view_of}
use Rattle.sync_provider.specs.Journal.{JournalledProvider, fresh_port, port_state}
use Rattle.sync_provider.specs.Ports.{PortState}
use Rattle.sync_provider.specs.declared.journal_note.JournalNote.{JournalNote}
use Rattle.sync_provider.specs.declared.provider.Kind.TheVariants.{Root}
use Rattle.shared_directory.specs.Desks.{NumberedState, HeldState}
use Rattle.shared_directory.specs.Passes.{AreFirst, directory_id, port_of}
use Rattle.shared_directory.specs.declared.directory.SharedDirectory.{SharedDirectory}
use Rattle.drill_plan.specs.Ending.{history, server}
use Rattle.drill_plan.specs.Names.{suffix}

-- the n passes of a directory that has had no write, in the order of their numbers
abbrev pub AreNew : {g : _} → SharedDirectory → (count : ℕ)
    → List (Pass HeldState JournalNote NumberedState g) → Type 0
AreNew directory count passes =
    (provider : JournalledProvider)
    × (port_state provider ≡ fresh_port suffix server history Root)
    × AreFirst (directory_id directory) count provider 1 passes

-- the port of a pass at a directory, by its home and what it knows
abbrev pub IsPortOf : {P : Type 0} {g : _} → (P → SharedDirectory) → (P → PortState)
    → SharedDirectory → Pass HeldState JournalNote NumberedState g → P → Type 0
IsPortOf home state directory pass port =
    (home port ≡ directory) × (state port ≡ port_of (view_of pass))
