-- The passes of a shared directory, and what the port of each knows.
use Rattle.std.specs.Prelude.{◌≡◌, ℕ, suc, List, [], ◌∷◌, Option, Some, None}
use Rattle.atomic_table.specs.Seated.{TableId}
use Rattle.turn_cell.specs.declared.pass.Pass.{Pass}
use Rattle.turn_cell.specs.declared.table.PassView.{PassView}
use Rattle.turn_cell.specs.Journals.{Every, HasGrown}
use Rattle.turn_cell.specs.Passes.{cell_id, cell_of, opened_with, seats_of, view_of}
use Rattle.turn_cell.specs.Rule.{first_pass}
use Rattle.sync_provider.specs.Journal.{JournalledProvider, journal_in, fresh_port}
use Rattle.sync_provider.specs.Ports.{Journal, PortState, IsLater}
use Rattle.sync_provider.specs.declared.journal_note.JournalNote.{JournalNote}
use Rattle.sync_provider.specs.declared.provider.Kind.TheVariants.{Root}
use Rattle.shared_directory.specs.Desks.{NumberedState, HeldState, port_journal, port_in}
use Rattle.shared_directory.specs.declared.directory.SharedDirectory.{SharedDirectory}

-- ---- a directory

-- which directory it is
abbrev pub directory_id : SharedDirectory → TableId
directory_id directory = cell_id directory.cell

-- how many ports it has
abbrev pub ports_of : SharedDirectory → ℕ
ports_of directory = seats_of directory.cell

-- what it was made with
abbrev pub made_with : SharedDirectory → HeldState
made_with directory = opened_with directory.cell

-- ---- what a pass has seen

abbrev pub DirectoryView : Type 0
DirectoryView = PassView JournalNote NumberedState

-- the journal as a pass left it
abbrev pub journal_left : List NumberedState → Option Journal
journal_left [] = None
journal_left (last ∷ []) = Some (port_journal last)
journal_left (last ∷ other ∷ more) = None

-- what the port with this number knows that left the provider so
abbrev pub port_left : (number ports : ℕ) → List NumberedState → PortState
port_left number ports [] = fresh_port [] 0 0 Root
port_left number ports (last ∷ more) = port_in number ports last

-- what the port of a pass knows
abbrev pub port_of : DirectoryView → PortState
port_of view = port_left view.number view.seats view.share

-- it has seen the journal as it left it
abbrev pub IsUpToDate : DirectoryView → Type 0
IsUpToDate view = journal_left view.share ≡ Some view.seen

-- a pass of the directory with this cell
abbrev pub IsPassOf : {g : _} → TableId → Pass HeldState JournalNote NumberedState g → Type 0
IsPassOf cell pass = (cell_of pass ≡ cell) × IsUpToDate (view_of pass)

-- of a pass that is there
abbrev pub view_or : {g : _} → Option (Pass HeldState JournalNote NumberedState g) → DirectoryView
view_or None = first_pass []
view_or (Some pass) = view_of pass

abbrev pub cell_or :
    {g : _} → TableId → Option (Pass HeldState JournalNote NumberedState g) → TableId
cell_or cell None = cell
cell_or cell (Some pass) = cell_of pass

-- ---- a directory as it is made, and as it is closed

-- a port that follows no search, of a directory that is made with this provider
abbrev pub first_port : (number ports : ℕ) → JournalledProvider → PortState
first_port number ports v = record {
  number = number;
  ports = ports;
  kind = v.state.kind;
  directory = v.state.directory;
  queue_limit = v.state.queue_limit;
  journal = journal_in v;
  followed = λ n. None;
}

-- passes of this cell whose ports know so much, with the numbers from `number` on
abbrev pub AreFirst : {g : _} → TableId → (ports : ℕ) → JournalledProvider → (number : ℕ)
    → List (Pass HeldState JournalNote NumberedState g) → Type 0
AreFirst cell ports v number [] = Unit {0}
AreFirst cell ports v number (pass ∷ passes) =
    IsPassOf cell pass
    × (port_of (view_of pass) ≡ first_port number ports v)
    × AreFirst cell ports v (suc number) passes

-- The provider is as the ports of these passes left it: since the last call of each, entries of
-- others came in. Each entry since the ports were made has the number of one of them.
pub record IsGivenBack
    (directory : SharedDirectory) (views : List DirectoryView)
    (v : JournalledProvider) : Type 0 where
  pub last : NumberedState
  pub provider : last.provider ≡ v
  pub ports : Every (λ view. IsLater (port_of view) (port_in view.number view.seats last)) views
  pub numbers :
      HasGrown (ports_of directory) (port_journal (made_with directory).now) (port_journal last)
