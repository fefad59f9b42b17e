-- Passes of a directory, and those that come back from threads.
use Rattle.atomic_table.specs.Seated.{TableId}
use Rattle.turn_cell.specs.declared.pass.Pass.{Pass}
use Rattle.sync_provider.specs.declared.journal_note.JournalNote.{JournalNote}
use Rattle.shared_directory.specs.Desks.{NumberedState, HeldState}
use Rattle.shared_directory.specs.Passes.{IsPassOf}

abbrev pub ArePassesOf : {g : _} → TableId
    → (Pass HeldState JournalNote NumberedState g × Pass HeldState JournalNote NumberedState g)
    × (Pass HeldState JournalNote NumberedState g × Pass HeldState JournalNote NumberedState g)
    → Type 0
ArePassesOf cell passes =
    IsPassOf cell passes.0.0 × IsPassOf cell passes.0.1
    × IsPassOf cell passes.1.0 × IsPassOf cell passes.1.1

-- each with what its thread answers
abbrev pub AreGivenBack : {X : Type 0} {g : _} → TableId
    → ((Pass HeldState JournalNote NumberedState g × X)
    × (Pass HeldState JournalNote NumberedState g × X))
    × ((Pass HeldState JournalNote NumberedState g × X)
    × (Pass HeldState JournalNote NumberedState g × X)) → Type 0
AreGivenBack cell worked =
    IsPassOf cell worked.0.0.0 × IsPassOf cell worked.0.1.0
    × IsPassOf cell worked.1.0.0 × IsPassOf cell worked.1.1.0
