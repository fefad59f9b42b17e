-- What one port added to a journal.
use Rattle.std.specs.Prelude.{ℕ, ◌==◌, if◌then◌else◌, List, [], ◌∷◌}
use Rattle.entry_tree.specs.declared.op.Op.{Op}
use Rattle.sync_provider.specs.Ports.{Journal, PortState}
use Rattle.sync_provider.specs.declared.journal_note.JournalNote.{JournalNote}
use Rattle.sync_provider.specs.declared.journal_note.JournalNote.TheVariants.{Wrote, Opened, Closed}

-- what the port with this number added, in its order
abbrev pub notes_of : ℕ → Journal → List JournalNote
notes_of number [] = []
notes_of number (e ∷ journal) =
    if e.1 == number then e.0 ∷ notes_of number journal else notes_of number journal

-- the operations of the writes among these
abbrev pub operations_in : List JournalNote → List Op
operations_in [] = []
operations_in (Wrote write ∷ notes) = write.op ∷ operations_in notes
operations_in (Opened opening ∷ notes) = operations_in notes
operations_in (Closed end ∷ notes) = operations_in notes

-- these are writes alone
abbrev pub AreWrites : List JournalNote → Type 0
AreWrites [] = Unit {0}
AreWrites (Wrote write ∷ notes) = AreWrites notes
AreWrites (Opened opening ∷ notes) = ⊥
AreWrites (Closed end ∷ notes) = ⊥

-- the port opened no search
abbrev pub OpenedNone : PortState → Type 0
OpenedNone port = AreWrites (notes_of port.number port.journal)

-- what the port wrote
abbrev pub own_operations : PortState → List Op
own_operations port = operations_in (notes_of port.number port.journal)
