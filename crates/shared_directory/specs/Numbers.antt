-- Which port's call added each entry of a journal.
--
-- A number is kept for each entry but the ends of searches: a search is ended by the port that
-- opened it.
use Rattle.std.specs.Prelude.{ℕ, ◌+◌, cond, nat_eq, List, [], ◌∷◌, drop}
use Rattle.sync_provider.specs.Ports.{Journal}
use Rattle.sync_provider.specs.declared.journal_note.JournalNote.{JournalNote}
use Rattle.sync_provider.specs.declared.journal_note.JournalNote.TheVariants.{Wrote, Opened, Closed}

-- the port that opened the last search under each number
abbrev pub Openers : Type 0
Openers = ℕ → ℕ

-- no port opened one
abbrev pub no_openers : Openers
no_openers n = 0

-- the first of some numbers, or 0
abbrev pub first_number : List ℕ → ℕ
first_number [] = 0
first_number (number ∷ numbers) = number

-- the port whose call added an entry, where the first of the numbers is of the first entry that has
-- one kept
abbrev pub port_of_note : Openers → JournalNote → List ℕ → ℕ
port_of_note openers (Wrote write) numbers = first_number numbers
port_of_note openers (Opened opening) numbers = first_number numbers
port_of_note openers (Closed end) numbers = openers end.number

-- the numbers that are kept for the entries after it
abbrev pub numbers_after : JournalNote → List ℕ → List ℕ
numbers_after (Wrote write) numbers = drop 1 numbers
numbers_after (Opened opening) numbers = drop 1 numbers
numbers_after (Closed end) numbers = numbers

-- after an entry that this port added
abbrev pub openers_after : Openers → JournalNote → ℕ → Openers
openers_after openers (Wrote write) by = openers
openers_after openers (Opened opening) by = λ n. cond (nat_eq n opening.number) by (openers n)
openers_after openers (Closed end) by = openers

-- the entries, each with the number of the port whose call added it
abbrev pub numbered_with : Openers → Journal → List ℕ → Journal
numbered_with openers [] numbers = []
numbered_with openers (e ∷ journal) numbers =
    (e.0, port_of_note openers e.0 numbers)
    ∷ numbered_with (openers_after openers e.0 (port_of_note openers e.0 numbers)) journal
    (numbers_after e.0 numbers)

-- after all of them
abbrev pub openers_of : Openers → Journal → List ℕ → Openers
openers_of openers [] numbers = openers
openers_of openers (e ∷ journal) numbers =
    openers_of (openers_after openers e.0 (port_of_note openers e.0 numbers)) journal
    (numbers_after e.0 numbers)

-- 1 for an entry that has a number kept
abbrev pub kept_of : JournalNote → ℕ
kept_of (Wrote write) = 1
kept_of (Opened opening) = 1
kept_of (Closed end) = 0

-- how many of them have one
abbrev pub kept_count : Journal → ℕ
kept_count [] = 0
kept_count (e ∷ journal) = kept_of e.0 + kept_count journal
