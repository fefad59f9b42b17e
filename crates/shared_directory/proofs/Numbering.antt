-- A journal with the numbers of its ports, where an entry or a number is added at its end.
use Rattle.std.proofs.Common.{◌≡◌, ℕ, ◌+◌, Bool, List, [], ◌∷◌, ◌++◌, map, length, refl, ap, ◌∙◌, arith}
use Rattle.sync_provider.specs.Ports.{Journal, open_after, open_from}
use Rattle.sync_provider.specs.declared.journal_note.JournalNote.{JournalNote}
use Rattle.sync_provider.specs.declared.journal_note.JournalNote.TheVariants.{Wrote, Opened, Closed}
use Rattle.shared_directory.specs.Numbers.{Openers, first_number, port_of_note, numbers_after, openers_after, numbered_with, openers_of, kept_of, kept_count}

-- the numbers that are left for what comes after these entries
abbrev pub numbers_left : Journal → List ℕ → List ℕ
numbers_left [] numbers = numbers
numbers_left (e ∷ journal) numbers = numbers_left journal (numbers_after e.0 numbers)

-- ---- an entry more

-- an entry at the end of a journal gets the number that is left for it, and those before it keep
-- theirs
pub numbered-entry : (openers : Openers) (journal : Journal) (e : JournalNote × ℕ) (numbers : List ℕ)
    → numbered_with openers (journal ++ e ∷ []) numbers
    ≡ numbered_with openers journal numbers
    ++ (e.0, port_of_note (openers_of openers journal numbers) e.0 (numbers_left journal numbers)) ∷ []
numbered-entry openers [] e numbers = refl
numbered-entry openers (x ∷ journal) e numbers =
    ap (λ rest. (x.0, port_of_note openers x.0 numbers) ∷ rest)
    (numbered-entry (openers_after openers x.0 (port_of_note openers x.0 numbers)) journal e (numbers_after x.0 numbers))

-- after it, who opened the last search under each number is as that entry leaves it
pub openers-entry : (openers : Openers) (journal : Journal) (e : JournalNote × ℕ) (numbers : List ℕ)
    → openers_of openers (journal ++ e ∷ []) numbers
    ≡ openers_after (openers_of openers journal numbers) e.0
    (port_of_note (openers_of openers journal numbers) e.0 (numbers_left journal numbers))
openers-entry openers [] e numbers = refl
openers-entry openers (x ∷ journal) e numbers =
    openers-entry (openers_after openers x.0 (port_of_note openers x.0 numbers)) journal e (numbers_after x.0 numbers)

-- one number more is wanted where the entry has one kept
pub count-entry : (journal : Journal) (e : JournalNote × ℕ) → kept_count (journal ++ e ∷ []) ≡ kept_count journal + kept_of e.0
count-entry [] e = omega arith
count-entry (x ∷ journal) e = let rest = count-entry journal e in omega (arith, rest)

-- ---- a number more

module _ (number : ℕ) where
  -- a number at the end, for which there is no entry yet, changes the number of no entry
  pub numbered-number : (openers : Openers) (journal : Journal) (numbers : List ℕ) → kept_count journal ≡ length numbers
      → numbered_with openers journal (numbers ++ number ∷ []) ≡ numbered_with openers journal numbers
  numbered-number openers [] numbers kept = refl
  numbered-number openers ((Wrote write, was) ∷ journal) [] kept = absurd (omega (arith, kept))
  numbered-number openers ((Wrote write, was) ∷ journal) (n ∷ numbers) kept =
      ap (λ rest. (Wrote write, n) ∷ rest) (numbered-number openers journal numbers (omega (arith, kept)))
  numbered-number openers ((Opened opening, was) ∷ journal) [] kept = absurd (omega (arith, kept))
  numbered-number openers ((Opened opening, was) ∷ journal) (n ∷ numbers) kept =
      ap (λ rest. (Opened opening, n) ∷ rest)
      (numbered-number (openers_after openers (Opened opening) n) journal numbers (omega (arith, kept)))
  numbered-number openers ((Closed end, was) ∷ journal) numbers kept =
      ap (λ rest. (Closed end, openers end.number) ∷ rest) (numbered-number openers journal numbers (omega (arith, kept)))

  -- nor who opened which search
  pub openers-number : (openers : Openers) (journal : Journal) (numbers : List ℕ) → kept_count journal ≡ length numbers
      → openers_of openers journal (numbers ++ number ∷ []) ≡ openers_of openers journal numbers
  openers-number openers [] numbers kept = refl
  openers-number openers ((Wrote write, was) ∷ journal) [] kept = absurd (omega (arith, kept))
  openers-number openers ((Wrote write, was) ∷ journal) (n ∷ numbers) kept =
      openers-number openers journal numbers (omega (arith, kept))
  openers-number openers ((Opened opening, was) ∷ journal) [] kept = absurd (omega (arith, kept))
  openers-number openers ((Opened opening, was) ∷ journal) (n ∷ numbers) kept =
      openers-number (openers_after openers (Opened opening) n) journal numbers (omega (arith, kept))
  openers-number openers ((Closed end, was) ∷ journal) numbers kept =
      openers-number openers journal numbers (omega (arith, kept))

  -- it is what is left
  pub number-left : (journal : Journal) (numbers : List ℕ) → kept_count journal ≡ length numbers
      → numbers_left journal (numbers ++ number ∷ []) ≡ number ∷ []
  number-left [] [] kept = refl
  number-left [] (n ∷ numbers) kept = absurd (omega (arith, kept))
  number-left ((Wrote write, was) ∷ journal) [] kept = absurd (omega (arith, kept))
  number-left ((Wrote write, was) ∷ journal) (n ∷ numbers) kept = number-left journal numbers (omega (arith, kept))
  number-left ((Opened opening, was) ∷ journal) [] kept = absurd (omega (arith, kept))
  number-left ((Opened opening, was) ∷ journal) (n ∷ numbers) kept = number-left journal numbers (omega (arith, kept))
  number-left ((Closed end, was) ∷ journal) numbers kept = number-left journal numbers (omega (arith, kept))

-- ---- an entry that has a number kept, and its number

module _ (note : JournalNote) (was number : ℕ) (openers : Openers) (journal : Journal) (numbers : List ℕ)
    (kept : kept_count journal ≡ length numbers)
    (takes : (os : Openers) (ns : List ℕ) → port_of_note os note ns ≡ first_number ns) where
  its : port_of_note (openers_of openers journal (numbers ++ number ∷ [])) note (numbers_left journal (numbers ++ number ∷ [])) ≡ number
  its =
      takes (openers_of openers journal (numbers ++ number ∷ [])) (numbers_left journal (numbers ++ number ∷ []))
      ∙ ap first_number (number-left number journal numbers kept)

  -- an entry that comes together with its number has that number
  pub numbered-kept : numbered_with openers (journal ++ (note, was) ∷ []) (numbers ++ number ∷ [])
      ≡ numbered_with openers journal numbers ++ (note, number) ∷ []
  numbered-kept =
      numbered-entry openers journal (note, was) (numbers ++ number ∷ [])
      ∙ (λ i. numbered-number number openers journal numbers kept i ++ (note, its i) ∷ [])

  -- and who opened which search is as that entry leaves it
  pub openers-kept : openers_of openers (journal ++ (note, was) ∷ []) (numbers ++ number ∷ [])
      ≡ openers_after (openers_of openers journal numbers) note number
  openers-kept =
      openers-entry openers journal (note, was) (numbers ++ number ∷ [])
      ∙ (λ i. openers_after (openers-number number openers journal numbers kept i) note (its i))

-- ---- the notes alone

abbrev pub notes_in : Journal → List JournalNote
notes_in journal = map (λ (e : JournalNote × ℕ). e.0) journal

-- the numbers change no note
pub notes-numbered : (openers : Openers) (journal : Journal) (numbers : List ℕ)
    → notes_in (numbered_with openers journal numbers) ≡ notes_in journal
notes-numbered openers [] numbers = refl
notes-numbered openers (e ∷ journal) numbers =
    ap (λ rest. e.0 ∷ rest)
    (notes-numbered (openers_after openers e.0 (port_of_note openers e.0 numbers)) journal (numbers_after e.0 numbers))

-- whether a search is open is by the notes alone
abbrev pub open_by : ℕ → Bool → List JournalNote → Bool
open_by number was [] = was
open_by number was (note ∷ notes) = open_by number (open_after number was note) notes

-- which searches of a port are open depends on the notes of the journal alone
pub open_by_notes : (number : ℕ) (was : Bool) (journal : Journal) → open_from number was journal ≡ open_by number was (notes_in journal)
open_by_notes number was [] = refl
open_by_notes number was (e ∷ journal) = open_by_notes number (open_after number was e.0) journal
