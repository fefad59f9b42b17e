-- The entries of one port in a journal, where journals go on.
use Rattle.std.proofs.Common.{◌≡◌, ◌≢◌, ℕ, zero, suc, ◌==◌, true, false, if◌then◌else◌, [], ◌∷◌, ◌++◌, length, refl, sym, ap, ◌∙◌, arith, append_assoc, append-nil, length-append}
use Rattle.std.specs.List.{All}
use Rattle.std.proofs.lemmas.Bool.{eq-eqb, ne_eqb}
use Rattle.std.proofs.lemmas.List.{nil_from_length}
use Rattle.sync_provider.proofs.Journals.{noted_journal}
use Rattle.sync_provider.specs.Ports.{Journal, PortState, noted, noted_all, IsLater, HasMet}
use Rattle.sync_provider.specs.declared.journal_note.JournalNote.{JournalNote}
use Rattle.sync_provider.specs.declared.journal_note.JournalNote.TheVariants.{Wrote, Opened, Closed}
use Rattle.sync_drill.specs.Journals.{notes_of}

-- the notes of a number in two journals in a row
pub notes-append : (number : ℕ) (xs ys : Journal) → notes_of number (xs ++ ys) ≡ notes_of number xs ++ notes_of number ys
notes-append number [] ys = refl
notes-append number (e ∷ xs) ys =
    let rest = notes-append number xs ys in
    elim (e.1 == number) as (λ b.
    (if b then e.0 ∷ notes_of number (xs ++ ys) else notes_of number (xs ++ ys))
    ≡ (if b then e.0 ∷ notes_of number xs else notes_of number xs) ++ notes_of number ys)
    [ true ↦ ap (λ notes. e.0 ∷ notes) rest | false ↦ rest ]

-- a number is found equal to itself
pub is_itself : (n : ℕ) → (n == n) ≡ true
is_itself n = eq-eqb n n refl

-- different numbers are found different
pub is_another : (n m : ℕ) → n ≢ m → (n == m) ≡ false
is_another n m far = ne_eqb n m far

-- entries of others are none of its own
pub notes-others : (number : ℕ) (journal : Journal) → All (λ e. e.1 ≢ number) journal → notes_of number journal ≡ []
notes-others number [] others = refl
notes-others number (e ∷ journal) others =
    ap (λ b. if b then e.0 ∷ notes_of number journal else notes_of number journal) (is_another e.1 number (others zero e (omega arith)))
    ∙ notes-others number journal (λ k d low. others (suc k) d (omega (arith, low)))

-- A journal between two that have the same entries of a port has these entries of it.
pub between : (number : ℕ) (low more later : Journal) → notes_of number ((low ++ more) ++ later) ≡ notes_of number low
    → notes_of number (low ++ more) ≡ notes_of number low
between number low more later same =
    let first : notes_of number (low ++ more) ≡ notes_of number low ++ notes_of number more = notes-append number low more in
    let second : notes_of number ((low ++ more) ++ later) ≡ notes_of number (low ++ more) ++ notes_of number later =
    notes-append number (low ++ more) later in
    let no_more : notes_of number more ≡ [] =
    nil_from_length (notes_of number more)
    (omega (
      arith,
      ap length same,
      ap length first,
      ap length second,
      length-append (notes_of number low) (notes_of number more),
      length-append (notes_of number (low ++ more)) (notes_of number later),
    )) in
    first ∙ (ap (λ notes. notes_of number low ++ notes) no_more ∙ append-nil (notes_of number low))

-- ---- ports

-- a port that notes an entry keeps its number
pub noted-number : (p : PortState) (note : JournalNote) (by : ℕ) → (noted p note by).number ≡ p.number
noted-number p (Wrote write) by = refl
noted-number p (Opened opening) by = refl
noted-number p (Closed end) by = refl

-- entries that are noted come after those of before, in their order
pub noted_all-journal : (p : PortState) (entries : Journal) → (noted_all p entries).journal ≡ p.journal ++ entries
noted_all-journal p [] = sym (append-nil p.journal)
noted_all-journal p (e ∷ entries) =
    noted_all-journal (noted p e.0 e.1) entries
    ∙ ap (λ journal. journal ++ entries) (noted_journal p e.0 e.1)
    ∙ append_assoc p.journal (e ∷ []) entries

-- the port keeps its number
pub noted_all-number : (p : PortState) (entries : Journal) → (noted_all p entries).number ≡ p.number
noted_all-number p [] = refl
noted_all-number p (e ∷ entries) = noted_all-number (noted p e.0 e.1) entries ∙ noted-number p e.0 e.1

-- a port at which entries of others came in has its own entries still
pub later-own : (old new : PortState) → IsLater old new → notes_of new.number new.journal ≡ notes_of old.number old.journal
later-own old new later =
    let number : new.number ≡ old.number = ap (λ (p : PortState). p.number) later.is ∙ noted_all-number old later.entries in
    let journal : new.journal ≡ old.journal ++ later.entries = ap (λ (p : PortState). p.journal) later.is ∙ noted_all-journal old later.entries in
    ap (λ n. notes_of n new.journal) number
    ∙ ap (notes_of old.number) journal
    ∙ notes-append old.number old.journal later.entries
    ∙ ap (λ notes. notes_of old.number old.journal ++ notes)
    (notes-others old.number later.entries (λ k d low. (later.others k d low).0))
    ∙ append-nil (notes_of old.number old.journal)

-- Where a journal goes on from what a port has seen, and the port then meets one that has seen that
-- journal, the journal has exactly the port's own entries.
pub met-own : (other seen after : PortState) (more : Journal) → seen.journal ≡ other.journal ++ more → HasMet other seen after
    → notes_of other.number seen.journal ≡ notes_of other.number other.journal
met-own other seen after more begins second =
    let own = later-own other after second.later in
    let number : after.number ≡ other.number =
    ap (λ (p : PortState). p.number) second.later.is ∙ noted_all-number other second.later.entries in
    let whole : notes_of other.number ((other.journal ++ more) ++ second.seen.more) ≡ notes_of other.number other.journal =
    ap (notes_of other.number) (ap (λ journal. journal ++ second.seen.more) (sym begins) ∙ sym second.seen.begins)
    ∙ ap (λ n. notes_of n after.journal) (sym number)
    ∙ own in
    ap (notes_of other.number) begins ∙ between other.number other.journal more second.seen.more whole

-- a journal that goes on twice goes on
pub goes-on : (first : Journal) (old new : PortState) (more : Journal) → old.journal ≡ first ++ more → IsLater old new
    → (rest : Journal) × (new.journal ≡ first ++ rest)
goes-on first old new more begins later = (
  more ++ later.entries,
  ap (λ (p : PortState). p.journal) later.is
      ∙ noted_all-journal old later.entries
      ∙ ap (λ journal. journal ++ later.entries) begins
      ∙ append_assoc first more later.entries,
)

-- an entry of another port is none of its own
pub others_notes : (p : PortState) (note : JournalNote) (by : ℕ) → by ≢ p.number
    → notes_of p.number (noted p note by).journal ≡ notes_of p.number p.journal
others_notes p note by other =
    ap (notes_of p.number) (noted_journal p note by)
    ∙ notes-append p.number p.journal ((note, by) ∷ [])
    ∙ ap (λ b. notes_of p.number p.journal ++ (if b then note ∷ [] else [])) (is_another by p.number other)
    ∙ append-nil (notes_of p.number p.journal)

-- one of its own comes last
pub own_notes : (p : PortState) (note : JournalNote)
    → notes_of p.number (p.journal ++ (note, p.number) ∷ []) ≡ notes_of p.number p.journal ++ note ∷ []
own_notes p note =
    notes-append p.number p.journal ((note, p.number) ∷ [])
    ∙ ap (λ b. notes_of p.number p.journal ++ (if b then note ∷ [] else [])) (is_itself p.number)
