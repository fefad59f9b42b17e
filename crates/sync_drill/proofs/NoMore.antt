-- Where a journal goes on with no more operations of any port, nothing was written.
use Rattle.std.proofs.Common.{◌≡◌, ◌≤◌, ◌<◌, ◌==◌, leb, ℕ, suc, Bool, true, false, if◌then◌else◌, List, [], ◌∷◌, ◌++◌, length, refl, sym, ap, ◌∙◌, arith, length-append}
use Rattle.std.specs.List.{All}
use Rattle.std.proofs.lemmas.Bool.{leb-false, leb-true}
use Rattle.std.proofs.lemmas.List.{nil_from_length}
use Rattle.sync_provider.specs.Ports.{Journal, write_in, writes_in}
use Rattle.sync_provider.specs.declared.journal_note.JournalNote.{JournalNote}
use Rattle.sync_provider.specs.declared.journal_note.JournalNote.TheVariants.{Wrote, Opened, Closed}
use Rattle.sync_drill.specs.Delivered.{EndedSearch, notes_in}
use Rattle.sync_drill.specs.Journals.{notes_of, operations_in}
use Rattle.sync_drill.proofs.Lists.{nil-cons}
use Rattle.sync_drill.proofs.Notes.{is_itself, notes-append}
use Rattle.sync_drill.proofs.Writes.{operations-append}

-- searches are no operations
pub ended_no_operations : (searches : List EndedSearch) → operations_in (notes_in searches) ≡ []
ended_no_operations [] = refl
ended_no_operations (search ∷ searches) = ended_no_operations searches

second_none : {X : Type 0} (xs ys : List X) → xs ++ ys ≡ xs → ys ≡ []
second_none xs ys same = nil_from_length ys (omega (arith, ap length same, length-append xs ys))

both_none : {X : Type 0} (xs ys : List X) → xs ++ ys ≡ [] → ys ≡ []
both_none [] ys none = none
both_none (x ∷ xs) ys none = absurd (nil-cons x (xs ++ ys) none)

-- with a note more there are no fewer operations
pub fewer : (note : JournalNote) (notes : List JournalNote) (b : Bool) → operations_in (if b then note ∷ notes else notes) ≡ [] → operations_in notes ≡ []
fewer (Wrote write) notes true none = absurd (nil-cons write.op (operations_in notes) none)
fewer (Opened opening) notes true none = none
fewer (Closed end) notes true none = none
fewer note notes false none = none

none_written : (ports : ℕ) (more : Journal) → All (λ e. (1 ≤ e.1) × (e.1 ≤ ports)) more
    → ((k : ℕ) → 1 ≤ k → k ≤ ports → operations_in (notes_of k more) ≡ []) → writes_in more ≡ []
none_written ports [] by none = refl
none_written ports (e ∷ more) by none =
    with_note
    (none_written ports more (λ k d low. by (suc k) d (omega (arith, low)))
    (λ k some low. fewer e.0 (notes_of k more) (e.1 == k) (none k some low))) e.0 refl
  where
    here : (1 ≤ e.1) × (e.1 ≤ ports)
    here = by 0 e (omega arith)

    own : operations_in (e.0 ∷ notes_of e.1 more) ≡ []
    own =
        sym (ap (λ b. operations_in (if b then e.0 ∷ notes_of e.1 more else notes_of e.1 more)) (is_itself e.1))
        ∙ none e.1 here.0 here.1

    with_note : writes_in more ≡ [] → (note : JournalNote) → e.0 ≡ note → write_in note ++ writes_in more ≡ []
    with_note rest (Wrote write) is =
        absurd (nil-cons write.op (operations_in (notes_of e.1 more)) (ap (λ note. operations_in (note ∷ notes_of e.1 more)) (sym is) ∙ own))
    with_note rest (Opened opening) is = rest
    with_note rest (Closed end) is = rest

-- the first ports have no further entries, and the others no operations
pub no_more_writes : (writers ports : ℕ) (low more : Journal) → All (λ e. (1 ≤ e.1) × (e.1 ≤ ports)) more
    → ((k : ℕ) → 1 ≤ k → k ≤ writers → notes_of k (low ++ more) ≡ notes_of k low)
    → ((k : ℕ) → writers < k → k ≤ ports → operations_in (notes_of k (low ++ more)) ≡ []) → writes_in more ≡ []
no_more_writes writers ports low more by same none = none_written ports more by (λ k some high. choose k some high (leb k writers) refl)
  where
    low_none : (k : ℕ) → 1 ≤ k → k ≤ writers → operations_in (notes_of k more) ≡ []
    low_none k some is = ap operations_in (second_none (notes_of k low) (notes_of k more) (sym (notes-append k low more) ∙ same k some is))

    high_none : (k : ℕ) → writers < k → k ≤ ports → operations_in (notes_of k more) ≡ []
    high_none k is high =
        both_none (operations_in (notes_of k low)) (operations_in (notes_of k more))
        (sym (ap operations_in (notes-append k low more) ∙ operations-append (notes_of k low) (notes_of k more)) ∙ none k is high)

    choose : (k : ℕ) → 1 ≤ k → k ≤ ports → (b : Bool) → leb k writers ≡ b → operations_in (notes_of k more) ≡ []
    choose k some high true is = low_none k some (leb-true k writers is)
    choose k some high false is = high_none k (leb-false k writers is) high

-- no port has a further entry
pub no_more_entries : (ports : ℕ) (low more : Journal) → All (λ e. (1 ≤ e.1) × (e.1 ≤ ports)) more
    → ((k : ℕ) → 1 ≤ k → k ≤ ports → notes_of k (low ++ more) ≡ notes_of k low) → more ≡ []
no_more_entries ports low more by same =
    none_noted more by (λ k some high. second_none (notes_of k low) (notes_of k more) (sym (notes-append k low more) ∙ same k some high))
  where
    none_noted : (extra : Journal) → All (λ e. (1 ≤ e.1) × (e.1 ≤ ports)) extra → ((k : ℕ) → 1 ≤ k → k ≤ ports → notes_of k extra ≡ []) → extra ≡ []
    none_noted [] whose none = refl
    none_noted (e ∷ extra) whose none =
        let here : (1 ≤ e.1) × (e.1 ≤ ports) = whose 0 e (omega arith) in
        absurd
        (nil-cons e.0 (notes_of e.1 extra)
        (sym (ap (λ b. if b then e.0 ∷ notes_of e.1 extra else notes_of e.1 extra) (is_itself e.1)) ∙ none e.1 here.0 here.1))
