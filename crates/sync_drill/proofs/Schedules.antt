-- The writes of a journal whose entries are of the writers' ports are a schedule of the plan.
use Rattle.std.proofs.Common.{◌≡◌, ◌≢◌, ℕ, zero, suc, pred, ◌<◌, ◌≤◌, ◌==◌, leb, Bool, true, false, not, if◌then◌else◌, List, [], ◌∷◌, ◌++◌, Option, Some, None, refl, sym, ap, ◌∙◌, subst, arith, eqb-true}
use Rattle.std.specs.List.{All}
use Rattle.std.specs.Option.{option_or}
use Rattle.std.proofs.lemmas.Bool.{or_right, eq-eqb, ne_eqb, eqb-false, leb-false, leb-true}
use Rattle.ldap_constants.specs.declared.result_codes.TheConstants.{NO_SUCH_OBJECT, ENTRY_ALREADY_EXISTS}
use Rattle.schema_rules.specs.Attributes.{entry_code, weight_of}
use Rattle.dn_names.specs.Names.{is_at_or_below}
use Rattle.entry_tree.specs.Codes.{code_of, naming_code, limit_code}
use Rattle.entry_tree.specs.State.{has_name}
use Rattle.entry_tree.specs.declared.op.Op.{Op}
use Rattle.entry_tree.specs.declared.op.Write.{Write}
use Rattle.sync_model.proofs.Groups.{heads, tails}
use Rattle.directory_writes.specs.Directory.{AreAccepted}
use Rattle.sync_provider.specs.Ports.{Journal, write_in, writes_in}
use Rattle.sync_provider.specs.declared.journal_note.JournalNote.{JournalNote}
use Rattle.sync_provider.specs.declared.journal_note.JournalNote.TheVariants.{Wrote, Opened, Closed}
use Rattle.drill_plan.specs.declared.plan.DrillPlan.{DrillPlan}
use Rattle.drill_plan.specs.Ending.{history, AreOf, IsSchedule}
use Rattle.drill_plan.specs.Names.{suffix, unit_name, unit_attributes}
use Rattle.drill_plan.specs.Operations.{add_suffix, add_unit, operations, first_state, writer_operations}
use Rattle.drill_plan.specs.Schedule.{NumberedWrites, writes_of, operations_by}
use Rattle.sync_drill.specs.Journals.{notes_of, operations_in}
use Rattle.sync_drill.specs.Drilled.{done_by}
use Rattle.sync_drill.proofs.Lists.{nil-cons}
use Rattle.sync_drill.proofs.NoMore.{fewer}
use Rattle.sync_drill.proofs.Notes.{is_another, is_itself}

-- ---- the writes of a journal by the places of their writers

abbrev tagged : ℕ → JournalNote → NumberedWrites
tagged by (Wrote write) = (pred by, write) ∷ []
tagged by (Opened opening) = []
tagged by (Closed end) = []

abbrev pub numbered : Journal → NumberedWrites
numbered [] = []
numbered (e ∷ journal) = tagged e.1 e.0 ++ numbered journal

-- no write is lost by the numbers of the writers
pub same_writes : (journal : Journal) → writes_of (numbered journal) ≡ writes_in journal
same_writes [] = refl
same_writes (e ∷ journal) = with_note (same_writes journal) e.0
  where
    with_note : writes_of (numbered journal) ≡ writes_in journal → (note : JournalNote)
        → writes_of (tagged e.1 note ++ numbered journal) ≡ write_in note ++ writes_in journal
    with_note rest (Wrote write) = ap (λ ws. write ∷ ws) rest
    with_note rest (Opened opening) = rest
    with_note rest (Closed end) = rest

same_test : (n writer : ℕ) → 1 ≤ n → (pred n == writer) ≡ (n == suc writer)
same_test zero writer some = absurd (omega (arith, some))
same_test (suc n) writer some = by (n == writer) refl
  where
    by : (b : Bool) → (n == writer) ≡ b → (n == writer) ≡ (suc n == suc writer)
    by true is = is ∙ sym (eq-eqb (suc n) (suc writer) (ap suc (eqb-true n writer is)))
    by false is = is ∙ sym (ne_eqb (suc n) (suc writer) (λ same. eqb-false n writer is (omega (arith, same))))

-- the operations of a writer are those of the port with the number above its own
pub same_operations : (writer : ℕ) (journal : Journal) → All (λ e. 1 ≤ e.1) journal
    → operations_by writer (numbered journal) ≡ operations_in (notes_of (suc writer) journal)
same_operations writer [] by = refl
same_operations writer (e ∷ journal) by =
    with_note (same_operations writer journal (λ k d low. by (suc k) d (omega (arith, low)))) e.0
  where
    ops : List Op
    ops = operations_by writer (numbered journal)

    notes : List JournalNote
    notes = notes_of (suc writer) journal

    chosen : ops ≡ operations_in notes → (write : Write) (b : Bool)
        → (if b then write.op ∷ ops else ops) ≡ operations_in (if b then Wrote write ∷ notes else notes)
    chosen rest write true = ap (λ os. write.op ∷ os) rest
    chosen rest write false = rest

    passed : ops ≡ operations_in notes → (note : JournalNote) → operations_in (note ∷ notes) ≡ operations_in notes → (b : Bool)
        → ops ≡ operations_in (if b then note ∷ notes else notes)
    passed rest note none true = rest ∙ sym none
    passed rest note none false = rest

    with_note : ops ≡ operations_in notes → (note : JournalNote) → operations_by writer (tagged e.1 note ++ numbered journal)
        ≡ operations_in (if e.1 == suc writer then note ∷ notes else notes)
    with_note rest (Wrote write) =
        ap (λ b. if b then write.op ∷ ops else ops) (same_test e.1 writer (by 0 e (omega arith)))
        ∙ chosen rest write (e.1 == suc writer)
    with_note rest (Opened opening) = passed rest (Opened opening) refl (e.1 == suc writer)
    with_note rest (Closed end) = passed rest (Closed end) refl (e.1 == suc writer)

low_place : (number writers : ℕ) → 1 ≤ number → number ≤ writers → pred number < writers
low_place zero writers some low = absurd (omega (arith, some))
low_place (suc number) writers some low = omega (arith, low)

-- where the ports after the writers' write nothing, each write is of one of the writers
pub are_of : (writers ports : ℕ) (journal : Journal) → All (λ e. (1 ≤ e.1) × (e.1 ≤ ports)) journal
    → ((k : ℕ) → writers < k → k ≤ ports → operations_in (notes_of k journal) ≡ []) → AreOf writers (numbered journal)
are_of writers ports [] by silent = tt
are_of writers ports (e ∷ journal) by silent =
    with_note
    (are_of writers ports journal (λ k d low. by (suc k) d (omega (arith, low)))
    (λ k low high. fewer e.0 (notes_of k journal) (e.1 == k) (silent k low high))) e.0 refl
  where
    here : (1 ≤ e.1) × (e.1 ≤ ports)
    here = by 0 e (omega arith)

    -- its number is low, as it wrote
    low_number : (write : Write) → e.0 ≡ Wrote write → (b : Bool) → leb e.1 writers ≡ b → e.1 ≤ writers
    low_number write is true low = leb-true e.1 writers low
    low_number write is false high =
        absurd
        (nil-cons write.op (operations_in (notes_of e.1 journal))
        (ap (λ note. operations_in (note ∷ notes_of e.1 journal)) (sym is)
        ∙ sym (ap (λ b. operations_in (if b then e.0 ∷ notes_of e.1 journal else notes_of e.1 journal)) (is_itself e.1))
        ∙ silent e.1 (leb-false e.1 writers high) here.1))

    with_note : AreOf writers (numbered journal) → (note : JournalNote) → e.0 ≡ note → AreOf writers (tagged e.1 note ++ numbered journal)
    with_note rest (Wrote write) is = (low_place e.1 writers here.0 (low_number write is (leb e.1 writers) refl), rest)
    with_note rest (Opened opening) is = rest
    with_note rest (Closed end) is = rest

-- ---- the first write adds the suffix, since nothing else is accepted where no entry is

unit_refused : (writer : ℕ) → code_of suffix [] (add_unit writer) ≡ Some NO_SUCH_OBJECT
unit_refused writer =
    ap (λ b. option_or
    (if b then Some NO_SUCH_OBJECT else if has_name [] (unit_name writer false) then Some ENTRY_ALREADY_EXISTS else None)
    (option_or (entry_code (unit_attributes writer))
    (option_or (naming_code (unit_name writer false) (unit_attributes writer)) (limit_code [] (weight_of (unit_attributes writer))))))
    (or_right (not (is_at_or_below (unit_name writer false) suffix)) true refl)

module _ (plan : DrillPlan) (writes : List Write) (accepted : AreAccepted suffix history writes) where
  -- accepted writes are a schedule where each writer has its own among them, in order
  pub schedule_of : (ws : NumberedWrites) → writes ≡ writes_of ws → AreOf plan.writers ws → 1 ≤ plan.writers
      → ((writer : ℕ) → writer < plan.writers → operations_by writer ws ≡ done_by plan writer) → IsSchedule plan writes
  schedule_of [] is of some each = absurd (nil-cons add_suffix (writer_operations plan zero) (sym (each zero (omega (arith, some)))))
  schedule_of (w ∷ ws) is of some each = by_first w.0 refl
    where
      unopposed : code_of suffix [] w.1.op ≡ None
      unopposed = (subst (AreAccepted suffix history) is accepted).0.unopposed

      taken : (v : ℕ) → w.0 ≡ v → operations_by v (w ∷ ws) ≡ w.1.op ∷ operations_by v ws
      taken v same =
          ap (λ b. if b then w.1.op ∷ operations_by v ws else operations_by v ws) (ap (λ n. n == v) same ∙ is_itself v)

      passed : (v u : ℕ) → w.0 ≡ v → v ≢ u → operations_by u (w ∷ ws) ≡ operations_by u ws
      passed v u same far =
          ap (λ b. if b then w.1.op ∷ operations_by u ws else operations_by u ws) (ap (λ n. n == u) same ∙ is_another v u far)

      by_first : (v : ℕ) → w.0 ≡ v → IsSchedule plan writes
      by_first zero same = record {
        first = w.1;
        numbered = ws;
        is = is;
        suffix_first = heads w.1.op add_suffix (operations_by zero ws) (writer_operations plan zero) own;
        writers = of.1;
        each = others;
      }
        where
          own : w.1.op ∷ operations_by zero ws ≡ add_suffix ∷ writer_operations plan zero
          own = sym (taken zero same) ∙ each zero (omega (arith, some))

          others : (writer : ℕ) → writer < plan.writers → operations_by writer ws ≡ writer_operations plan writer
          others zero low = tails w.1.op add_suffix (operations_by zero ws) (writer_operations plan zero) own
          others (suc u) low = sym (passed zero (suc u) same (λ same_number. omega (arith, same_number))) ∙ each (suc u) low
      by_first (suc u) same = absurd (no_code (sym (unit_refused (suc u)) ∙ ap (code_of suffix []) (sym its_unit) ∙ unopposed))
        where
          its_unit : w.1.op ≡ add_unit (suc u)
          its_unit =
              heads w.1.op (add_unit (suc u)) (operations_by (suc u) ws) (operations plan.size (first_state plan.seed (suc u)))
              (sym (taken (suc u) same) ∙ each (suc u) (subst (λ n. n < plan.writers) same of.0))

          no_code : ◌≡◌ {A = Option ℕ} (Some NO_SUCH_OBJECT) None → ⊥
          no_code e = cc
