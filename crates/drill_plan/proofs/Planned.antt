-- Each operation of a writer is on entries of its part.
use Rattle.std.proofs.Common.{◌≡◌, ℕ, zero, suc, ◌<◌, ◌==◌, Bool, true, false, not, nat_lt, ◌∷◌, refl, sym, ◌∙◌, subst, arith}
use Rattle.std.proofs.lemmas.Bool.{or_left, or_right, lt-ltb}
use Rattle.dn_names.specs.Names.{same_name, parent_of}
use Rattle.dn_names.proofs.EqualNames.{AreEqual, AreEqual-same_name, same_name-AreEqual, AreEqual-drop, rdn_same, name_refl}
use Rattle.sync_model.proofs.Gather.{Each}
use Rattle.drill_plan.specs.declared.plan.DrillPlan.{DrillPlan}
use Rattle.drill_plan.specs.Names.{suffix, unit_rdn, unit_name, entry_name}
use Rattle.drill_plan.specs.Numbers.{slot_of, kind_of}
use Rattle.drill_plan.specs.Operations.{WriterState, drawn, first_state, is_present, taken_up, change, operation, after_operation, operations, writer_operations}
use Rattle.drill_plan.proofs.Plainly.{Name}
use Rattle.drill_plan.proofs.Regions.{IsWithin}
use Rattle.drill_plan.proofs.Steps.{same_writer}
use Rattle.drill_plan.proofs.Units.{is_unit, own, own_from, own_region}

module _ (writer : ℕ) (small : writer < 8) where
  few : nat_lt writer 8 ≡ true
  few = lt-ltb writer 8 small

  unit_is : (renamed : Bool) → is_unit writer (unit_name writer renamed) ≡ true
  unit_is false =
      or_left (same_name (unit_name writer false) (unit_name writer false)) (same_name (unit_name writer false) (unit_name writer true))
      (name_refl (unit_name writer false))
  unit_is true =
      or_right (same_name (unit_name writer true) (unit_name writer false)) (same_name (unit_name writer true) (unit_name writer true))
      (name_refl (unit_name writer true))

  -- the unit of a writer is in its part, under either name
  pub own_unit : (renamed : Bool) → own writer (unit_name writer renamed) ≡ true
  own_unit renamed = own_from writer (unit_name writer renamed) (record { few = few; long = omega arith; unit = unit_is renamed })

  own_entry : (renamed : Bool) (slot : ℕ) → own writer (entry_name writer renamed slot) ≡ true
  own_entry renamed slot = own_from writer (entry_name writer renamed slot) (record { few = few; long = omega arith; unit = unit_is renamed })

  -- a unit that gets another name stays with its writer
  own_renamed : (renamed also : Bool) (top : Name) → same_name top (unit_name writer renamed) ≡ true
      → own writer (unit_rdn writer also ∷ parent_of top) ≡ true
  own_renamed renamed also top same =
      let above : AreEqual (parent_of top) suffix =
      AreEqual-drop 1 top (unit_name writer renamed) (AreEqual-same_name top (unit_name writer renamed) same) in
      (own_region writer).same (unit_rdn writer also ∷ parent_of top) (unit_name writer also)
      (same_name-AreEqual (unit_rdn writer also ∷ parent_of top) (unit_name writer also) (rdn_same (unit_rdn writer also), above))
      (own_unit also)

  change_within : (w : WriterState) (kind : ℕ) → w.writer ≡ writer → IsWithin (own writer) (change w kind)
  change_within w kind is =
      let entry : own writer (taken_up w) ≡ true = subst (λ v. own writer (entry_name v w.renamed (slot_of w.number)) ≡ true) (sym is)
      (own_entry w.renamed (slot_of w.number)) in
      let unit : own writer (unit_name w.writer w.renamed) ≡ true = subst (λ v. own writer (unit_name v w.renamed) ≡ true) (sym is) (own_unit w.renamed) in
      let moves : (top : Name) → same_name top (unit_name w.writer w.renamed) ≡ true → own writer (unit_rdn w.writer (not w.renamed) ∷ parent_of top) ≡ true =
      λ top same.
      subst (λ v. own writer (unit_rdn v (not w.renamed) ∷ parent_of top) ≡ true) (sym is)
      (own_renamed w.renamed (not w.renamed) top (subst (λ v. same_name top (unit_name v w.renamed) ≡ true) is same)) in
      by_kind w kind entry unit moves
    where
      by_kind : (w : WriterState) (kind : ℕ) → own writer (taken_up w) ≡ true → own writer (unit_name w.writer w.renamed) ≡ true
          → ((top : Name) → same_name top (unit_name w.writer w.renamed) ≡ true → own writer (unit_rdn w.writer (not w.renamed) ∷ parent_of top) ≡ true)
          → IsWithin (own writer) (change w kind)
      by_kind w kind entry unit moves = by (kind == 0) (kind == 1) (kind == 2) refl refl refl
        where
          by : (a b c : Bool) → (kind == 0) ≡ a → (kind == 1) ≡ b → (kind == 2) ≡ c → IsWithin (own writer) (change w kind)
          by true b c is_a is_b is_c = rw is_a entry
          by false true c is_a is_b is_c = rw (is_a, is_b) entry
          by false false true is_a is_b is_c = rw (is_a, is_b, is_c) (unit, moves)
          by false false false is_a is_b is_c = rw (is_a, is_b, is_c) entry

  operation_within : (w : WriterState) → w.writer ≡ writer → IsWithin (own writer) (operation w)
  operation_within w is = by (is_present w) refl
    where
      by : (b : Bool) → is_present w ≡ b → IsWithin (own writer) (operation w)
      by true there = rw there (change_within w (kind_of w.number) is)
      by false none =
          rw none (subst (λ v. own writer (entry_name v w.renamed (slot_of w.number)) ≡ true) (sym is) (own_entry w.renamed (slot_of w.number)))

  operations_within : (n : ℕ) (w : WriterState) → w.writer ≡ writer → Each (IsWithin (own writer)) (operations n w)
  operations_within zero w is = tt
  operations_within (suc n) w is = (
    operation_within (drawn w) is,
    operations_within n (after_operation (drawn w)) (same_writer (drawn w) ∙ is),
  )

  -- each operation of a writer is within its part
  pub writer_within : (plan : DrillPlan) → Each (IsWithin (own writer)) (writer_operations plan writer)
  writer_within plan = (own_unit false, operations_within plan.size (first_state plan.seed writer) refl)
