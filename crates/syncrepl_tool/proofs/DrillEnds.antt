-- How a drill ends.
use Rattle.std.proofs.Common.{◌≡◌, ℕ, List, [], ◌∷◌, Option, Ok, Err, append-nil, inl, inr, refl, sym, subst}
use Rattle.std.proofs.KnownBytes.{Appends-kept}
use Rattle.std.specs.Io.KnownBytes.{Appends, Keeps}
use Rattle.std.specs.declared.alloc.Global.{Global}
use Rattle.std.specs.declared.string.String.{String}
use Rattle.drill_plan.specs.Summary.{summary_of}
use Rattle.drill_plan.specs.declared.plan.DrillPlan.{DrillPlan}
use Rattle.sync_drill.specs.Drilled.{IsPlan}
use Rattle.sync_io.specs.Faults.{CountHasRisen}
use Rattle.sync_io.specs.Sink.{AppendsPrefix}
use Rattle.syncrepl_tool.specs.DrillWords.{DrillSide, EndsDrill, IsDrill, IsDrillStatus, MayPrint}
use Rattle.syncrepl_tool.specs.declared.run.Status.{Status}

-- ---- the plan

-- the plan of words is within its ranges
pub within_ranges : (words : List (String Global)) (plan : DrillPlan) → IsDrill words plan → IsPlan plan
within_ranges [] plan drill = absurd drill
within_ranges (v ∷ []) plan drill = absurd drill
within_ranges (v ∷ w ∷ []) plan drill = absurd drill
within_ranges (v ∷ w ∷ x ∷ []) plan drill = absurd drill
within_ranges (v ∷ w ∷ x ∷ y ∷ []) plan drill = absurd drill
within_ranges (v ∷ w ∷ x ∷ y ∷ z ∷ []) plan drill =
    let parts = drill.1 in
    record {
      writers = (parts.1.0, parts.1.1);
      consumers = (parts.2.0, parts.2.1);
      size = (parts.3.0, parts.3.1);
    }
within_ranges (v ∷ w ∷ x ∷ y ∷ z ∷ more ∷ words) plan drill = absurd drill

-- ---- what was printed

-- a text that was written, and then was not passed on
pub written_prefix : (text : List ℕ) (old written new : Option (List ℕ)) → Appends old written text → Keeps written new → AppendsPrefix old new text
written_prefix text old written new whole kept = (text, [], sym (append-nil text), Appends-kept old written new text whole kept)

module _ (text : List ℕ) (before after : DrillSide) (status : Status) where
  -- each status is one of a drill
  pub print_status : MayPrint text before after status → IsDrillStatus status.code
  print_status (inl done) = inl done.0
  print_status (inr failed) = inr failed.0

  -- where the output did not fail all was printed
  pub printed_all : MayPrint text before after status → (CountHasRisen before.print_faults after.print_faults → ⊥) → status.code ≡ 0
  printed_all (inl done) sound = done.0
  printed_all (inr failed) sound = absurd (sound failed.1.write_fault)

-- the lines of the plan were printed, or the output failed
pub drill_ends : {E : Type 0} (plan : DrillPlan) (text : List ℕ) (before after : DrillSide) (status : Status) → text ≡ summary_of plan → MayPrint text before after status
    → EndsDrill {E = E} plan before after (Ok status)
drill_ends plan text before after status is may = record {
  with_status = subst (λ (t : List ℕ). MayPrint t before after status) is may;
  complete = printed_all text before after status may;
  without_memory = tt;
}

-- memory ran out before anything was printed
pub drill_runs_out : {E : Type 0} (plan : DrillPlan) (side : DrillSide) (none : E) → EndsDrill plan side side (Err none)
drill_runs_out plan side none = record { with_status = tt; complete = tt; without_memory = refl }
