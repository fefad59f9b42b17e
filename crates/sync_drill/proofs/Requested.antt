-- What a drill writes is asked for by clients: none of it is a commit. So its writes were accepted
-- from clients, and they are few.
use Rattle.std.proofs.Common.{◌≡◌, ◌≤◌, ◌<◌, ◌==◌, ℕ, zero, suc, Bool, true, false, if◌then◌else◌, List, [], ◌∷◌, length, refl, sym, ap, subst, arith}
use Rattle.std.specs.List.{All}
use Rattle.std.proofs.lemmas.List.Elements.{All-cons, All-head, All-nil, All-tail}
use Rattle.entry_tree.specs.Sound.{is_commit}
use Rattle.entry_tree.specs.declared.op.Op.{Op}
use Rattle.entry_tree.specs.declared.op.Write.{Write}
use Rattle.directory_writes.specs.Directory.{AreAccepted}
use Rattle.directory_writes.specs.Formed.{AreFormed}
use Rattle.directory_laws.specs.Accepted.{WereAccepted}
use Rattle.directory_laws.specs.Law.{most_identities}
use Rattle.directory_laws.proofs.Histories.{WereAccepted-kept}
use Rattle.drill_plan.specs.declared.plan.DrillPlan.{DrillPlan}
use Rattle.drill_plan.specs.Ending.{AreOf, IsInRange, IsSchedule, history}
use Rattle.drill_plan.specs.Names.{suffix}
use Rattle.drill_plan.specs.Numbers.{kind_of}
use Rattle.drill_plan.specs.Operations.{WriterState, add_unit, after_operation, change, drawn, first_state, is_present, operation, operations, writer_operations}
use Rattle.drill_plan.specs.Schedule.{NumberedWrites, operations_by, writes_of}
use Rattle.drill_plan.proofs.Counted.{as_many, few_operations}
use Rattle.sync_drill.proofs.Notes.{is_itself}

abbrev IsRequest : Op → Type 0
IsRequest op = is_commit op ≡ false

-- ---- the operations of a writer

either : (b : Bool) (one other : Op) → IsRequest one → IsRequest other → IsRequest (if b then one else other)
either true one other is also = is
either false one other is also = also

change_asked : (w : WriterState) (kind : ℕ) → IsRequest (change w kind)
change_asked w kind = either (kind == 0) _ _ refl (either (kind == 1) _ _ refl (either (kind == 2) _ _ refl refl))

operations_asked : (n : ℕ) (w : WriterState) → All IsRequest (operations n w)
operations_asked zero w = All-nil IsRequest
operations_asked (suc n) w =
    All-cons IsRequest (operation (drawn w)) (operations n (after_operation (drawn w))) (operation_asked (drawn w))
    (operations_asked n (after_operation (drawn w)))
  where
    operation_asked : (v : WriterState) → IsRequest (operation v)
    operation_asked v = either (is_present v) (change v (kind_of v.number)) _ (change_asked v (kind_of v.number)) refl

writer_asked : (plan : DrillPlan) (writer : ℕ) → All IsRequest (writer_operations plan writer)
writer_asked plan writer =
    All-cons IsRequest (add_unit writer) (operations plan.size (first_state plan.seed writer)) refl
    (operations_asked plan.size (first_state plan.seed writer))

-- ---- the writes of several writers

abbrev IsRequested : Write → Type 0
IsRequested write = IsRequest write.op

rest_asked : (w : ℕ × Write) (ws : NumberedWrites) (writer : ℕ) (b : Bool)
    → All IsRequest (if b then w.1.op ∷ operations_by writer ws else operations_by writer ws) → All IsRequest (operations_by writer ws)
rest_asked w ws writer true all = All-tail IsRequest w.1.op (operations_by writer ws) all
rest_asked w ws writer false all = all

each_asked : (writers : ℕ) (ws : NumberedWrites) → AreOf writers ws → ((writer : ℕ) → writer < writers → All IsRequest (operations_by writer ws))
    → All IsRequested (writes_of ws)
each_asked writers [] of all = All-nil IsRequested
each_asked writers (w ∷ ws) of all =
    All-cons IsRequested w.1 (writes_of ws)
    (All-head IsRequest w.1.op (operations_by w.0 ws)
    (subst (λ b. All IsRequest (if b then w.1.op ∷ operations_by w.0 ws else operations_by w.0 ws)) (is_itself w.0) (all w.0 of.0)))
    (each_asked writers ws of.1 (λ writer low. rest_asked w ws writer (w.0 == writer) (all writer low)))

schedule_asked : (plan : DrillPlan) (writes : List Write) → IsSchedule plan writes → All IsRequested writes
schedule_asked plan writes schedule =
    subst (All IsRequested) (sym schedule.is)
    (All-cons IsRequested schedule.first (writes_of schedule.numbered) (ap is_commit schedule.suffix_first)
    (each_asked plan.writers schedule.numbered schedule.writers
    (λ writer low. subst (All IsRequest) (sym (schedule.each writer low)) (writer_asked plan writer))))

-- ---- all of them

-- each was accepted from a client
pub schedule_accepted : (plan : DrillPlan) (writes : List Write) → IsSchedule plan writes → AreAccepted suffix history writes → AreFormed writes
    → WereAccepted suffix history writes
schedule_accepted plan writes schedule accepted formed = WereAccepted-kept suffix history writes accepted formed (schedule_asked plan writes schedule)

-- and they are few
pub schedule_few : (plan : DrillPlan) (writes : List Write) → IsInRange plan → IsSchedule plan writes → length writes ≤ most_identities
schedule_few plan writes range schedule = omega (arith, as_many plan writes schedule, few_operations plan range)
