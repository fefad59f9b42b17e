use Rattle.std.proofs.Common.{[], ◌∷◌, ◌∙◌, ap, refl, rules, w64, SFits}
use Rattle.std.proofs.lemmas.Int.{to_z-of_z}
use Rattle.cascade_report.specs.ReportLines.ReportLine.{Ended}
use Rattle.cascade_report.specs.Report.{said}
use Rattle.cascade_exchange.specs.Exchange.{closed, emptied}
use Rattle.cascade_exchange.proofs.Reception.{receives_copied, receives_stored, receives_over, receives_fault}
use Rattle.cascade_exchange.proofs.receiving.hand_to_consumer.Goals as goal

pub returns-in-Copied-clause-does : goal.returns-in-Copied-clause-does
returns-in-Copied-clause-does c =
    receives_copied c.args.out.now.lineage c.args.provider.now c.args.consumer_node.now c.take.new.self c.args.message.now _ _ _ c.in-Copied.ensures.spec c.in-Copied.ensures.reload c.in-Copied.ensures.exact
    (rw c.as_slice-in-Copied.ensures at c.in_ok-taken-in-Copied.ensures.line)

pub returns-in-Stored-clause-does : goal.returns-in-Stored-clause-does
returns-in-Stored-clause-does c =
    rw c.in_ok-report_stored-in-Stored.ensures.same
    (receives_stored c.args.out.now.lineage c.args.provider.now c.args.consumer_node.now c.take.new.self c.args.message.now _ _ _ c.in-Stored.ensures.spec c.in-Stored.ensures.reload c.in-Stored.ensures.exact
    c.in_ok-report_stored-in-Stored.ensures.line)

pub returns-in-Over-clause-does : goal.returns-in-Over-clause-does
returns-in-Over-clause-does c =
    let fits : SFits w64 c.in-Over.code = search rules in
    let line = rw c.as_slice-in-Over.ensures at c.in_ok-ended-in-Over.ensures.line in
    receives_over c.args.out.now.lineage c.args.provider.now c.args.consumer_node.now c.take.new.self c.args.message.now _ _ _ c.in-Over.ensures.spec c.in-Over.ensures.reload c.in-Over.ensures.exact
    (line ∙ ap (λ code. said c.args.out.now (Ended c.args.consumer_node.now.name code ∷ [])) (to_z-of_z w64 c.in-Over.code fits))

pub returns-in-Fault-clause-does : goal.returns-in-Fault-clause-does
returns-in-Fault-clause-does c =
    let after = record c.args.consumer_node.now { consumer = c.take.new.self } in
    receives_fault c.args.out.now.lineage c.args.provider.now (closed c.args.provider.now after.search) c.args.consumer_node.now (emptied after after.consumer.copy) c.take.new.self c.args.message.now _ _ _ c.in-Fault.ensures.spec c.in-Fault.ensures.reload c.in-Fault.ensures.exact
    refl (rw (c.as_slice-in-Fault.ensures, c.fault_name.ensures) at c.in_ok-faulted-in-Fault.ensures.line)
