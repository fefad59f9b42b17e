use Rattle.std.proofs.Common.{refl, sym, ◌∙◌}
use Rattle.std.proofs.lemmas.Result.{IfOk-weaker}
use Rattle.sync_provider.specs.Journal.{port_state}
use Rattle.ldif_text.specs.declared.fault.LdifFault.TheVariants as ldif
use Rattle.directory_setup.proofs.Fillings.{step_add, step_other, step_refused}
use Rattle.directory_setup.proofs.filling.add_next.Goals as goal

pub returns-then-not-is_add-clause-steps : goal.returns-then-not-is_add-clause-steps
returns-then-not-is_add-clause-steps g c =
    step_other c.args.records.now (port_state c.args.provider.now) c.in-Ok-Some.change c.next.new.self c.line-line.result c.refused.result
    (rw c.in-Ok-Some.field-0-is at c.in-Ok-Some.ensures.given) (sym c.is_add.ensures ∙ c.if-not-is_add.true) c.line-line.ensures c.refused.ensures

pub returns-else-not-is_add-clause-steps : goal.returns-else-not-is_add-clause-steps
returns-else-not-is_add-clause-steps g c =
    IfOk-weaker c.add.result _ _
    (λ taken adds. step_add c.args.records.now (port_state c.args.provider.now) c.in-Ok-Some.change c.next.new.self c.line-line.result taken _
    (rw c.in-Ok-Some.field-0-is at c.in-Ok-Some.ensures.given) (rw c.in-Ok-Some.field-0-is at c.in-Ok-Some.ensures.shorter)
    (sym c.is_add.ensures ∙ c.if-not-is_add.false) c.line-line.ensures adds)
    c.add.ensures.adds

-- no record is left
pub returns-in-Ok-None-clause-steps : goal.returns-in-Ok-None-clause-steps
returns-in-Ok-None-clause-steps g c = (refl, rw c.in-Ok-None.field-0-is at c.in-Ok-None.ensures.end)

-- the record's text is refused

pub returns-in-Err-BadLine-clause-steps : goal.returns-in-Err-BadLine-clause-steps
returns-in-Err-BadLine-clause-steps g c =
    step_refused c.args.records.now c.next.new.self (port_state c.args.provider.now) (ldif.BadLine c.in-Err-BadLine.line) c.refused-in-Err-BadLine.result
    (rw c.in-Err-BadLine.field-0-is at c.in-Err-BadLine.ensures.refused) (rw c.in-Err-BadLine.field-0-is at c.refused-in-Err-BadLine.ensures)

pub returns-in-Err-BadBase64-clause-steps : goal.returns-in-Err-BadBase64-clause-steps
returns-in-Err-BadBase64-clause-steps g c =
    step_refused c.args.records.now c.next.new.self (port_state c.args.provider.now) (ldif.BadBase64 c.in-Err-BadBase64.line) c.refused-in-Err-BadBase64.result
    (rw c.in-Err-BadBase64.field-0-is at c.in-Err-BadBase64.ensures.refused) (rw c.in-Err-BadBase64.field-0-is at c.refused-in-Err-BadBase64.ensures)

pub returns-in-Err-BadChange-clause-steps : goal.returns-in-Err-BadChange-clause-steps
returns-in-Err-BadChange-clause-steps g c =
    step_refused c.args.records.now c.next.new.self (port_state c.args.provider.now) (ldif.BadChange c.in-Err-BadChange.line) c.refused-in-Err-BadChange.result
    (rw c.in-Err-BadChange.field-0-is at c.in-Err-BadChange.ensures.refused) (rw c.in-Err-BadChange.field-0-is at c.refused-in-Err-BadChange.ensures)
