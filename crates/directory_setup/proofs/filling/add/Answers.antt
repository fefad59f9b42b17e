use Rattle.sync_provider.specs.Journal.{port_state}
use Rattle.directory_setup.proofs.Fillings.{rejected_add, unread_add}
use Rattle.directory_setup.proofs.filling.add.Goals as goal

-- the add can't be read
pub returns-in-Err-Code-clause-adds : goal.returns-in-Err-Code-clause-adds
returns-in-Err-Code-clause-adds c =
    unread_add c.args.change.now c.args.line c.in-Err-Code.code (port_state c.args.provider.now) c.refused.result
    (rw c.in-Err-Code.field-0-is at c.in-Err-Code.ensures.fault) c.refused.ensures

-- the entry was added
pub returns-then-code-eq-SUCCESS-clause-adds : goal.returns-then-code-eq-SUCCESS-clause-adds
returns-then-code-eq-SUCCESS-clause-adds c =
    (c.in-Ok.op, c.args.now, c.write-code.result, c.in-Ok.ensures.ok, c.write-code.ensures.journal, c.if-code-eq-SUCCESS.true)

-- memory ran out
pub returns-then-code-eq-OTHER-clause-err : goal.returns-then-code-eq-OTHER-clause-err
returns-then-code-eq-OTHER-clause-err c = c.write-code.ensures.journal.err c.if-code-eq-OTHER.true

-- its code rejects it
pub returns-clause-adds : goal.returns-clause-adds
returns-clause-adds c =
    rejected_add c.args.change.now c.args.line c.args.now (port_state c.args.provider.now) c.in-Ok.op c.write-code.result (port_state c.write-code.new.self) c.refused-2.result
    c.in-Ok.ensures.ok c.write-code.ensures.journal c.if-code-eq-SUCCESS.false c.if-code-eq-OTHER.false c.refused-2.ensures
