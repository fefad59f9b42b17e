use Rattle.sync_drill.proofs.Writes.{none_opened, unwritten, write-goes, written}
use Rattle.sync_drill.proofs.writing.write_one.Goals as goal

pub returns-then-code-eq-SUCCESS-clause-goes_on : goal.returns-then-code-eq-SUCCESS-clause-goes_on
returns-then-code-eq-SUCCESS-clause-goes_on g c =
    write-goes c.args.op _ c.write-code.result (g.P.Port.state c.args.port.now) (g.P.Port.state c.write-code.new.self) c.write-code.ensures.replies

pub returns-then-code-eq-SUCCESS-clause-no_search : goal.returns-then-code-eq-SUCCESS-clause-no_search
returns-then-code-eq-SUCCESS-clause-no_search g c =
    none_opened c.args.op _ c.write-code.result (g.P.Port.state c.args.port.now) (g.P.Port.state c.write-code.new.self) c.write-code.ensures.replies

pub returns-then-code-eq-SUCCESS-clause-ok : goal.returns-then-code-eq-SUCCESS-clause-ok
returns-then-code-eq-SUCCESS-clause-ok g c =
    written c.args.op _ c.write-code.result (g.P.Port.state c.args.port.now) (g.P.Port.state c.write-code.new.self) c.write-code.ensures.replies
    c.if-code-eq-SUCCESS.true

pub returns-else-code-eq-SUCCESS-clause-goes_on : goal.returns-else-code-eq-SUCCESS-clause-goes_on
returns-else-code-eq-SUCCESS-clause-goes_on g c =
    write-goes c.args.op _ c.write-code.result (g.P.Port.state c.args.port.now) (g.P.Port.state c.write-code.new.self) c.write-code.ensures.replies

pub returns-else-code-eq-SUCCESS-clause-no_search : goal.returns-else-code-eq-SUCCESS-clause-no_search
returns-else-code-eq-SUCCESS-clause-no_search g c =
    none_opened c.args.op _ c.write-code.result (g.P.Port.state c.args.port.now) (g.P.Port.state c.write-code.new.self) c.write-code.ensures.replies

pub returns-else-code-eq-SUCCESS-clause-err : goal.returns-else-code-eq-SUCCESS-clause-err
returns-else-code-eq-SUCCESS-clause-err g c =
    unwritten c.args.op _ c.write-code.result (g.P.Port.state c.args.port.now) (g.P.Port.state c.write-code.new.self) c.write-code.ensures.replies
    c.if-code-eq-SUCCESS.false
