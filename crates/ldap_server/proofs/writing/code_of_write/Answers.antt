use Rattle.ldap_server.specs.PortCalls.{Wrote}
use Rattle.ldap_server.proofs.Asking.{change_denied, change_other, change_refused, change_wrote, finds_one, finds_unasked}
use Rattle.ldap_server.proofs.writing.code_of_write.Goals as goal

pub returns-then-not-allowed-clause-finds : goal.returns-then-not-allowed-clause-finds
returns-then-not-allowed-clause-finds g c = finds_unasked _ _ _ (change_denied c.args.allowed c.args.change.now c.args.now c.if-not-allowed.true)

pub returns-in-Ok-clause-finds : goal.returns-in-Ok-clause-finds
returns-in-Ok-clause-finds g c =
    finds_one _ (Wrote c.in-Ok.op c.args.now c.write.result) _ _ _ c.write.ensures.replies
    (change_wrote c.args.allowed c.args.change.now c.args.now c.in-Ok.op c.write.result c.if-not-allowed.false c.in-Ok.ensures.ok)

pub returns-in-Err-Code-clause-finds : goal.returns-in-Err-Code-clause-finds
returns-in-Err-Code-clause-finds g c =
    finds_unasked _ _ _ (change_refused c.args.allowed c.args.change.now c.args.now c.in-Err-Code.code c.if-not-allowed.false (rw c.in-Err-Code.field-0-is at c.in-Err-Code.ensures.fault))

pub returns-in-Err-NoMemory-clause-finds : goal.returns-in-Err-NoMemory-clause-finds
returns-in-Err-NoMemory-clause-finds g c = finds_unasked _ _ _ (change_other c.args.allowed c.args.change.now c.args.now c.if-not-allowed.false)
