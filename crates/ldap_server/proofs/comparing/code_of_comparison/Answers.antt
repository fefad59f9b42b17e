use Rattle.ldap_server.specs.PortCalls.{Compared}
use Rattle.ldap_server.proofs.Asking.{finds_one, finds_unasked, compare_named, compare_refused}
use Rattle.ldap_server.proofs.comparing.code_of_comparison.Goals as goal

pub returns-in-Ok-clause-finds : goal.returns-in-Ok-clause-finds
returns-in-Ok-clause-finds g c =
    let asked = c.args.asked.now in
    let replied = rw (c.as_slice.ensures, c.as_slice-in-Ok.ensures) at c.compare.ensures.replies in
    finds_one _ (Compared c.in-Ok.dn asked.name asked.value c.compare.result) _ _ _ replied
    (compare_named asked.entry asked.name asked.value c.in-Ok.dn c.compare.result c.in-Ok.ensures.ok)

pub returns-in-Err-clause-finds : goal.returns-in-Err-clause-finds
returns-in-Err-clause-finds g c =
    let asked = c.args.asked.now in
    finds_unasked _ _ _ (compare_refused asked.entry asked.name asked.value c.in-Err.code c.in-Err.ensures.err)
