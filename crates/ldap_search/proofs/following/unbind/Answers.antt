use Rattle.ldap_search.proofs.Writing.{asks_same, unbind_fails, unbind_unwritten}
use Rattle.ldap_search.proofs.following.unbind.Goals as goal

pub returns-in-Ok-clause-unbinds : goal.returns-in-Ok-clause-unbinds
returns-in-Ok-clause-unbinds g c = asks_same _ _ _ _ _ c.unbind_request.ensures.request c.in-Ok.ensures

pub returns-in-Err-clause-unbinds : goal.returns-in-Err-clause-unbinds
returns-in-Err-clause-unbinds g c = unbind_fails c.in-Err.fault _ _ _ (asks_same _ _ _ _ _ c.unbind_request.ensures.request c.in-Err.ensures) c.end_by.ensures.ends

-- where memory ran out
pub returns-in-Err-clause-unwritten : goal.returns-in-Err-clause-unwritten
returns-in-Err-clause-unwritten g c =
    unbind_unwritten _ c.in-Err.fault c.end_by.result _ _ (asks_same _ _ _ _ _ c.unbind_request.ensures.request c.in-Err.ensures) c.end_by.ensures.memory
