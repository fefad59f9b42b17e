use Rattle.std.proofs.Common.{inr}
use Rattle.std.proofs.lemmas.Result.{on_err_weaker}
use Rattle.ldap_search.proofs.following.end_of.Goals as goal

-- where memory ran out at the line of a cookie that was stored
pub returns-in-Stored-clause-in_part : goal.returns-in-Stored-clause-in_part
returns-in-Stored-clause-in_part g c = on_err_weaker c.print_stored.result (λ stops. inr (_, c.in-Stored.is, stops)) c.print_stored.ensures.in_part
