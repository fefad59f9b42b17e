use Rattle.std.proofs.Common.{Some, ap}
use Rattle.ldap_search.specs.declared.end.SearchEnd.{SearchEnd}
use Rattle.sync_io.proofs.Results.{holds_anyway}
use Rattle.ldap_search.proofs.answering.end_by.Goals as goal

pub returns-clause-ends : goal.returns-clause-ends
returns-clause-ends c = (c.in_ok-end.ensures.ends.0, ap (λ (e : SearchEnd). Some e) c.in_ok-end.ensures.ends.1)

pub returns-in_err-end-clause-memory : goal.returns-in_err-end-clause-memory
returns-in_err-end-clause-memory c = holds_anyway c.from_residual.result c.in_err-end.ensures.memory
