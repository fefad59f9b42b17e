use Rattle.cascade_exchange.proofs.Performing.{keeps_search, something_kept}
use Rattle.cascade_exchange.proofs.exchange.kept_search.Goals as goal

pub returns-in_default-clause-kept : goal.returns-in_default-clause-kept
returns-in_default-clause-kept c = rw c.nothing.ensures tt

pub returns-clause-kept : goal.returns-clause-kept
returns-clause-kept c =
    rw c.in_ok-of.ensures
    (keeps_search c.args.provider.now c.args.search c.in-Some.number c.in_ok-snapshot.snapshot c.in-Some.is c.in_ok-snapshot.ensures.value c.in_ok-snapshot.ensures.back c.in_ok-snapshot.ensures.ours)

pub returns-clause-needed : goal.returns-clause-needed
returns-clause-needed c = something_kept _ _ c.in_ok-of.ensures
