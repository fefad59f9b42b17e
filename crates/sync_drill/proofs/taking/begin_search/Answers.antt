use Rattle.std.proofs.Common.{ap, sym, ◌∙◌}
use Rattle.sync_consumer.specs.Taking.{ConsumerState}
use Rattle.sync_drill.proofs.TakingSteps.{asks_anew, goes_on_with}
use Rattle.sync_drill.proofs.taking.begin_search.Goals as goal

pub returns-then-has_session-clause-ok : goal.returns-then-has_session-clause-ok
returns-then-has_session-clause-ok c =
    goes_on_with c.args.copy.now.copy (sym c.has_session.ensures ∙ c.if-has_session.true)

pub returns-clause-ok : goal.returns-clause-ok
returns-clause-ok c =
    ap (λ (consumer : ConsumerState). consumer.copy) c.in_ok-request.ensures.ok
    ∙ asks_anew c.args.copy.now.copy (sym c.has_session.ensures ∙ c.if-has_session.false)
