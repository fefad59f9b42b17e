use Rattle.std.proofs.Common.{◌∙◌, sym}
use Rattle.cascade_exchange.proofs.exchange.consumer_before.Goals as goal

pub returns-then-not-is_stepwise-clause-same : goal.returns-then-not-is_stepwise-clause-same
returns-then-not-is_stepwise-clause-same c = rw c.nothing.ensures tt

pub returns-then-not-is_stepwise-clause-steps : goal.returns-then-not-is_stepwise-clause-steps
returns-then-not-is_stepwise-clause-steps c = rw c.nothing.ensures (sym c.if-not-is_stepwise.true ∙ c.is_stepwise.ensures)

pub returns-clause-same : goal.returns-clause-same
returns-clause-same c = rw c.in_ok-of.ensures c.in_ok-before.ensures

pub returns-clause-steps : goal.returns-clause-steps
returns-clause-steps c = rw c.in_ok-of.ensures (sym c.if-not-is_stepwise.false ∙ c.is_stepwise.ensures)
