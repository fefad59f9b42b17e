use Rattle.cascade_exchange.proofs.opening.ask_once.Goals as goal

pub returns-clause-does : goal.returns-clause-does
returns-clause-does c = c.in_ok-open_idle.ensures.does.0
