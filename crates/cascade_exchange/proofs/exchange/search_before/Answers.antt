use Rattle.cascade_exchange.proofs.exchange.search_before.Goals as goal

pub returns-then-not-moves_searches-clause-kept : goal.returns-then-not-moves_searches-clause-kept
returns-then-not-moves_searches-clause-kept c = rw c.nothing.ensures tt
