use Rattle.cascade_exchange.proofs.Others.{free_is_idle}
use Rattle.cascade_exchange.proofs.opening.cut_if_busy.Goals as goal

pub returns-clause-idle : goal.returns-clause-idle
returns-clause-idle c = free_is_idle c.args.consumer_node.now c.is_busy.result c.is_busy.ensures c.if-is_busy.false
