use Rattle.std.proofs.Common.{arith}
use Rattle.sync_messages.proofs.InfoLemmas.{each_in_range}
use Rattle.sync_messages.proofs.info.put_each.Goals as goal

pub returns-clause-in_range : goal.returns-clause-in_range
returns-clause-in_range c = each_in_range c.args.ids.now (λ k. omega (arith, c.type_inv.ids k))
