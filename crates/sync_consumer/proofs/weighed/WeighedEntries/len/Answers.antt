use Rattle.std.proofs.Common.{ap, ◌∙◌, length}
use Rattle.sync_consumer.proofs.KeptPuts.{count_puts}
use Rattle.sync_consumer.proofs.weighed.WeighedEntries.len.Goals as goal

pub returns : goal.returns
returns c = c.len.ensures.value ∙ count_puts c.self.inside.puts c.self.inside.weight c.self.invariant ∙ ap length c.self.view_is
