use Rattle.sync_provider.proofs.Refusals.{refusals_count}
use Rattle.sync_provider.proofs.laws.refusals_count_as_none.Goals as goal

pub returns : goal.returns
returns c = refusals_count
