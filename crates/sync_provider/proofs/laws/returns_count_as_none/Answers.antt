use Rattle.sync_provider.proofs.Returns.{returns_count}
use Rattle.sync_provider.proofs.laws.returns_count_as_none.Goals as goal

pub returns : goal.returns
returns c = returns_count
