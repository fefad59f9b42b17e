use Rattle.sync_messages.proofs.StateLemmas.{state_only}
use Rattle.sync_messages.proofs.state.SyncState.read.Goals as goal

pub returns-clause-only : goal.returns-clause-only
returns-clause-only c = λ state form. state_only c.state_of.result c.args.value.now state c.state_of.ensures form
