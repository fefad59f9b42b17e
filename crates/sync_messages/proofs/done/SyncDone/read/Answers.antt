use Rattle.sync_messages.proofs.DoneLemmas.{done_only}
use Rattle.sync_messages.proofs.done.SyncDone.read.Goals as goal

pub returns-clause-only : goal.returns-clause-only
returns-clause-only c = λ done form. done_only c.done_of.result c.args.value.now done c.done_of.ensures form
