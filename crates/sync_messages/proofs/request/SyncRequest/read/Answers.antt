use Rattle.sync_messages.proofs.RequestLemmas.{request_only}
use Rattle.sync_messages.proofs.request.SyncRequest.read.Goals as goal

pub returns-clause-only : goal.returns-clause-only
returns-clause-only c = λ request form. request_only c.request_of.result c.args.value.now request c.request_of.ensures form
