use Rattle.sync_messages.proofs.InfoLemmas.{info_only}
use Rattle.sync_messages.proofs.info.SyncInfo.read.Goals as goal

pub returns-clause-only : goal.returns-clause-only
returns-clause-only c = λ info form. info_only c.info_of.result c.args.value.now info c.info_of.ensures form
