use Rattle.std.proofs.Common.{◌∙◌, ap}
use Rattle.std.proofs.lemmas.Result.{IfOk-weaker}
use Rattle.sync_model.specs.Copy.{effected}
use Rattle.sync_consumer.proofs.weighed.entries_with.Goals as goal

pub returns : goal.returns
returns c = IfOk-weaker c.entries_after.result _ _ (λ after is. is ∙ ap (effected c.args.held.now) c.requires.changes) c.entries_after.ensures
