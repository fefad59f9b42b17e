-- The notes that are left out are not after the write.
use Rattle.std.proofs.Common.{◌∙◌, ap}
use Rattle.std.proofs.lemmas.Result.{on_ok_weaker}
use Rattle.session_log.specs.Log.{joined}
use Rattle.session_log.proofs.ascending.insert_later.Goals as goal

pub returns : goal.returns
returns c =
    on_ok_weaker c.insert_after.result (λ put. put ∙ ap (joined c.args.uuids.now.keys) c.later_notes.ensures) c.insert_after.ensures
