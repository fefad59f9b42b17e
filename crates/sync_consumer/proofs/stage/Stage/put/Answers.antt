-- One entry more is staged.
use Rattle.std.proofs.Common.{◌∙◌, Some, ap, sym, refl}
use Rattle.std.proofs.lemmas.Result.{err_from_is_err_and}
use Rattle.sync_model.specs.Copy.{staged}
use Rattle.sync_consumer.specs.declared.stage.StagedChange.TheVariants.{AddOrModify}
use Rattle.sync_consumer.specs.Staging.{changes_kept}
use Rattle.sync_consumer.proofs.Stages.{kept_insert, more_staged}
use Rattle.sync_consumer.proofs.stage.Stage.put.Goals as goal

pub invariant_of-self-2 : goal.invariant_of-self-2
invariant_of-self-2 c =
    let e = c.args.entry in
    more_staged c.self.inside.changes c.insert.new.self e.uuid (AddOrModify e) (staged e.uuid (Some e) c.args.self.now) c.load_with-load.result.count c.load_with-load.result.weight
    refl c.self.invariant.own c.self.invariant.ordered c.in_ok-insert.ensures.ok (ap (staged e.uuid (Some e)) (sym c.self.view_is))
    c.load_with-load.ensures.count c.load_with-load.ensures.weight c.requires

pub returns-in_err-insert-clause-err : goal.returns-in_err-insert-clause-err
returns-in_err-insert-clause-err c =
    let p = err_from_is_err_and c.from_residual.result c.from_residual.ensures.1 in
    rw p.1 (ap changes_kept c.in_err-insert.ensures.err ∙ c.self.view_is)

pub returns-clause-ok : goal.returns-clause-ok
returns-clause-ok c =
    let e = c.args.entry in
    ap changes_kept c.in_ok-insert.ensures.ok
    ∙ kept_insert c.self.inside.changes e.uuid (AddOrModify e) refl c.self.invariant.own
    ∙ ap (staged e.uuid (Some e)) c.self.view_is
