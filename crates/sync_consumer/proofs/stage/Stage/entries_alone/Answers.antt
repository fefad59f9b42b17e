-- A stage whose changes all put entries.
use Rattle.std.proofs.Common.{◌≡◌, ◌∙◌, [], length, ap, arith}
use Rattle.sync_model.specs.Copy.{Stage, effected}
use Rattle.sync_consumer.specs.Staging.{changes_kept}
use Rattle.sync_consumer.proofs.KeptPuts.{Puts, effected_alone, same_put, stage_put}
use Rattle.sync_consumer.proofs.stage.Stage.entries_alone.Goals as goal

pub of-requires : goal.of-requires
of-requires c =
    let load = c.self.inside.load in
    let count = c.len.ensures.value in
    let same : load.count ≡ length c.self.inside.changes = omega (arith, count) in
    same_put c.self.inside.changes c.in_ok-changes.changes load.weight c.in_ok-changes.ensures
    (stage_put c.self.inside.changes load.count load.weight c.self.invariant same)

pub returns : goal.returns
returns c =
    let load = c.self.inside.load in
    let count = c.len.ensures.value in
    let same : load.count ≡ length c.self.inside.changes = omega (arith, count) in
    c.of.ensures
    ∙ effected_alone c.in_ok-changes.changes load.weight
    (same_put c.self.inside.changes c.in_ok-changes.changes load.weight c.in_ok-changes.ensures
    (stage_put c.self.inside.changes load.count load.weight c.self.invariant same))
    ∙ ap (λ (changes : Puts). effected [] (changes_kept changes)) c.in_ok-changes.ensures
    ∙ ap (λ (stage : Stage). effected [] stage) c.self.view_is
