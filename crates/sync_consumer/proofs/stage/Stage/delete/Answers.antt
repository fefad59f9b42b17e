-- One identity more has no entry.
use Rattle.std.proofs.Common.{◌≡◌, ◌∙◌, true, false, None, ap, sym, refl, arith}
use Rattle.std.specs.Map.{keys_of}
use Rattle.sync_model.specs.Copy.{Stage, puts_of, staged}
use Rattle.sync_model.specs.Within.{exceeds_limits}
use Rattle.sync_consumer.specs.declared.stage.StagedChange.TheVariants.{Delete}
use Rattle.entry_tree.specs.Touched.{rises}
use Rattle.sync_consumer.specs.Staging.{changes_kept}
use Rattle.sync_consumer.proofs.Rooms.{staged_count, staged_weight, dropped_within}
use Rattle.sync_consumer.proofs.Stages.{kept_insert, more_staged}
use Rattle.sync_consumer.proofs.stage.Stage.delete.Goals as goal

pub invariant_of-self-2 : goal.invariant_of-self-2
invariant_of-self-2 c =
    let u = c.args.uuid in
    let now : Stage = c.args.self.now in
    let up : rises (keys_of now) ≡ true = ap (λ (s : Stage). rises (keys_of s)) (sym c.self.view_is) ∙ c.self.invariant.ordered in
    let within : exceeds_limits (puts_of now) ≡ false = ap (λ (s : Stage). exceeds_limits (puts_of s)) (sym c.self.view_is) ∙ c.self.invariant.within in
    let count = staged_count now u None up in
    let weight = staged_weight now u None up in
    let few = c.load_without-load.ensures.count in
    let light = c.load_without-load.ensures.weight in
    more_staged c.self.inside.changes c.insert.new.self u (Delete u) (staged u None now) c.load_without-load.result.count c.load_without-load.result.weight
    refl c.self.invariant.own c.self.invariant.ordered c.in_ok-insert.ensures.ok (ap (staged u None) (sym c.self.view_is))
    (omega (arith, count, few)) (omega (arith, weight, light)) (dropped_within now u up within)

pub returns : goal.returns
returns c =
    ap changes_kept c.in_ok-insert.ensures.ok
    ∙ kept_insert c.self.inside.changes c.args.uuid (Delete c.args.uuid) refl c.self.invariant.own
    ∙ ap (staged c.args.uuid None) c.self.view_is
