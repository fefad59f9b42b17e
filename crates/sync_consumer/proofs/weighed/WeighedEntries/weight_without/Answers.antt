-- An entry weighs no more than all of them.
use Rattle.std.proofs.Common.{◌∙◌, ap, arith}
use Rattle.entry_tree.specs.State.{found_weight, total_weight}
use Rattle.sync_consumer.proofs.Weighing.{weight_at}
use Rattle.sync_consumer.proofs.weighed.WeighedEntries.weight_without.Goals as goal

pub overflow_sub-result : goal.overflow_sub-result
overflow_sub-result c =
    let all = c.self.invariant.weighed.weighed ∙ ap total_weight c.self.view_is in
    let one = weight_at c.args.self.now c.args.uuid in
    let its = ap found_weight c.in-Some.ensures in
    let own = c.weight.ensures in
    omega (arith, all, one, its, own)

pub returns-in-Some : goal.returns-in-Some
returns-in-Some c =
    let small = c.self.invariant.weighed.small in
    let all = c.self.invariant.weighed.weighed ∙ ap total_weight c.self.view_is in
    let one = weight_at c.args.self.now c.args.uuid in
    let its = ap found_weight c.in-Some.ensures in
    let own = c.weight.ensures in
    omega (arith, small, all, one, its, own)

pub returns-in-None : goal.returns-in-None
returns-in-None c =
    let all = c.self.invariant.weighed.weighed ∙ ap total_weight c.self.view_is in
    let its = ap found_weight c.in-None.ensures in
    omega (arith, all, its)
