-- The load but for the entry of the identity.
use Rattle.std.proofs.Common.{◌∙◌, length, ap, sym, arith}
use Rattle.std.specs.Map.{keys_of}
use Rattle.entry_tree.specs.State.{found_weight, total_weight}
use Rattle.sync_model.specs.Copy.{Stage, puts_of}
use Rattle.entry_tree.specs.Touched.{rises}
use Rattle.sync_consumer.specs.Staging.{changes_kept, count_of}
use Rattle.sync_consumer.proofs.Rooms.{staged_least}
use Rattle.sync_consumer.proofs.Stages.{limits}
use Rattle.sync_consumer.proofs.stage.Stage.load_without.Goals as goal

pub overflow_sub-result : goal.overflow_sub-result
overflow_sub-result c =
    let all = c.self.invariant.counted ∙ ap (λ (s : Stage). length (puts_of s)) c.self.view_is in
    let least = staged_least c.args.self.now c.args.uuid in
    let one = ap count_of c.in-Some.ensures in
    omega (arith, all, least.0, one)

pub overflow_sub-result-in-Some : goal.overflow_sub-result-in-Some
overflow_sub-result-in-Some c =
    let all = c.self.invariant.weighed ∙ ap (λ (s : Stage). total_weight (puts_of s)) c.self.view_is in
    let least = staged_least c.args.self.now c.args.uuid in
    let one = ap found_weight c.in-Some.ensures in
    let own = c.weight.ensures in
    omega (arith, all, least.1, one, own)

pub returns-in-Some : goal.returns-in-Some
returns-in-Some c =
    let count = c.self.invariant.counted ∙ ap (λ (s : Stage). length (puts_of s)) c.self.view_is in
    let weight = c.self.invariant.weighed ∙ ap (λ (s : Stage). total_weight (puts_of s)) c.self.view_is in
    let within = limits (puts_of (changes_kept c.self.inside.changes)) c.self.invariant.within in
    let kept = c.self.invariant.weighed in
    let least = staged_least c.args.self.now c.args.uuid in
    let one = ap count_of c.in-Some.ensures in
    let its = ap found_weight c.in-Some.ensures in
    let own = c.weight.ensures in
    record {
      count = omega (arith, count, least.0, one);
      weight = omega (arith, weight, least.1, its, own, within.1, kept);
      light = omega (arith, within.1, kept);
      ordered = ap (λ (s : Stage). rises (keys_of s)) (sym c.self.view_is) ∙ c.self.invariant.ordered;
    }

pub returns-in-None : goal.returns-in-None
returns-in-None c =
    let count = c.self.invariant.counted ∙ ap (λ (s : Stage). length (puts_of s)) c.self.view_is in
    let weight = c.self.invariant.weighed ∙ ap (λ (s : Stage). total_weight (puts_of s)) c.self.view_is in
    let within = limits (puts_of (changes_kept c.self.inside.changes)) c.self.invariant.within in
    let kept = c.self.invariant.weighed in
    let one = ap count_of c.in-None.ensures in
    let its = ap found_weight c.in-None.ensures in
    record {
      count = omega (arith, count, one);
      weight = omega (arith, weight, its);
      light = omega (arith, within.1, kept);
      ordered = ap (λ (s : Stage). rises (keys_of s)) (sym c.self.view_is) ∙ c.self.invariant.ordered;
    }
