-- The load with the entry in place of another.
use Rattle.std.proofs.Common.{Some, arith}
use Rattle.sync_model.specs.Copy.{puts_of, staged}
use Rattle.sync_consumer.proofs.Rooms.{staged_count, staged_weight}
use Rattle.sync_consumer.proofs.Stages.{limits}
use Rattle.sync_consumer.proofs.stage.Stage.load_with.Goals as goal

pub overflow_add-result : goal.overflow_add-result
overflow_add-result c =
    let e = c.args.entry.now in
    let more = staged_count c.args.self.now e.uuid (Some e) c.load_without-load.ensures.ordered in
    let left = c.load_without-load.ensures.count in
    let within = limits (puts_of (staged e.uuid (Some e) c.args.self.now)) c.requires in
    omega (arith, more, left, within.0)

pub overflow_add-result-2 : goal.overflow_add-result-2
overflow_add-result-2 c =
    let e = c.args.entry.now in
    let more = staged_weight c.args.self.now e.uuid (Some e) c.load_without-load.ensures.ordered in
    let left = c.load_without-load.ensures.weight in
    let within = limits (puts_of (staged e.uuid (Some e) c.args.self.now)) c.requires in
    let own = c.weight.ensures in
    omega (arith, more, left, within.1, own)

pub returns : goal.returns
returns c =
    let e = c.args.entry.now in
    let count = staged_count c.args.self.now e.uuid (Some e) c.load_without-load.ensures.ordered in
    let weight = staged_weight c.args.self.now e.uuid (Some e) c.load_without-load.ensures.ordered in
    let few = c.load_without-load.ensures.count in
    let light = c.load_without-load.ensures.weight in
    let within = limits (puts_of (staged e.uuid (Some e) c.args.self.now)) c.requires in
    let own = c.weight.ensures in
    record {
      count = omega (arith, count, few);
      weight = omega (arith, weight, light, within.1, own);
    }
