use Rattle.std.proofs.Common.{◌∙◌}
use Rattle.std.specs.Prelude.{Ok}
use Rattle.cascade_exchange.specs.Exchange.{agreement_of, drains}
use Rattle.cascade_exchange.proofs.Loops.{drains_went, takes_at, drains_on, drains_end}
use Rattle.cascade_exchange.proofs.settling.take_all.Goals as goal

pub loop-preserved : goal.loop-preserved
loop-preserved c =
    let whole = drains (agreement_of c.args.provider.now c.args.consumer_node.now c.args.out.now.lineage) in
    let same = drains_went whole (agreement_of c.loop.provider c.loop.consumer_node c.args.out.now.lineage) c.args.out.now c.loop.out c.loop.invariant.left in
    let one = takes_at c.loop.provider c.take_one.new.provider c.loop.consumer_node c.take_one.new.consumer_node c.loop.out.lineage c.args.out.now.lineage c.loop.out c.take_one.new.out (Ok c.in_ok-take_one.field-0) same c.in_ok-take_one.ensures.does in
    record {
      left = drains_on whole (agreement_of c.loop.provider c.loop.consumer_node c.args.out.now.lineage) (agreement_of c.take_one.new.provider c.take_one.new.consumer_node c.args.out.now.lineage) _ _ _ c.in_ok-take_one.field-0 c.loop.invariant.left one c.if-branch.true;
      others = c.in_ok-take_one.ensures.provider ∙ c.loop.invariant.others;
    }

pub returns-clause-does : goal.returns-clause-does
returns-clause-does c =
    let whole = drains (agreement_of c.args.provider.now c.args.consumer_node.now c.args.out.now.lineage) in
    let same = drains_went whole (agreement_of c.loop.provider c.loop.consumer_node c.args.out.now.lineage) c.args.out.now c.loop.out c.loop.invariant.left in
    let one = takes_at c.loop.provider c.take_one.new.provider c.loop.consumer_node c.take_one.new.consumer_node c.loop.out.lineage c.args.out.now.lineage c.loop.out c.take_one.new.out (Ok c.in_ok-take_one.field-0) same c.in_ok-take_one.ensures.does in
    drains_end whole (agreement_of c.loop.provider c.loop.consumer_node c.args.out.now.lineage) (agreement_of c.take_one.new.provider c.take_one.new.consumer_node c.args.out.now.lineage) _ _ _ c.in_ok-take_one.field-0 c.loop.invariant.left one c.if-branch.false
