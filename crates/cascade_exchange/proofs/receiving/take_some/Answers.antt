use Rattle.std.proofs.Common.{◌∙◌}
use Rattle.std.proofs.lemmas.Result.{err_from_is_err_and}
use Rattle.cascade_exchange.specs.Exchange.{agreement_of, takes}
use Rattle.cascade_exchange.proofs.Loops.{went, took_all}
use Rattle.cascade_exchange.proofs.Takings.{step_ends, step_goes}
use Rattle.cascade_exchange.proofs.receiving.take_some.Goals as goal

pub returns-in_err-goes_on-clause-does : goal.returns-in_err-goes_on-clause-does
returns-in_err-goes_on-clause-does c =
    let p = err_from_is_err_and c.from_residual.result c.from_residual.ensures.1 in
    rw (p.1, p.2) c.in_err-goes_on.ensures.does

pub returns-in-Some-clause-does : goal.returns-in-Some-clause-does
returns-in-Some-clause-does c =
    let whole = takes c.args.count (agreement_of c.args.provider.now c.args.consumer_node.now c.args.out.now.lineage) in
    let same = went whole (takes c.loop-left.left (agreement_of c.args.provider.now c.loop-left.consumer_node c.args.out.now.lineage)) c.args.out.now c.loop-left.out c.loop-left.invariant.left in
    step_ends whole c.loop-left.left c.args.provider.now c.loop-left.consumer_node c.take_step.new.consumer_node c.loop-left.out.lineage c.args.out.now.lineage c.args.out.now c.loop-left.out c.take_step.new.out c.in_ok-goes_on.field-0 c.in-Some.goes_on same c.loop-left.invariant.left c.in_ok-goes_on.ensures.does c.in-Some.is

pub loop-left-preserved : goal.loop-left-preserved
loop-left-preserved c =
    let whole = takes c.args.count (agreement_of c.args.provider.now c.args.consumer_node.now c.args.out.now.lineage) in
    let same = went whole (takes c.loop-left.left (agreement_of c.args.provider.now c.loop-left.consumer_node c.args.out.now.lineage)) c.args.out.now c.loop-left.out c.loop-left.invariant.left in
    record {
      left = step_goes whole c.loop-left.left c.args.provider.now c.loop-left.consumer_node c.take_step.new.consumer_node c.loop-left.out.lineage c.args.out.now.lineage c.args.out.now c.loop-left.out c.take_step.new.out c.in_ok-goes_on.field-0 same c.loop-left-test.true c.loop-left.invariant.left c.in_ok-goes_on.ensures.does c.in_default.is;
      search = c.in_ok-goes_on.ensures.search ∙ c.loop-left.invariant.search;
    }

pub returns-clause-does : goal.returns-clause-does
returns-clause-does c =
    took_all (takes c.args.count (agreement_of c.args.provider.now c.args.consumer_node.now c.args.out.now.lineage)) c.loop-left.left (agreement_of c.args.provider.now c.loop-left.consumer_node c.args.out.now.lineage) c.args.out.now c.loop-left.out c.loop-left-test.false c.loop-left.invariant.left
