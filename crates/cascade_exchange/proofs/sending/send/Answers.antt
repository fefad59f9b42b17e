use Rattle.std.proofs.Common.{◌∙◌, refl}
use Rattle.std.proofs.lemmas.Result.{err_from_is_err_and}
use Rattle.std.specs.Prelude.{Ok, Err}
use Rattle.cascade_exchange.specs.Exchange.{agreement_of, sent}
use Rattle.cascade_exchange.proofs.Loops.{begins, sends_at, sent_one, sent_none, sent_all, sent_over, went}
use Rattle.cascade_exchange.proofs.sending.send.Goals as goal

pub loop-left-init : goal.loop-left-init
loop-left-init c = record {
  goes = begins (sent c.args.count (agreement_of c.args.provider.now c.args.consumer_node.now c.args.out.now.lineage)) c.args.out.now;
  others = refl;
}

pub returns-in_err-send_one-clause-does : goal.returns-in_err-send_one-clause-does
returns-in_err-send_one-clause-does c =
    let p = err_from_is_err_and c.from_residual.result c.from_residual.ensures.1 in
    let lin = c.args.out.now.lineage in
    let whole = sent c.args.count (agreement_of c.args.provider.now c.args.consumer_node.now lin) in
    let here = agreement_of c.loop-left.provider c.loop-left.consumer_node lin in
    let there = agreement_of c.send_one.new.provider c.send_one.new.consumer_node lin in
    let same = went whole (sent c.loop-left.left here) c.args.out.now c.loop-left.out c.loop-left.invariant.goes in
    let one = sends_at c.loop-left.provider c.send_one.new.provider c.loop-left.consumer_node c.send_one.new.consumer_node c.loop-left.out.lineage lin c.loop-left.out c.send_one.new.out (Err c.in_err-send_one.field-0.0) same c.in_err-send_one.ensures.does in
    rw (p.1, p.2) (sent_over whole c.loop-left.left here there there _ _ c.send_one.new.out c.send_one.new.out c.in_err-send_one.field-0.0 c.loop-left-test.true c.loop-left.invariant.goes one)

pub returns-then-not-branch-clause-does : goal.returns-then-not-branch-clause-does
returns-then-not-branch-clause-does c =
    let lin = c.args.out.now.lineage in
    let whole = sent c.args.count (agreement_of c.args.provider.now c.args.consumer_node.now lin) in
    let here = agreement_of c.loop-left.provider c.loop-left.consumer_node lin in
    let there = agreement_of c.send_one.new.provider c.send_one.new.consumer_node lin in
    let same = went whole (sent c.loop-left.left here) c.args.out.now c.loop-left.out c.loop-left.invariant.goes in
    let one = sends_at c.loop-left.provider c.send_one.new.provider c.loop-left.consumer_node c.send_one.new.consumer_node c.loop-left.out.lineage lin c.loop-left.out c.send_one.new.out (Ok c.in_ok-send_one.field-0) same c.in_ok-send_one.ensures.does in
    sent_none whole c.loop-left.left here there _ _ _ _ c.loop-left-test.true c.loop-left.invariant.goes (rw c.if-not-branch.true at one) (rw c.as_slice.ensures at c.in_ok-nothing.ensures.line)

pub returns-then-not-branch-clause-provider : goal.returns-then-not-branch-clause-provider
returns-then-not-branch-clause-provider c = c.in_ok-send_one.ensures.provider ∙ c.loop-left.invariant.others

pub loop-left-preserved : goal.loop-left-preserved
loop-left-preserved c =
    let lin = c.args.out.now.lineage in
    let whole = sent c.args.count (agreement_of c.args.provider.now c.args.consumer_node.now lin) in
    let here = agreement_of c.loop-left.provider c.loop-left.consumer_node lin in
    let there = agreement_of c.send_one.new.provider c.send_one.new.consumer_node lin in
    let same = went whole (sent c.loop-left.left here) c.args.out.now c.loop-left.out c.loop-left.invariant.goes in
    let one = sends_at c.loop-left.provider c.send_one.new.provider c.loop-left.consumer_node c.send_one.new.consumer_node c.loop-left.out.lineage lin c.loop-left.out c.send_one.new.out (Ok c.in_ok-send_one.field-0) same c.in_ok-send_one.ensures.does in
    record {
      goes = sent_one whole c.loop-left.left here there _ _ _ c.loop-left-test.true c.loop-left.invariant.goes (rw c.if-not-branch.false at one);
      others = c.in_ok-send_one.ensures.provider ∙ c.loop-left.invariant.others;
    }

pub returns-clause-does : goal.returns-clause-does
returns-clause-does c =
    let lin = c.args.out.now.lineage in
    sent_all (sent c.args.count (agreement_of c.args.provider.now c.args.consumer_node.now lin)) c.loop-left.left (agreement_of c.loop-left.provider c.loop-left.consumer_node lin) _ _ c.loop-left-test.false c.loop-left.invariant.goes
