use Rattle.std.proofs.Common.{true, false, refl}
use Rattle.std.proofs.lemmas.Result.{err_from_is_err_and}
use Rattle.cascade_exchange.specs.Exchange.{agreement_of, taking, takes}
use Rattle.cascade_exchange.proofs.Loops.{begins, took_none}
use Rattle.cascade_exchange.proofs.Takings.{next_none, next_some, took_fault}
use Rattle.cascade_exchange.proofs.receiving.take_step.Goals as goal

pub returns-in_err-goes_on-clause-does : goal.returns-in_err-goes_on-clause-does
returns-in_err-goes_on-clause-does c =
    let p = err_from_is_err_and c.from_residual.result c.from_residual.ensures.1 in
    rw (p.1, p.2) c.in_err-goes_on.ensures.does

pub returns-in_default-clause-does : goal.returns-in_default-clause-does
returns-in_default-clause-does c =
    let pair = agreement_of c.args.provider.now c.args.consumer_node.now c.args.out.now.lineage in
    let after = agreement_of c.args.provider.now c.take_next.new.consumer_node c.args.out.now.lineage in
    let whole = takes c.args.left pair in
    took_none whole c.args.left pair after c.args.out.now c.args.out.now c.take_next.new.out _ false c.requires (begins whole c.args.out.now)
    (next_none pair after (taking pair) c.args.out.now c.take_next.new.out c.in_ok-goes_on.field-0 c.in_default.is c.in_ok-goes_on.ensures.does) refl (rw c.as_slice.ensures at c.in_ok-nothing.ensures.line)

pub returns-then-goes_on-clause-does : goal.returns-then-goes_on-clause-does
returns-then-goes_on-clause-does c =
    let pair = agreement_of c.args.provider.now c.args.consumer_node.now c.args.out.now.lineage in
    let after = agreement_of c.args.provider.now c.take_next.new.consumer_node c.args.out.now.lineage in
    next_some pair after (taking pair) c.args.out.now c.take_next.new.out c.in_ok-goes_on.field-0 c.in-Some.goes_on true c.in-Some.is c.if-goes_on.true c.in_ok-goes_on.ensures.does

pub returns-clause-does : goal.returns-clause-does
returns-clause-does c =
    let pair = agreement_of c.args.provider.now c.args.consumer_node.now c.args.out.now.lineage in
    let after = agreement_of c.args.provider.now c.take_next.new.consumer_node c.args.out.now.lineage in
    let whole = takes c.args.left pair in
    took_fault whole c.args.left pair after c.args.out.now c.args.out.now c.take_next.new.out _ c.requires (begins whole c.args.out.now)
    (next_some pair after (taking pair) c.args.out.now c.take_next.new.out c.in_ok-goes_on.field-0 c.in-Some.goes_on false c.in-Some.is c.if-goes_on.false c.in_ok-goes_on.ensures.does)
    c.in_ok-report_rest.ensures.more c.in_ok-report_rest.ensures.last
