use Rattle.std.proofs.Common.{true, false, sym, subst}
use Rattle.std.proofs.lemmas.Result.{err_from_is_err_and}
use Rattle.std.specs.Prelude.{Ok}
use Rattle.cascade_exchange.specs.Exchange.{agreement_of, taking}
use Rattle.cascade_exchange.specs.Parts.{TakesOne}
use Rattle.cascade_exchange.proofs.Takings.{one_starves, next_none, next_some}
use Rattle.cascade_exchange.proofs.receiving.take_one.Goals as goal

pub returns-in_err-goes_on-clause-does : goal.returns-in_err-goes_on-clause-does
returns-in_err-goes_on-clause-does c =
    let p = err_from_is_err_and c.from_residual.result c.from_residual.ensures.1 in
    let pair = agreement_of c.args.provider.now c.args.consumer_node.now c.args.out.now.lineage in
    rw (p.1, p.2)
    (one_starves pair (agreement_of c.args.provider.now c.take_next.new.consumer_node c.args.out.now.lineage) (taking pair) c.args.out.now c.take_next.new.out c.in_err-goes_on.field-0.0 c.in_err-goes_on.ensures.does)

pub returns-in_default-clause-does : goal.returns-in_default-clause-does
returns-in_default-clause-does c =
    let pair = agreement_of c.args.provider.now c.args.consumer_node.now c.args.out.now.lineage in
    next_none pair (agreement_of c.args.provider.now c.take_next.new.consumer_node c.args.out.now.lineage) (taking pair) c.args.out.now c.take_next.new.out c.in_ok-goes_on.field-0 c.in_default.is c.in_ok-goes_on.ensures.does

pub returns-then-goes_on-clause-does : goal.returns-then-goes_on-clause-does
returns-then-goes_on-clause-does c =
    let pair = agreement_of c.args.provider.now c.args.consumer_node.now c.args.out.now.lineage in
    next_some pair (agreement_of c.args.provider.now c.take_next.new.consumer_node c.args.out.now.lineage) (taking pair) c.args.out.now c.take_next.new.out c.in_ok-goes_on.field-0 c.in-Some.goes_on true c.in-Some.is c.if-goes_on.true c.in_ok-goes_on.ensures.does

pub returns-clause-does : goal.returns-clause-does
returns-clause-does c =
    let pair = agreement_of c.args.provider.now c.args.consumer_node.now c.args.out.now.lineage in
    let after = agreement_of c.args.provider.now c.take_next.new.consumer_node c.args.out.now.lineage in
    subst (λ q. TakesOne pair (taking pair) c.args.out.now q c.take_next.new.out (Ok true)) (sym (c.drop_all.ensures.does c.args.out.now.lineage))
    (next_some pair after (taking pair) c.args.out.now c.take_next.new.out c.in_ok-goes_on.field-0 c.in-Some.goes_on false c.in-Some.is c.if-goes_on.false c.in_ok-goes_on.ensures.does)
