use Rattle.std.proofs.Common.{true, false, sym, subst}
use Rattle.std.proofs.lemmas.Result.{err_from_is_err_and}
use Rattle.std.specs.Prelude.{Ok}
use Rattle.cascade_exchange.specs.Exchange.{agreement_of, takes}
use Rattle.cascade_exchange.specs.Parts.{Does}
use Rattle.cascade_exchange.proofs.Takings.{starves, left_so}
use Rattle.cascade_exchange.proofs.Performing.{kept_same, dropped_untouched}
use Rattle.cascade_exchange.proofs.receiving.take.Goals as goal

pub returns-in_err-take_some-clause-does : goal.returns-in_err-take_some-clause-does
returns-in_err-take_some-clause-does c =
    let p = err_from_is_err_and c.from_residual.result c.from_residual.ensures.1 in
    rw (p.1, p.2)
    (starves (takes c.args.count (agreement_of c.args.provider.now c.args.consumer_node.now c.args.out.now.lineage)) (agreement_of c.args.provider.now c.take_some.new.consumer_node c.args.out.now.lineage) c.args.out.now c.take_some.new.out c.in_err-take_some.field-0.0 c.in_err-take_some.ensures.does)

pub returns-then-branch-clause-does : goal.returns-then-branch-clause-does
returns-then-branch-clause-does c =
    left_so (takes c.args.count (agreement_of c.args.provider.now c.args.consumer_node.now c.args.out.now.lineage)) (agreement_of c.args.provider.now c.take_some.new.consumer_node c.args.out.now.lineage) c.args.out.now c.take_some.new.out c.in_ok-take_some.field-0 true c.if-branch.true c.in_ok-take_some.ensures.does

pub returns-clause-does : goal.returns-clause-does
returns-clause-does c =
    let whole = takes c.args.count (agreement_of c.args.provider.now c.args.consumer_node.now c.args.out.now.lineage) in
    let after = agreement_of c.args.provider.now c.take_some.new.consumer_node c.args.out.now.lineage in
    subst (λ q. Does whole c.args.out.now q c.take_some.new.out (Ok tt)) (sym (c.drop_all.ensures.does c.args.out.now.lineage))
    (left_so whole after c.args.out.now c.take_some.new.out c.in_ok-take_some.field-0 false c.if-branch.false c.in_ok-take_some.ensures.does)

-- the search that is dropped is the one that the consumer had
pub returns-clause-kept : goal.returns-clause-kept
returns-clause-kept c = λ before.
    kept_same c.args.provider.now c.args.consumer_node.now.search c.take_some.new.consumer_node.search c.in_ok-own.own _ c.in_ok-take_some.ensures.search c.replace.ensures.after c.in_ok-own.ensures.kept

pub returns-clause-untouched : goal.returns-clause-untouched
returns-clause-untouched c =
    dropped_untouched c.args.provider.now c.drop_all.new.provider c.args.consumer_node.now.search c.take_some.new.consumer_node.search c.in_ok-own.own _ c.in_ok-take_some.ensures.search c.replace.ensures.after c.in_ok-own.ensures.needed
