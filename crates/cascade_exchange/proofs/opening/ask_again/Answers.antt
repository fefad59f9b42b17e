use Rattle.std.proofs.lemmas.Result.{err_from_is_err_and}
use Rattle.cascade_exchange.specs.Exchange.{agreement_of}
use Rattle.cascade_exchange.proofs.Openings.{again_refused, again_twice, again_once}
use Rattle.cascade_exchange.proofs.opening.ask_again.Goals as goal

pub returns-then-branch-clause-does : goal.returns-then-branch-clause-does
returns-then-branch-clause-does c =
    again_twice (agreement_of c.args.provider.now c.args.consumer_node.now c.args.out.now.lineage) c.open_idle.new.provider c.ask_once.new.provider c.open_idle.new.consumer_node c.ask_once.new.consumer_node c.args.out.now c.open_idle.new.out _
    c.in_ok-open_idle.field-0 c.ask_once.result c.in_ok-open_idle.ensures.does c.if-branch.true c.ask_once.ensures.does

pub returns-clause-does : goal.returns-clause-does
returns-clause-does c =
    again_once (agreement_of c.args.provider.now c.args.consumer_node.now c.args.out.now.lineage) (agreement_of c.open_idle.new.provider c.open_idle.new.consumer_node c.args.out.now.lineage) _ _ c.in_ok-open_idle.field-0 c.in_ok-open_idle.ensures.does c.if-branch.false

pub returns-in_err-open_idle-clause-does : goal.returns-in_err-open_idle-clause-does
returns-in_err-open_idle-clause-does c =
    let p = err_from_is_err_and c.from_residual.result c.from_residual.ensures.1 in
    rw (p.1, p.2)
    (again_refused (agreement_of c.args.provider.now c.args.consumer_node.now c.args.out.now.lineage) (agreement_of c.open_idle.new.provider c.open_idle.new.consumer_node c.args.out.now.lineage) (agreement_of c.open_idle.new.provider c.open_idle.new.consumer_node c.args.out.now.lineage)
    c.args.out.now c.open_idle.new.out c.open_idle.new.out c.in_err-open_idle.field-0.0 c.in_err-open_idle.ensures.does)
