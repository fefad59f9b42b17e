use Rattle.std.proofs.Common.{◌∙◌}
use Rattle.std.proofs.lemmas.Result.{err_from_is_err_and}
use Rattle.std.specs.Prelude.{Ok, Err}
use Rattle.cascade_exchange.specs.Exchange.{agreement_of, runs}
use Rattle.cascade_exchange.proofs.Loops.{takes_at, sends_at}
use Rattle.cascade_exchange.proofs.Pending.{run_goes_on, run_leaves_less, run_ends, run_overflows, run_went, sent_lineage}
use Rattle.cascade_exchange.proofs.settling.run_search.Goals as goal

pub returns-in_err-send_one-clause-does : goal.returns-in_err-send_one-clause-does
returns-in_err-send_one-clause-does c =
    let p = err_from_is_err_and c.from_residual.result c.from_residual.ensures.1 in
    let whole = runs (agreement_of c.args.provider.now c.args.consumer_node.now c.args.out.now.lineage) in
    let same = run_went whole (agreement_of c.loop-provider.provider c.loop-provider.consumer_node c.args.out.now.lineage) c.args.out.now c.loop-provider.out c.loop-provider.invariant.left in
    let sent = sends_at c.loop-provider.provider c.send_one.new.provider c.loop-provider.consumer_node c.send_one.new.consumer_node c.loop-provider.out.lineage c.args.out.now.lineage c.loop-provider.out c.send_one.new.out (Err c.in_err-send_one.field-0.0) same c.in_err-send_one.ensures.does in
    rw (p.1, p.2) (run_overflows whole (agreement_of c.loop-provider.provider c.loop-provider.consumer_node c.args.out.now.lineage) (agreement_of c.send_one.new.provider c.send_one.new.consumer_node c.args.out.now.lineage) (agreement_of c.send_one.new.provider c.send_one.new.consumer_node c.args.out.now.lineage) _ _ c.send_one.new.out c.send_one.new.out c.in_err-send_one.field-0.0 c.loop-provider.invariant.left sent)

pub loop-provider-preserved : goal.loop-provider-preserved
loop-provider-preserved c =
    let whole = runs (agreement_of c.args.provider.now c.args.consumer_node.now c.args.out.now.lineage) in
    let same = run_went whole (agreement_of c.loop-provider.provider c.loop-provider.consumer_node c.args.out.now.lineage) c.args.out.now c.loop-provider.out c.loop-provider.invariant.left in
    let sent = sends_at c.loop-provider.provider c.send_one.new.provider c.loop-provider.consumer_node c.send_one.new.consumer_node c.loop-provider.out.lineage c.args.out.now.lineage c.loop-provider.out c.send_one.new.out (Ok c.in_ok-send_one.field-0) same c.in_ok-send_one.ensures.does in
    let then = sent_lineage (agreement_of c.loop-provider.provider c.loop-provider.consumer_node c.args.out.now.lineage) (agreement_of c.send_one.new.provider c.send_one.new.consumer_node c.args.out.now.lineage) c.loop-provider.out c.send_one.new.out c.in_ok-send_one.field-0 sent c.if-branch.true ∙ same in
    let taken = takes_at c.send_one.new.provider c.take_one.new.provider c.send_one.new.consumer_node c.take_one.new.consumer_node c.send_one.new.out.lineage c.args.out.now.lineage c.send_one.new.out c.take_one.new.out (Ok c.in_ok-take_one.field-0) then c.in_ok-take_one.ensures.does in
    record {
      left = run_goes_on whole (agreement_of c.loop-provider.provider c.loop-provider.consumer_node c.args.out.now.lineage) (agreement_of c.send_one.new.provider c.send_one.new.consumer_node c.args.out.now.lineage) (agreement_of c.take_one.new.provider c.take_one.new.consumer_node c.args.out.now.lineage) _ _ _ _ c.in_ok-send_one.field-0 c.in_ok-take_one.field-0 c.loop-provider.invariant.left sent c.if-branch.true taken;
      others = c.in_ok-take_one.ensures.provider ∙ (c.in_ok-send_one.ensures.provider ∙ c.loop-provider.invariant.others);
    }

pub loop-provider-smaller : goal.loop-provider-smaller
loop-provider-smaller c =
    let whole = runs (agreement_of c.args.provider.now c.args.consumer_node.now c.args.out.now.lineage) in
    let same = run_went whole (agreement_of c.loop-provider.provider c.loop-provider.consumer_node c.args.out.now.lineage) c.args.out.now c.loop-provider.out c.loop-provider.invariant.left in
    let sent = sends_at c.loop-provider.provider c.send_one.new.provider c.loop-provider.consumer_node c.send_one.new.consumer_node c.loop-provider.out.lineage c.args.out.now.lineage c.loop-provider.out c.send_one.new.out (Ok c.in_ok-send_one.field-0) same c.in_ok-send_one.ensures.does in
    let then = sent_lineage (agreement_of c.loop-provider.provider c.loop-provider.consumer_node c.args.out.now.lineage) (agreement_of c.send_one.new.provider c.send_one.new.consumer_node c.args.out.now.lineage) c.loop-provider.out c.send_one.new.out c.in_ok-send_one.field-0 sent c.if-branch.true ∙ same in
    let taken = takes_at c.send_one.new.provider c.take_one.new.provider c.send_one.new.consumer_node c.take_one.new.consumer_node c.send_one.new.out.lineage c.args.out.now.lineage c.send_one.new.out c.take_one.new.out (Ok c.in_ok-take_one.field-0) then c.in_ok-take_one.ensures.does in
    run_leaves_less (agreement_of c.loop-provider.provider c.loop-provider.consumer_node c.args.out.now.lineage) (agreement_of c.send_one.new.provider c.send_one.new.consumer_node c.args.out.now.lineage) (agreement_of c.take_one.new.provider c.take_one.new.consumer_node c.args.out.now.lineage) _ _ _ c.in_ok-send_one.field-0 c.in_ok-take_one.field-0 sent c.if-branch.true taken

pub returns-clause-does : goal.returns-clause-does
returns-clause-does c =
    let whole = runs (agreement_of c.args.provider.now c.args.consumer_node.now c.args.out.now.lineage) in
    let same = run_went whole (agreement_of c.loop-provider.provider c.loop-provider.consumer_node c.args.out.now.lineage) c.args.out.now c.loop-provider.out c.loop-provider.invariant.left in
    let sent = sends_at c.loop-provider.provider c.send_one.new.provider c.loop-provider.consumer_node c.send_one.new.consumer_node c.loop-provider.out.lineage c.args.out.now.lineage c.loop-provider.out c.send_one.new.out (Ok c.in_ok-send_one.field-0) same c.in_ok-send_one.ensures.does in
    run_ends whole (agreement_of c.loop-provider.provider c.loop-provider.consumer_node c.args.out.now.lineage) (agreement_of c.send_one.new.provider c.send_one.new.consumer_node c.args.out.now.lineage) _ _ _ c.in_ok-send_one.field-0 c.loop-provider.invariant.left sent c.if-branch.false
