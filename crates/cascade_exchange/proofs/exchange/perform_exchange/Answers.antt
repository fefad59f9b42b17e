use Rattle.std.proofs.Common.{◌≡◌, [], refl, ap, ◌∙◌}
use Rattle.cascade_report.specs.Report.{Report}
use Rattle.cascade_exchange.specs.Exchange.{agreement_of}
use Rattle.cascade_exchange.proofs.Performing.{stepwise_back, refused_back}
use Rattle.cascade_exchange.proofs.Unstaged.{unstaged}
use Rattle.cascade_exchange.proofs.exchange.perform_exchange.Goals as goal

pub returns-in-Ok-perform-clause-before : goal.returns-in-Ok-perform-clause-before
returns-in-Ok-perform-clause-before c =
    stepwise_back c.args.exchange c.args.provider_node.now.provider c.perform.new.provider c.args.consumer_node.now c.perform.new.consumer_node c.perform.new.kept c.in-Ok.before (record c.in-Ok.before { own = c.perform.new.kept }) c.in-Ok.ensures.search c.in-Ok.ensures.consumer_node c.in-Ok.ensures.steps refl
    (c.perform.ensures.kept c.in-Ok.ensures.own) c.perform.ensures.provider c.perform.ensures.untouched

pub restore-requires-clause-no_write : goal.restore-requires-clause-no_write
restore-requires-clause-no_write c =
    (refused_back c.args.exchange c.args.provider_node.now.provider c.perform.new.provider c.args.consumer_node.now c.perform.new.consumer_node c.perform.new.kept c.in-Ok.before (record c.in-Ok.before { own = c.perform.new.kept }) c.in-Ok.ensures.search c.in-Ok.ensures.consumer_node c.in-Ok.ensures.steps refl (c.perform.ensures.kept c.in-Ok.ensures.own) c.perform.ensures.provider c.perform.ensures.untouched c.in-Err.ensures.err).no_write

pub restore-requires-clause-ours : goal.restore-requires-clause-ours
restore-requires-clause-ours c =
    (refused_back c.args.exchange c.args.provider_node.now.provider c.perform.new.provider c.args.consumer_node.now c.perform.new.consumer_node c.perform.new.kept c.in-Ok.before (record c.in-Ok.before { own = c.perform.new.kept }) c.in-Ok.ensures.search c.in-Ok.ensures.consumer_node c.in-Ok.ensures.steps refl (c.perform.ensures.kept c.in-Ok.ensures.own) c.perform.ensures.provider c.perform.ensures.untouched c.in-Err.ensures.err).ours

pub returns-in-Err-clause-err : goal.returns-in-Err-clause-err
returns-in-Err-clause-err c =
    ap (λ p. record c.args.provider_node.now { provider = p })
    (c.restore.ensures.provider ∙ (refused_back c.args.exchange c.args.provider_node.now.provider c.perform.new.provider c.args.consumer_node.now c.perform.new.consumer_node c.perform.new.kept c.in-Ok.before (record c.in-Ok.before { own = c.perform.new.kept }) c.in-Ok.ensures.search c.in-Ok.ensures.consumer_node c.in-Ok.ensures.steps refl (c.perform.ensures.kept c.in-Ok.ensures.own) c.perform.ensures.provider c.perform.ensures.untouched c.in-Err.ensures.err).same_provider)

pub returns-in-Err-clause-consumer_node_err : goal.returns-in-Err-clause-consumer_node_err
returns-in-Err-clause-consumer_node_err c =
    c.restore.ensures.consumer_node ∙ (refused_back c.args.exchange c.args.provider_node.now.provider c.perform.new.provider c.args.consumer_node.now c.perform.new.consumer_node c.perform.new.kept c.in-Ok.before (record c.in-Ok.before { own = c.perform.new.kept }) c.in-Ok.ensures.search c.in-Ok.ensures.consumer_node c.in-Ok.ensures.steps refl (c.perform.ensures.kept c.in-Ok.ensures.own) c.perform.ensures.provider c.perform.ensures.untouched c.in-Err.ensures.err).same_consumer_node

pub returns-in-Ok-perform-clause-unstaged : goal.returns-in-Ok-perform-clause-unstaged
returns-in-Ok-perform-clause-unstaged c at_once =
    let old = c.new-report.result in
    let pair = agreement_of c.args.provider_node.now.provider c.args.consumer_node.now old.lineage in
    let after = agreement_of c.perform.new.provider c.perform.new.consumer_node old.lineage in
    let no_stages : old.stages ≡ [] = ap (λ (t : Report). t.stages) c.new-report.ensures in
    ap (λ (t : Report). t.stages) c.report.view_is ∙ unstaged c.args.exchange pair after old c.perform.new.out no_stages at_once c.in-Ok-perform.ensures.does
