use Rattle.std.proofs.Common.{◌∙◌, ap}
use Rattle.entry_tree.specs.Selection.{search_of}
use Rattle.sync_consumer.specs.Taking.{ConsumerState}
use Rattle.sync_wire.specs.Requesting.{persists}
use Rattle.cascade_exchange.proofs.Openings.{opens_idle, refused_as}
use Rattle.cascade_exchange.proofs.Others.{opened_others, idle_anyhow}
use Rattle.cascade_exchange.proofs.opening.open_idle.Goals as goal

pub returns-in_ok-opened-in-Opened-clause-does : goal.returns-in_ok-opened-in-Opened-clause-does
returns-in_ok-opened-in-Opened-clause-does c =
    opens_idle c.args.out.now.lineage c.args.mode c.args.provider.now c.accept.new.self c.args.consumer_node.now c.asked.new.consumer_node (search_of c.in_ok-wanted.wanted) c.in_ok-control.control c.in-Opened.number c.in-Opened.writes _ _ c.in_ok-control.ensures.ok
    (c.in_ok-wanted.ensures ∙ c.spec.ensures ∙ ap (λ (k : ConsumerState). k.spec) c.inner.ensures) c.in_ok-control.ensures.value c.in-Opened.ensures.answer c.in-Opened.ensures.state (rw c.as_slice.ensures at c.in_ok-opened-in-Opened.ensures.line (persists c.args.mode))

pub returns-in-Refused-clause-does : goal.returns-in-Refused-clause-does
returns-in-Refused-clause-does c =
    refused_as c.args.out.now.lineage c.args.mode c.args.provider.now c.accept.new.self c.args.consumer_node.now c.asked.new.consumer_node c.refuse.new.consumer_node (search_of c.in_ok-wanted.wanted) c.in_ok-control.control c.in-Refused.code _ _ c.refuse.result
    c.in_ok-control.ensures.ok (c.in_ok-wanted.ensures ∙ c.spec.ensures ∙ ap (λ (k : ConsumerState). k.spec) c.inner.ensures) c.in_ok-control.ensures.value c.in-Refused.ensures.answer c.in-Refused.ensures.state c.refuse.ensures.refuses

pub returns-in_ok-opened-in-Opened-clause-provider : goal.returns-in_ok-opened-in-Opened-clause-provider
returns-in_ok-opened-in-Opened-clause-provider c =
    opened_others c.args.provider.now c.accept.new.self (search_of c.in_ok-wanted.wanted) c.in_ok-control.control c.in-Opened.number c.in-Opened.writes c.args.consumer_node.now.search c.in-Opened.ensures.answer c.in-Opened.ensures.state c.requires.idle

pub returns-in_err-opened-in-Opened-clause-provider : goal.returns-in_err-opened-in-Opened-clause-provider
returns-in_err-opened-in-Opened-clause-provider c =
    opened_others c.args.provider.now c.accept.new.self (search_of c.in_ok-wanted.wanted) c.in_ok-control.control c.in-Opened.number c.in-Opened.writes c.args.consumer_node.now.search c.in-Opened.ensures.answer c.in-Opened.ensures.state c.requires.idle

pub returns-in-Refused-clause-idle : goal.returns-in-Refused-clause-idle
returns-in-Refused-clause-idle c =
    idle_anyhow c.refuse.result c.refuse.new.consumer_node.search (c.refuse.ensures.search ∙ c.in_ok-control.ensures.search ∙ c.requires.idle)
