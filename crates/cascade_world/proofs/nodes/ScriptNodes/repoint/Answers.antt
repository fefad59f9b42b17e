use Rattle.std.proofs.Common.{ap, sym, subst, ◌∙◌, ◌<◌, length, arith}
use Rattle.std.proofs.lemmas.Result.{err_from_is_err_and}
use Rattle.sync_consumer.specs.Taking.{ConsumerState}
use Rattle.cascade_exchange.specs.declared.exchange.Exchange.TheVariants.{CutIfBusy}
use Rattle.cascade_world.specs.World.{WorldState, is_offered}
use Rattle.cascade_world.proofs.Pointing.{stand_seen, repoint_unknown, repoint_nowhere, repoint_circle, repoint_outside, repoint_refused, still_within, repointed}
use Rattle.cascade_world.proofs.nodes.ScriptNodes.repoint.Goals as goal

pub returns-in_default-clause-steps : goal.returns-in_default-clause-steps
returns-in_default-clause-steps c = repoint_unknown c.args.self.now c.args.name c.args.source (sym c.in_default.ensures)

pub returns-in_default-provider_node_place-clause-steps : goal.returns-in_default-provider_node_place-clause-steps
returns-in_default-provider_node_place-clause-steps c = repoint_nowhere c.args.self.now c.args.name c.args.source c.in-Some.consumer_node (sym c.in-Some.ensures) (sym c.in_default-provider_node_place.ensures)

pub returns-then-is_fed-clause-steps : goal.returns-then-is_fed-clause-steps
returns-then-is_fed-clause-steps c =
    repoint_circle c.args.self.now c.args.name c.args.source c.in-Some.consumer_node c.in-Some-provider_node_place.provider_node (sym c.in-Some.ensures) (sym c.in-Some-provider_node_place.ensures) (sym c.is_fed.ensures ∙ c.if-is_fed.true)

pub returns-then-not-offers-clause-steps : goal.returns-then-not-offers-clause-steps
returns-then-not-offers-clause-steps c =
    let f = c.index-2.result.now in
    let r = c.index.result.now in
    let stand = stand_seen c.args.self.now _ c.args.name c.args.source c.in-Some.consumer_node c.in-Some-provider_node_place.provider_node f r c.self.view_is (sym c.in-Some.ensures) c.index-2.ensures (sym c.in-Some-provider_node_place.ensures) c.index.ensures in
    repoint_outside c.args.self.now c.args.name c.args.source c.in-Some.consumer_node c.in-Some-provider_node_place.provider_node f r stand (sym c.is_fed.ensures ∙ c.if-is_fed.false)
    (ap (λ s. is_offered s r) (sym (c.spec.ensures ∙ ap (λ (k : ConsumerState). k.spec) c.inner.ensures)) ∙ sym c.offers.ensures ∙ c.if-not-offers.true)

pub returns-in_err-lines-clause-steps : goal.returns-in_err-lines-clause-steps
returns-in_err-lines-clause-steps c =
    let f = c.index-2.result.now in
    let r = c.index.result.now in
    let stand = stand_seen c.args.self.now _ c.args.name c.args.source c.in-Some.consumer_node c.in-Some-provider_node_place.provider_node f r c.self.view_is (sym c.in-Some.ensures) c.index-2.ensures (sym c.in-Some-provider_node_place.ensures) c.index.ensures in
    let within = ap (λ s. is_offered s r) (sym (c.spec.ensures ∙ ap (λ (k : ConsumerState). k.spec) c.inner.ensures)) ∙ sym c.offers.ensures ∙ c.if-not-offers.false in
    let p = err_from_is_err_and c.from_residual.result c.from_residual.ensures.1 in
    rw (p.1, p.2)
    (repoint_refused c.args.self.now c.exchange.new.self c.args.name c.args.source c.in-Some.consumer_node c.in-Some-provider_node_place.provider_node f r c.in_err-lines.field-0.0 stand (sym c.is_fed.ensures ∙ c.if-is_fed.false) within
    c.in_err-lines.ensures.steps)

pub index_mut-requires : goal.index_mut-requires
index_mut-requires c =
    let low = still_within c.args.self.now c.exchange.new.self c.args.name c.in-Some.consumer_node CutIfBusy c.in_ok-lines.lines (sym c.in-Some.ensures) c.in_ok-lines.ensures.steps in
    let low' : c.in-Some.consumer_node < length c.self-2.inside.consumer_nodes.items = subst (λ (s : WorldState). c.in-Some.consumer_node < length s.consumer_nodes) (sym c.self-2.view_is) low in
    omega (arith, c.self-2.inside.consumer_nodes.ok.0)

pub returns-clause-steps : goal.returns-clause-steps
returns-clause-steps c =
    let f = c.index-2.result.now in
    let r = c.index.result.now in
    let stand = stand_seen c.args.self.now _ c.args.name c.args.source c.in-Some.consumer_node c.in-Some-provider_node_place.provider_node f r c.self.view_is (sym c.in-Some.ensures) c.index-2.ensures (sym c.in-Some-provider_node_place.ensures) c.index.ensures in
    let within = ap (λ s. is_offered s r) (sym (c.spec.ensures ∙ ap (λ (k : ConsumerState). k.spec) c.inner.ensures)) ∙ sym c.offers.ensures ∙ c.if-not-offers.false in
    repointed c.args.self.now c.exchange.new.self _ c.args.name c.args.source c.in-Some.consumer_node c.in-Some-provider_node_place.provider_node f c.index_mut.result.now r c.in_ok-lines.lines stand (sym c.is_fed.ensures ∙ c.if-is_fed.false) within
    c.in_ok-lines.ensures.steps c.self-2.view_is c.index_mut.ensures.value
