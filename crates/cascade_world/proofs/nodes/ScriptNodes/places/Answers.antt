use Rattle.std.proofs.Common.{get_or, ap, ◌∙◌, refl, sym}
use Rattle.cascade_world.specs.World.{WorldState}
use Rattle.cascade_world.proofs.Steps.{no_consumer_node, no_provider, are_places}
use Rattle.cascade_world.proofs.nodes.ScriptNodes.places.Goals as goal

pub returns-in_default-clause-fault : goal.returns-in_default-clause-fault
returns-in_default-clause-fault c = (refl, no_consumer_node c.args.self.now c.args.name.now (sym c.in_default.ensures))

pub returns-in-Some-provider_node_place-clause-ok : goal.returns-in-Some-provider_node_place-clause-ok
returns-in-Some-provider_node_place-clause-ok c =
    let is = c.index.ensures ∙ ap (λ (s : WorldState). get_or s.consumer_nodes c.in-Some.consumer_node c.index.result.now) c.self.view_is in
    are_places c.args.self.now c.args.name.now c.in-Some-provider_node_place.provider_node c.in-Some.consumer_node c.index.result.now (sym c.in-Some.ensures) is (sym c.in-Some-provider_node_place.ensures)

pub returns-in-None-clause-fault : goal.returns-in-None-clause-fault
returns-in-None-clause-fault c =
    let is = c.index.ensures ∙ ap (λ (s : WorldState). get_or s.consumer_nodes c.in-Some.consumer_node c.index.result.now) c.self.view_is in
    (refl, no_provider c.args.self.now c.args.name.now c.in-Some.consumer_node c.index.result.now (sym c.in-Some.ensures) is (sym c.in-None.ensures))
