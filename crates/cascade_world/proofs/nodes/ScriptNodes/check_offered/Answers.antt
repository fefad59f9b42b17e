use Rattle.std.proofs.Common.{get_or, ap, sym, ◌∙◌}
use Rattle.entry_tree.specs.Selection.{search_of}
use Rattle.cascade_world.specs.World.{WorldState}
use Rattle.cascade_world.proofs.Pointing.{respec_outside, respec_inside}
use Rattle.cascade_world.proofs.nodes.ScriptNodes.check_offered.Goals as goal

pub returns-then-not-offers-clause-fault : goal.returns-then-not-offers-clause-fault
returns-then-not-offers-clause-fault c =
    let r = c.index.result.now in
    let is = c.index.ensures ∙ ap (λ (s : WorldState). get_or s.provider_nodes c.in_ok-provider_node.provider_node r) c.self.view_is in
    respec_outside c.args.self.now c.args.name.now (search_of c.args.wanted.now) c.in_ok-provider_node.provider_node _ r c.in_ok-provider_node.ensures.ok is (sym c.offers.ensures ∙ c.if-not-offers.true)

pub returns-clause-ok : goal.returns-clause-ok
returns-clause-ok c =
    let r = c.index.result.now in
    let is = c.index.ensures ∙ ap (λ (s : WorldState). get_or s.provider_nodes c.in_ok-provider_node.provider_node r) c.self.view_is in
    respec_inside c.args.self.now c.args.name.now (search_of c.args.wanted.now) c.in_ok-provider_node.provider_node _ r c.in_ok-provider_node.ensures.ok is (sym c.offers.ensures ∙ c.if-not-offers.false)
