-- Consumers that are declared.
use Rattle.std.proofs.Common.{◌≡◌, ◌<◌, ◌≤◌, ℕ, true, false, Some, None, List, [], get_or, refl, ap, sym, subst, ◌∙◌, arith}
use Rattle.std.proofs.lemmas.Bool.Decides.{nat_tests}
use Rattle.std.specs.Prelude.{Ok, Err, position, nat_le}
use Rattle.entry_tree.specs.Selection.{Search}
use Rattle.entry_tree.proofs.Replacing.{find_no_place}
use Rattle.cascade_script.specs.declared.fault.Cause.TheVariants.{NameTaken, UnknownNode, OutsideSuffix, LimitReached}
use Rattle.cascade_nodes.specs.declared.node.ProviderNode.{ProviderNode}
use Rattle.cascade_exchange.specs.Cookies.{most_nodes}
use Rattle.cascade_world.specs.World.{WorldState, IsStep, is_provider_node, has_node, provider_node_named, where_room, is_offered, follow, declare_consumer_node}
use Rattle.cascade_world.proofs.Places.{found_at}

-- a name that another node has is refused
pub taken : (state : WorldState) (name source : List ℕ) (search : Search) (after : WorldState) → has_node name state ≡ true → declare_consumer_node state name source search after ≡ Err NameTaken
taken state name source search after there = rw there refl

by_source : (state : WorldState) (name source : List ℕ) (search : Search) (after : WorldState) → has_node name state ≡ false → declare_consumer_node state name source search after ≡ follow state search after (provider_node_named source state)
by_source state name source search after new = rw new refl

-- a source that is no node is unknown
pub no_source : (state : WorldState) (name source : List ℕ) (search : Search) (after : WorldState) → has_node name state ≡ false → position (is_provider_node source) state.provider_nodes ≡ None → declare_consumer_node state name source search after ≡ Err UnknownNode
no_source state name source search after new none = by_source state name source search after new ∙ ap (follow state search after) (find_no_place (is_provider_node source) state.provider_nodes none)

-- what is wanted outside the suffix of the source is refused
pub outside : (state : WorldState) (name source : List ℕ) (search : Search) (after : WorldState) (i : ℕ) (r : ProviderNode) → has_node name state ≡ false → position (is_provider_node source) state.provider_nodes ≡ Some i → r ≡ get_or state.provider_nodes i r
    → is_offered search r ≡ false → declare_consumer_node state name source search after ≡ Err OutsideSuffix
outside state name source search after i r new e is out =
    by_source state name source search after new ∙ ap (follow state search after) (found_at (is_provider_node source) state.provider_nodes i r e is) ∙ rw out refl

inside : (state : WorldState) (name source : List ℕ) (search : Search) (after : WorldState) (i : ℕ) (r : ProviderNode) → has_node name state ≡ false → position (is_provider_node source) state.provider_nodes ≡ Some i → r ≡ get_or state.provider_nodes i r
    → is_offered search r ≡ true → declare_consumer_node state name source search after ≡ where_room state after
inside state name source search after i r new e is within =
    by_source state name source search after new ∙ ap (follow state search after) (found_at (is_provider_node source) state.provider_nodes i r e is) ∙ rw within refl

-- a node after the most that there may be passes the limit
pub no_room : (state : WorldState) (name source : List ℕ) (search : Search) (after : WorldState) (i : ℕ) (r : ProviderNode) → has_node name state ≡ false → position (is_provider_node source) state.provider_nodes ≡ Some i → r ≡ get_or state.provider_nodes i r
    → is_offered search r ≡ true → most_nodes ≤ state.nodes → declare_consumer_node state name source search after ≡ Err (LimitReached most_nodes)
no_room state name source search after i r new e is within full =
    let over : nat_le most_nodes state.nodes ≡ true = grind (arith, nat_tests) in inside state name source search after i r new e is within ∙ rw over refl

-- a consumer with a free name, a source and room is declared
pub followed : (state : WorldState) (name source : List ℕ) (search : Search) (after : WorldState) (i : ℕ) (r : ProviderNode) → has_node name state ≡ false → position (is_provider_node source) state.provider_nodes ≡ Some i → r ≡ get_or state.provider_nodes i r
    → is_offered search r ≡ true → state.nodes < most_nodes → declare_consumer_node state name source search after ≡ Ok (after, [])
followed state name source search after i r new e is within room =
    let under : nat_le most_nodes state.nodes ≡ false = grind (arith, nat_tests) in inside state name source search after i r new e is within ∙ rw under refl

-- a node that may be declared is there then
pub declared : (state after new : WorldState) (name source : List ℕ) (search : Search) (text : List ℕ) → ((after : WorldState) → declare_consumer_node state name source search after ≡ Ok (after, [])) → new ≡ after → text ≡ []
    → IsStep (declare_consumer_node state name source search after) new text
declared state after new name source search text ok same none = subst (λ step. IsStep step new text) (sym (ok after)) (same, none)
