-- One step up from a node to its provider.
use Rattle.std.proofs.Common.{◌≡◌, ◌-◌, ◌<◌, ℕ, zero, suc, true, false, ◌||◌, Some, None, List, get_or, refl, ap, ◌∙◌, arith}
use Rattle.std.specs.Prelude.{position, option_map}
use Rattle.std.specs.Str.{bytes_eq}
use Rattle.cascade_nodes.specs.declared.node.ConsumerNode.{ConsumerNode}
use Rattle.cascade_nodes.specs.Nodes.{is_consumer_node, source_of, top_above, top_within, holds_above, is_fed_within}
use Rattle.cascade_world.proofs.Places.{found_at}
use Rattle.entry_tree.proofs.Replacing.{find_no_place}

-- ---- the source of a node, by its place

-- the source of a name is that of its consumer node
pub source_at : (consumer_nodes : List ConsumerNode) (name : List ℕ) (i : ℕ) (f : ConsumerNode) → position (is_consumer_node name) consumer_nodes ≡ Some i → f ≡ get_or consumer_nodes i f → source_of consumer_nodes name ≡ Some f.source
source_at consumer_nodes name i f e is = ap (option_map (λ (consumer_node : ConsumerNode). consumer_node.source)) (found_at (is_consumer_node name) consumer_nodes i f e is)

-- a name of no consumer node has no source
pub source_nowhere : (consumer_nodes : List ConsumerNode) (name : List ℕ) → position (is_consumer_node name) consumer_nodes ≡ None → source_of consumer_nodes name ≡ None
source_nowhere consumer_nodes name e = ap (option_map (λ (consumer_node : ConsumerNode). consumer_node.source)) (find_no_place (is_consumer_node name) consumer_nodes e)

-- ---- the top

-- a node without a source is the top
pub top_is : (left : ℕ) (consumer_nodes : List ConsumerNode) (name : List ℕ) → source_of consumer_nodes name ≡ None → top_within left consumer_nodes name ≡ name
top_is zero consumer_nodes name none = refl
top_is (suc steps) consumer_nodes name none = ap (top_above (λ source. top_within steps consumer_nodes source) name) none

-- the top of a node is that of its source
pub top_up : (left : ℕ) (consumer_nodes : List ConsumerNode) (name source : List ℕ) → 0 < left → source_of consumer_nodes name ≡ Some source → top_within left consumer_nodes name ≡ top_within (left - 1) consumer_nodes source
top_up zero consumer_nodes name source some is = absurd (omega arith)
top_up (suc steps) consumer_nodes name source some is =
    let less : steps ≡ suc steps - 1 = omega arith in
    ap (top_above (λ above. top_within steps consumer_nodes above) name) is ∙ ap (λ k. top_within k consumer_nodes source) less

-- ---- who is fed

-- each node feeds itself
pub fed_here : (left : ℕ) (consumer_nodes : List ConsumerNode) (other name : List ℕ) → bytes_eq name other ≡ true → is_fed_within left consumer_nodes other name ≡ true
fed_here zero consumer_nodes other name same = same
fed_here (suc steps) consumer_nodes other name same = ap (λ b. b || holds_above (λ source. is_fed_within steps consumer_nodes other source) (source_of consumer_nodes name)) same

above_other : (steps : ℕ) (consumer_nodes : List ConsumerNode) (other name : List ℕ) → bytes_eq name other ≡ false
    → is_fed_within (suc steps) consumer_nodes other name ≡ holds_above (λ source. is_fed_within steps consumer_nodes other source) (source_of consumer_nodes name)
above_other steps consumer_nodes other name differs = ap (λ b. b || holds_above (λ source. is_fed_within steps consumer_nodes other source) (source_of consumer_nodes name)) differs

-- a node without a source feeds no other one from it
pub fed_nowhere : (left : ℕ) (consumer_nodes : List ConsumerNode) (other name : List ℕ) → bytes_eq name other ≡ false → source_of consumer_nodes name ≡ None → is_fed_within left consumer_nodes other name ≡ false
fed_nowhere zero consumer_nodes other name differs none = differs
fed_nowhere (suc steps) consumer_nodes other name differs none = above_other steps consumer_nodes other name differs ∙ ap (holds_above (λ source. is_fed_within steps consumer_nodes other source)) none

-- a node is fed by another one where its source is
pub fed_up : (left : ℕ) (consumer_nodes : List ConsumerNode) (other name source : List ℕ) → 0 < left → bytes_eq name other ≡ false → source_of consumer_nodes name ≡ Some source
    → is_fed_within left consumer_nodes other name ≡ is_fed_within (left - 1) consumer_nodes other source
fed_up zero consumer_nodes other name source some differs is = absurd (omega arith)
fed_up (suc steps) consumer_nodes other name source some differs is =
    let less : steps ≡ suc steps - 1 = omega arith in
    above_other steps consumer_nodes other name differs ∙ ap (holds_above (λ above. is_fed_within steps consumer_nodes other above)) is ∙ ap (λ k. is_fed_within k consumer_nodes other source) less
