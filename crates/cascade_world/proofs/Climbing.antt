-- The providers above a node, up to one that gets its content from none.
use Rattle.std.proofs.Common.{◌≡◌, ◌⊎◌, ◌+◌, ◌≤◌, ℕ, zero, suc, false, Option, Some, None, List, [], ◌∷◌, length, refl, ap, sym, subst, ◌∙◌, inl, inr, arith}
use Rattle.std.specs.Prelude.{find, filter, not, option_map}
use Rattle.std.specs.Str.{bytes_eq}
use Rattle.std.proofs.lemmas.Bool.{cases_Bool, or_parts}
use Rattle.cascade_nodes.specs.declared.node.ConsumerNode.{ConsumerNode}
use Rattle.cascade_nodes.specs.Nodes.{is_consumer_node, source_of, top_above, top_within, holds_above, is_fed_within}
use Rattle.entry_tree.proofs.NameKeys.{same_bytes}

-- from this name up, each of these is the provider of the one before it, and the last one has none
abbrev pub Climbs : List ConsumerNode → List ℕ → List (List ℕ) → List ℕ → Type 0
Climbs consumer_nodes name [] top = (top ≡ name) × (source_of consumer_nodes name ≡ None)
Climbs consumer_nodes name (next ∷ path) top = (source_of consumer_nodes name ≡ Some next) × Climbs consumer_nodes next path top

-- none of these is that name
abbrev pub Avoids : List ℕ → List (List ℕ) → Type 0
Avoids name [] = Unit {0}
Avoids name (other ∷ others) = (bytes_eq other name ≡ false) × Avoids name others

abbrev pub ClimbsFrom : List ConsumerNode → List ℕ → Type 0
ClimbsFrom consumer_nodes name = (path : List (List ℕ)) × (top : List ℕ) × Climbs consumer_nodes name path top

-- no node stands above itself
abbrev pub AllClimb : List ConsumerNode → Type 0
AllClimb consumer_nodes = (name : List ℕ) → ClimbsFrom consumer_nodes name

-- who gets its content from a provider is a consumer
pub record IsFound (found : Option ConsumerNode) (next : List ℕ) : Type 0 where
  pub consumer_node : ConsumerNode
  pub there : found ≡ Some consumer_node
  pub source : consumer_node.source ≡ next

-- the source of a consumer node that is found
pub found_above : (found : Option ConsumerNode) (next : List ℕ) → option_map (λ (f : ConsumerNode). f.source) found ≡ Some next → IsFound found next
found_above None next e = let never : ⊥ = cc in absurd never
found_above (Some f) next e = record { consumer_node = f; there = refl; source = cc }

-- ---- one way up

one_way : (consumer_nodes : List ConsumerNode) (name : List ℕ) (path other : List (List ℕ)) (top end : List ℕ) → Climbs consumer_nodes name path top → Climbs consumer_nodes name other end → path ≡ other
one_way consumer_nodes name [] [] top end c d = refl
one_way consumer_nodes name [] (n ∷ other) top end c d = let bad : None ≡ Some n = sym c.1 ∙ d.0 in let never : ⊥ = cc in absurd never
one_way consumer_nodes name (n ∷ path) [] top end c d = let bad : None ≡ Some n = sym d.1 ∙ c.0 in let never : ⊥ = cc in absurd never
one_way consumer_nodes name (n ∷ path) (m ∷ other) top end c d =
    let both : Some n ≡ Some m = sym c.0 ∙ d.0 in
    let same : n ≡ m = cc in
    let rest : path ≡ other = one_way consumer_nodes n path other top end c.1 (subst (λ x. Climbs consumer_nodes x other end) (sym same) d.1) in
    ap (λ x. x ∷ path) same ∙ ap (λ xs. m ∷ xs) rest

-- a way up from a name that is met on it
record IsMet (consumer_nodes : List ConsumerNode) (name : List ℕ) (path : List (List ℕ)) (top : List ℕ) : Type 0 where
  later : List (List ℕ)
  short : length later ≤ length path
  climbs : Climbs consumer_nodes name later top

meets : (consumer_nodes : List ConsumerNode) (name node : List ℕ) (path : List (List ℕ)) (top : List ℕ) → Climbs consumer_nodes node path top → Avoids name (node ∷ path) ⊎ IsMet consumer_nodes name path top
meets consumer_nodes name node [] top c =
    elim (cases_Bool (bytes_eq node name)) [
      | inl hit ↦ inr record { later = []; short = omega arith; climbs = subst (λ x. Climbs consumer_nodes x [] top) (same_bytes node name hit) c }
      | inr miss ↦ inl (miss, tt)
    ]
meets consumer_nodes name node (next ∷ path) top c =
    elim (cases_Bool (bytes_eq node name)) [
      | inl hit ↦ inr record { later = next ∷ path; short = omega arith; climbs = subst (λ x. Climbs consumer_nodes x (next ∷ path) top) (same_bytes node name hit) c }
      | inr miss ↦ by miss (meets consumer_nodes name next path top c.1)
    ]
  where
    by : bytes_eq node name ≡ false → Avoids name (next ∷ path) ⊎ IsMet consumer_nodes name path top → Avoids name (node ∷ next ∷ path) ⊎ IsMet consumer_nodes name (next ∷ path) top
    by miss (inl free) = inl (miss, free)
    by miss (inr met) = inr record { later = met.later; short = omega (arith, met.short); climbs = met.climbs }

-- what stands above a node is not the node
pub above_is_other : (consumer_nodes : List ConsumerNode) (name next : List ℕ) (path : List (List ℕ)) (top : List ℕ) → Climbs consumer_nodes name (next ∷ path) top → Avoids name (next ∷ path)
above_is_other consumer_nodes name next path top c = by (meets consumer_nodes name next path top c.1)
  where
    by : Avoids name (next ∷ path) ⊎ IsMet consumer_nodes name path top → Avoids name (next ∷ path)
    by (inl free) = free
    by (inr met) =
        let same : next ∷ path ≡ met.later = one_way consumer_nodes name (next ∷ path) met.later top top c met.climbs in
        let long : suc (length path) ≡ length met.later = ap length same in
        absurd (omega (arith, long, met.short))

-- ---- no longer than there are consumers

abbrev without : List ℕ → List ConsumerNode → List ConsumerNode
without name consumer_nodes = filter (λ (f : ConsumerNode). not (is_consumer_node name f)) consumer_nodes

fewer : (name : List ℕ) (consumer_nodes : List ConsumerNode) → length (without name consumer_nodes) ≤ length consumer_nodes
fewer name [] = omega arith
fewer name (f ∷ consumer_nodes) =
    let less = fewer name consumer_nodes in
    elim (cases_Bool (is_consumer_node name f)) [
      | inl hit ↦ rw hit (omega (arith, less))
      | inr miss ↦ rw miss (omega (arith, less))
    ]

one_fewer : (name : List ℕ) (consumer_nodes : List ConsumerNode) (g : ConsumerNode) → find (is_consumer_node name) consumer_nodes ≡ Some g → length (without name consumer_nodes) + 1 ≤ length consumer_nodes
one_fewer name [] g e = let never : ⊥ = cc in absurd never
one_fewer name (f ∷ consumer_nodes) g e =
    elim (cases_Bool (is_consumer_node name f)) [
      | inl hit ↦ let less = fewer name consumer_nodes in rw hit (omega (arith, less))
      | inr miss ↦
          let e' : find (is_consumer_node name) consumer_nodes ≡ Some g = rw miss at e in
          let less = one_fewer name consumer_nodes g e' in
          rw miss (omega (arith, less))
    ]

without_other : (name other : List ℕ) (consumer_nodes : List ConsumerNode) → bytes_eq other name ≡ false → find (is_consumer_node other) (without name consumer_nodes) ≡ find (is_consumer_node other) consumer_nodes
without_other name other [] apart = refl
without_other name other (f ∷ consumer_nodes) apart =
    elim (cases_Bool (is_consumer_node name f)) [
      | inl hit ↦
          let miss : is_consumer_node other f ≡ false = ap (bytes_eq other) (sym (same_bytes name f.name hit)) ∙ apart in
          rw hit (rw miss (without_other name other consumer_nodes apart))
      | inr out ↦
          rw out (
          elim (cases_Bool (is_consumer_node other f)) [
            | inl picked ↦ rw picked refl
            | inr passed ↦ rw passed (without_other name other consumer_nodes apart)
          ]
          )
    ]

climbs_without : (consumer_nodes : List ConsumerNode) (name node : List ℕ) (path : List (List ℕ)) (top : List ℕ) → Climbs consumer_nodes node path top → Avoids name (node ∷ path) → Climbs (without name consumer_nodes) node path top
climbs_without consumer_nodes name node [] top c free = (c.0, ap (option_map (λ (f : ConsumerNode). f.source)) (without_other name node consumer_nodes free.0) ∙ c.1)
climbs_without consumer_nodes name node (next ∷ path) top c free =
    (ap (option_map (λ (f : ConsumerNode). f.source)) (without_other name node consumer_nodes free.0) ∙ c.0, climbs_without consumer_nodes name next path top c.1 free.1)

-- a path upwards has no more nodes than there are consumer nodes
pub few_above : (path : List (List ℕ)) (consumer_nodes : List ConsumerNode) (name top : List ℕ) → Climbs consumer_nodes name path top → length path ≤ length consumer_nodes
few_above [] consumer_nodes name top c = omega arith
few_above (next ∷ path) consumer_nodes name top c =
    let free = above_is_other consumer_nodes name next path top c in
    let rest = few_above path (without name consumer_nodes) next top (climbs_without consumer_nodes name next path top c.1 free) in
    let is = found_above (find (is_consumer_node name) consumer_nodes) next c.0 in
    let less = one_fewer name consumer_nodes is.consumer_node is.there in
    omega (arith, rest, less)

-- ---- by steps

-- the top of the path is the top of the node
pub top_is : (steps : ℕ) (consumer_nodes : List ConsumerNode) (name : List ℕ) (path : List (List ℕ)) (top : List ℕ) → Climbs consumer_nodes name path top → length path ≤ steps → top_within steps consumer_nodes name ≡ top
top_is zero consumer_nodes name [] top c low = sym c.0
top_is zero consumer_nodes name (next ∷ path) top c low = absurd (omega (arith, low))
top_is (suc steps) consumer_nodes name [] top c low = ap (top_above (λ source. top_within steps consumer_nodes source) name) c.1 ∙ sym c.0
top_is (suc steps) consumer_nodes name (next ∷ path) top c low =
    ap (top_above (λ source. top_within steps consumer_nodes source) name) c.0 ∙ top_is steps consumer_nodes next path top c.1 (omega (arith, low))

-- a node that does not get its content from another one meets it nowhere
pub unfed : (steps : ℕ) (consumer_nodes : List ConsumerNode) (other name : List ℕ) (path : List (List ℕ)) (top : List ℕ) → Climbs consumer_nodes name path top → length path ≤ steps → is_fed_within steps consumer_nodes other name ≡ false
    → Avoids other (name ∷ path)
unfed zero consumer_nodes other name [] top c low not_fed = (not_fed, tt)
unfed zero consumer_nodes other name (next ∷ path) top c low not_fed = absurd (omega (arith, low))
unfed (suc steps) consumer_nodes other name [] top c low not_fed =
    let parts = or_parts (bytes_eq name other) (holds_above (λ source. is_fed_within steps consumer_nodes other source) (source_of consumer_nodes name)) not_fed in (parts.0, tt)
unfed (suc steps) consumer_nodes other name (next ∷ path) top c low not_fed =
    let parts = or_parts (bytes_eq name other) (holds_above (λ source. is_fed_within steps consumer_nodes other source) (source_of consumer_nodes name)) not_fed in
    let on : is_fed_within steps consumer_nodes other next ≡ false = ap (holds_above (λ source. is_fed_within steps consumer_nodes other source)) (sym c.0) ∙ parts.1 in
    (parts.0, unfed steps consumer_nodes other next path top c.1 (omega (arith, low)) on)

-- ---- other consumers

-- a path upwards stays where all sources stay
pub climbs_same : (old new : List ConsumerNode) → ((name : List ℕ) → source_of new name ≡ source_of old name) → (name : List ℕ) (path : List (List ℕ)) (top : List ℕ) → Climbs old name path top → Climbs new name path top
climbs_same old new same name [] top c = (c.0, same name ∙ c.1)
climbs_same old new same name (next ∷ path) top c = (same name ∙ c.0, climbs_same old new same next path top c.1)

-- all paths upwards stay where all sources stay
pub all_climb_same : (old new : List ConsumerNode) → ((name : List ℕ) → source_of new name ≡ source_of old name) → AllClimb old → AllClimb new
all_climb_same old new same climbs name = let c = climbs name in (c.0, c.1, climbs_same old new same name c.0 c.1 c.2)

-- one node gets its content from that provider now
pub record IsRerouted (old new : List ConsumerNode) (name source : List ℕ) : Type 0 where
  pub here : source_of new name ≡ Some source
  pub others : (other : List ℕ) → bytes_eq other name ≡ false → source_of new other ≡ source_of old other

climbs_still : (old new : List ConsumerNode) (name source : List ℕ) → IsRerouted old new name source → (node : List ℕ) (path : List (List ℕ)) (top : List ℕ) → Climbs old node path top → Avoids name (node ∷ path) → Climbs new node path top
climbs_still old new name source is node [] top c free = (c.0, is.others node free.0 ∙ c.1)
climbs_still old new name source is node (next ∷ path) top c free = (is.others node free.0 ∙ c.0, climbs_still old new name source is next path top c.1 free.1)

rerouted : (old new : List ConsumerNode) (name source : List ℕ) → IsRerouted old new name source → ClimbsFrom new name → (node : List ℕ) (path : List (List ℕ)) (top : List ℕ) → Climbs old node path top → ClimbsFrom new node
rerouted old new name source is from node [] top c =
    elim (cases_Bool (bytes_eq node name)) [
      | inl hit ↦ subst (ClimbsFrom new) (sym (same_bytes node name hit)) from
      | inr miss ↦ ([], top, (c.0, is.others node miss ∙ c.1))
    ]
rerouted old new name source is from node (next ∷ path) top c =
    let rest = rerouted old new name source is from next path top c.1 in
    elim (cases_Bool (bytes_eq node name)) [
      | inl hit ↦ subst (ClimbsFrom new) (sym (same_bytes node name hit)) from
      | inr miss ↦ (next ∷ rest.0, rest.1, (is.others node miss ∙ c.0, rest.2))
    ]

-- no circle is made where the provider does not stand below the node
pub all_climb_rerouted : (old new : List ConsumerNode) (name source : List ℕ) (path : List (List ℕ)) (top : List ℕ) → IsRerouted old new name source → Climbs old source path top → Avoids name (source ∷ path)
    → AllClimb old → AllClimb new
all_climb_rerouted old new name source path top is c free climbs node =
    let from : ClimbsFrom new name = (source ∷ path, top, (is.here, climbs_still old new name source is source path top c free)) in
    let way = climbs node in
    rerouted old new name source is from node way.0 way.1 way.2

-- nobody is its own provider
pub source_apart : (consumer_nodes : List ConsumerNode) (name : List ℕ) (f : ConsumerNode) → AllClimb consumer_nodes → find (is_consumer_node name) consumer_nodes ≡ Some f → bytes_eq f.source name ≡ false
source_apart consumer_nodes name f climbs e = let way = climbs name in by way.0 way.1 way.2
  where
    here : source_of consumer_nodes name ≡ Some f.source
    here = ap (option_map (λ (g : ConsumerNode). g.source)) e

    by : (path : List (List ℕ)) (top : List ℕ) → Climbs consumer_nodes name path top → bytes_eq f.source name ≡ false
    by [] top c = let bad : None ≡ Some f.source = sym c.1 ∙ here in let never : ⊥ = cc in absurd never
    by (next ∷ path) top c =
        let both : Some next ≡ Some f.source = sym c.0 ∙ here in
        let same : next ≡ f.source = cc in
        ap (λ n. bytes_eq n name) (sym same) ∙ (above_is_other consumer_nodes name next path top c).0
