-- What nodes hold.
use Rattle.std.specs.Prelude.{◌≡◌, ℕ, ◌+◌, Bool, List, [], ◌∷◌, ◌++◌, length, if◌then◌else◌, Option, None, Some, Result, IfOk, OnOk, OnErr}
use Rattle.std.specs.BTreeMap.{insert_entry}
use Rattle.std.specs.List.Sorted.{IsStrictlySortedBy}
use Rattle.std.specs.Map.{keys_of}
use Rattle.std.specs.declared.cmp.Ordering.{Ordering}
use Rattle.shared_map.specs.declared.nodes.Nodes.{Nodes}
use Rattle.shared_map.specs.declared.nodes.Nodes.TheVariants.{Nothing, Fork'}
use Rattle.shared_map.specs.declared.nodes.Node.{Node}
use Rattle.shared_map.specs.declared.nodes.MapPair.{MapPair}

-- the key and the value of a pair that is shared
abbrev pub pair_of : {K V : Type 0} → MapPair K V → K × V
pair_of pair = (pair.key.value, pair.value.value)

-- the pairs in their order: those of lower keys, the node's own, and those of higher keys
abbrev pub pairs : {K V : Type 0} → Nodes K V → List (K × V)
pairs Nothing = []
pairs (Fork' height p lower pair higher) = pairs lower ++ pair_of pair ∷ pairs higher

-- the pairs of a node
abbrev pub pairs_of : {K V : Type 0} → Node K V → List (K × V)
pairs_of node = pairs node.lower ++ pair_of node.pair ∷ pairs node.higher

-- the pairs of a node but for its own
abbrev pub pairs_beside : {K V : Type 0} → Node K V → List (K × V)
pairs_beside node = pairs node.lower ++ pairs node.higher

-- the pairs of the nodes, where there are such, or else these
abbrev pub pairs_or : {K V : Type 0} → Option (Nodes K V) → List (K × V) → List (K × V)
pairs_or None before = before
pairs_or (Some nodes) before = pairs nodes

-- how many pairs there are after one is put in, whose key is new or was there; and before one is
-- taken out, which was there or not
abbrev pub count_with : Bool → ℕ → ℕ
count_with is_new count = if is_new then count + 1 else count

-- what becomes of pairs among which one is put in: where their keys ascend, its value stands at its
-- key; there is one more where its key is new; and where memory runs out, all are as before
pub record InsertsPair {K V E : Type 0} (cmp : K → K → Ordering) (pair : MapPair K V)
    (before after : List (K × V)) (answer : Result Bool E) : Type 0 where
  pub ok : IsStrictlySortedBy cmp (keys_of before) → OnOk answer
      (after ≡ insert_entry cmp before pair.key.value pair.value.value)
  pub count : IfOk answer (λ is_new. length after ≡ count_with is_new (length before))
  pub err : OnErr answer (after ≡ before)
