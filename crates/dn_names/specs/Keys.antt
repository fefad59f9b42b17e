-- The keys of names: texts that are equal where the names are.
use Rattle.std.specs.Prelude.{ℕ, Bool, nat_lt, List, [], ◌∷◌, ◌++◌, length, map, fold}
use Rattle.std.specs.Ordering.{nat_cmp}
use Rattle.std.specs.List.{flat_map}
use Rattle.std.specs.Cmp.Lexicographic.{slice_cmp}
use Rattle.std.specs.BTreeSet.{insert_key}
use Rattle.schema_rules.specs.Schema.{type_name}
use Rattle.dn_names.specs.Names.{TypeAndValue, pair_key}

-- bytes with a mark before each and another at the end, so that what follows
-- cannot be taken for them
abbrev pub marked : List ℕ → List ℕ
marked [] = 0 ∷ []
marked (b ∷ bs) = 1 ∷ b ∷ marked bs

-- the type's name and the key of the value
abbrev pub pair_mark : TypeAndValue → List ℕ
pair_mark pair = 1 ∷ (marked (type_name pair.kind) ++ marked (pair_key pair))

-- the pairs as a set: in ascending order, and each once
abbrev pub pair_set : List TypeAndValue → List (List ℕ)
pair_set pairs = fold (insert_key (slice_cmp nat_cmp)) [] (map pair_mark pairs)

-- a type stands twice with one key
abbrev pub has_double : List TypeAndValue → Bool
has_double pairs = nat_lt (length (pair_set pairs)) (length pairs)

-- no pair begins as an RDN ends
abbrev pub rdn_key : List TypeAndValue → List ℕ
rdn_key rdn = flat_map (λ text. text) (pair_set rdn) ++ 0 ∷ []

abbrev pub name_key : List (List TypeAndValue) → List ℕ
name_key name = flat_map rdn_key name
