-- Keys of fewer than two values.
use Rattle.std.proofs.Common.{◌≡◌, ℕ, ◌<◌, false, List, [], ◌∷◌, length, Option, None, Some, refl, arith}
use Rattle.std.specs.List.{cons_option}
use Rattle.schema_rules.specs.Attributes.{has_duplicates}
use Rattle.schema_rules.specs.Keys.{key_of, keys_of}

one_key : (key : Option (List ℕ)) → has_duplicates (cons_option key []) ≡ false
one_key None = refl
one_key (Some key) = refl

-- no key comes twice
pub few_apart : (kind : ℕ) (values : List (List ℕ)) → length values < 2 → has_duplicates (keys_of kind values) ≡ false
few_apart kind [] few = refl
few_apart kind (v ∷ []) few = one_key (key_of kind v)
few_apart kind (v ∷ w ∷ values) few = absurd (omega arith)
