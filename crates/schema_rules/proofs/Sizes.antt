-- How long values are beside what they weigh, and that each type has a name.
use Rattle.std.proofs.Common.{◌≡◌, ◌≢◌, ℕ, ◌+◌, ◌*◌, ◌≤◌, List, [], ◌∷◌, length, length-append, Some, None, refl, arith}
use Rattle.std.specs.List.{flat_map}
use Rattle.std.proofs.lemmas.List.Sums.{sum_by-cons}
use Rattle.ldap_ber.specs.Canonical.{element}
use Rattle.ldap_ber.proofs.ElementLemmas.{element_size}
use Rattle.schema_rules.specs.Attributes.{values_weight}
use Rattle.schema_rules.specs.Schema.{types, type_named}

-- ---- attributes

-- strings as elements, beside what they weigh with a name that is not empty
pub strings_size : (name : List ℕ) (values : List (List ℕ)) → 1 ≤ length name → length (flat_map (element 4) values) ≤ 6 * values_weight name values
strings_size name [] some = omega arith
strings_size name (value ∷ values) some =
    omega (
      arith,
      length-append (element 4 value) (flat_map (element 4) values),
      element_size 4 value,
      sum_by-cons (λ (v : List ℕ). length name + length v) value values,
      strings_size name values some,
    )

-- one value weighs the name
pub name_weight : (name : List ℕ) (values : List (List ℕ)) → values ≢ [] → length name ≤ values_weight name values
name_weight name [] some = absurd (some refl)
name_weight name (value ∷ values) some = omega (arith, sum_by-cons (λ (v : List ℕ). length name + length v) value values)

-- ---- names of types

no_empty_type : type_named [] ≡ None
unfolding types type_named
no_empty_type = refl

-- a name by which a type is found is not empty
pub found_named : (name : List ℕ) (kind : ℕ) → type_named name ≡ Some kind → 1 ≤ length name
found_named [] kind found = absurd (let none = no_empty_type in cc)
found_named (c ∷ name) kind found = omega arith
