-- The keys of numbers.
use Rattle.std.proofs.Common.{◌≡◌, ℕ, Bool, true, false, ◌&&◌, List, Some, refl, subst}
use Rattle.text_keys.specs.Integer.{is_integer, integer_of, has_64_bits, integer_key}
use Rattle.text_keys.specs.Own.{own_key}
use Rattle.schema_rules.specs.Keys.{key_of}
use Rattle.schema_rules.specs.Schema.{type_rule}
use Rattle.schema_rules.specs.declared.types.Rule.TheVariants.{Whole}

own_key_same : (b : Bool) (value key : List ℕ) → own_key b value ≡ Some key → (b ≡ true) × (value ≡ key)
own_key_same true value key has = (refl, cc)
own_key_same false value key has = absurd cc

integer_key_is : (value key : List ℕ) → integer_key value ≡ Some key → (is_integer key && has_64_bits (integer_of key)) ≡ true
unfolding integer_key
integer_key_is value key has =
    let own = own_key_same (is_integer value && has_64_bits (integer_of value)) value key has in
    subst (λ (k : List ℕ). (is_integer k && has_64_bits (integer_of k)) ≡ true) own.1 own.0

-- the key of a number is the text of an integer of 64 bits
pub number_key : (kind : ℕ) (value key : List ℕ) → key_of kind value ≡ Some key → type_rule kind ≡ Whole
    → (is_integer key && has_64_bits (integer_of key)) ≡ true
unfolding key_of
number_key kind value key has whole = integer_key_is value key (rw whole at has)
