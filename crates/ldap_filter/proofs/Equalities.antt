-- What an equality that is True says of the attributes: a value of its type has the key of its value.
use Rattle.std.proofs.Common.{◌≡◌, ℕ, Bool, true, false, cond, List, Option, Some, None, refl}
use Rattle.std.specs.Prelude.{option_map}
use Rattle.std.specs.Option.{option_and_then}
use Rattle.std.proofs.lemmas.Bool.{false≢true}
use Rattle.schema_rules.specs.declared.attributes.Attribute.{Attribute}
use Rattle.schema_rules.specs.Keys.{key_of}
use Rattle.schema_rules.specs.Schema.{is_operational, type_named}
use Rattle.ldap_filter.specs.FilterTree.{equal}
use Rattle.ldap_filter.specs.Matching.{asked_of, typed_key}
use Rattle.ldap_filter.specs.Truth.{decided, equality, has_keyed, is_true, truth_on}

-- a name has a type, a value a key by its rule, and a value of the type the same
pub record IsMatched (attributes : List Attribute) (name value : List ℕ) : Type 0 where
  pub kind : ℕ
  pub named : type_named name ≡ Some kind
  pub key : List ℕ
  pub keyed : key_of kind value ≡ Some key
  pub some : has_keyed attributes kind key ≡ true

decided_true : (b : Bool) → is_true (decided b) ≡ true → b ≡ true
decided_true true holds = refl
decided_true false never = absurd (false≢true never)

-- an equality that is True has a match
pub equality_matched : (attributes : List Attribute) (name value : List ℕ) → is_true (truth_on attributes (equal name value)) ≡ true → IsMatched attributes name value
equality_matched attributes name value holds = by (type_named name) refl holds
  where
    keyed_by : (kind : ℕ) → type_named name ≡ Some kind → (found : Option (List ℕ)) → key_of kind value ≡ found → is_true (equality attributes (option_map (asked_of kind) found)) ≡ true → IsMatched attributes name value
    keyed_by kind named None none never = absurd (false≢true never)
    keyed_by kind named (Some key) keyed' holds' = record { kind = kind; named = named; key = key; keyed = keyed'; some = decided_true (has_keyed attributes kind key) holds' }

    asked : (kind : ℕ) → type_named name ≡ Some kind → (b : Bool) → is_true (equality attributes (option_and_then (typed_key value) (cond b None (Some kind)))) ≡ true → IsMatched attributes name value
    asked kind named true never = absurd (false≢true never)
    asked kind named false holds' = keyed_by kind named (key_of kind value) refl holds'

    by : (found : Option ℕ) → type_named name ≡ found → is_true (equality attributes (option_and_then (typed_key value) (option_and_then (λ k. cond (is_operational k) None (Some k)) found))) ≡ true → IsMatched attributes name value
    by None none never = absurd (false≢true never)
    by (Some kind) named holds' = asked kind named (is_operational kind) holds'
