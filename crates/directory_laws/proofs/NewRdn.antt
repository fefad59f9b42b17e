-- A new RDN keeps a list of attributes that a client may give.
use Rattle.std.proofs.Common.{◌≡◌, Bool, true, not, ◌&&◌, List, [], ◌∷◌, fold, refl}
use Rattle.std.specs.List.{list_all}
use Rattle.std.proofs.lemmas.Bool.{and_parts, and_from, cond_both, not_from_false}
use Rattle.schema_rules.specs.declared.attributes.Attribute.{Attribute}
use Rattle.schema_rules.specs.Attributes.{IsAttributeList, is_given, with_values}
use Rattle.schema_rules.specs.Schema.{is_operational}
use Rattle.schema_rules.proofs.Joining.{is_given-with_values}
use Rattle.dn_names.specs.Names.{TypeAndValue}
use Rattle.dn_names.specs.Sound.{has_key, is_rdn}
use Rattle.dn_names.proofs.Equality.{rdn-keyed}
use Rattle.dn_names.proofs.Rereading.{user_type}
use Rattle.entry_tree.specs.Edits.{has_pair_value, with_pair, without_pair, pairs_gone, with_rdn}
use Rattle.entry_tree.proofs.AttributeLists.{IsAttributeList-with_value, IsAttributeList-without_values}
use Rattle.directory_laws.proofs.Given.{given-without_values}

-- each type once, with values that a client may give
pub record IsGivenList (attrs : List Attribute) : Type 0 where
  pub list : IsAttributeList attrs
  pub given : list_all is_given attrs ≡ true

given-pair : (pair : TypeAndValue) → has_key pair ≡ true → is_given (record { kind = pair.kind; values = pair.value ∷ [] }) ≡ true
given-pair pair keyed =
    and_from (not (is_operational pair.kind)) (has_key pair && true) (not_from_false (is_operational pair.kind) (user_type pair.kind pair.value keyed))
    (and_from (has_key pair) true keyed refl)

-- ---- pairs, one after another

IsGivenList-with_pair : (attrs : List Attribute) (pair : TypeAndValue) → has_key pair ≡ true → IsGivenList attrs → IsGivenList (with_pair attrs pair)
IsGivenList-with_pair attrs pair keyed held =
    cond_both (has_pair_value attrs pair) attrs (with_values attrs pair.kind (pair.value ∷ [])) IsGivenList (λ _. held)
    (λ _. record {
      list = IsAttributeList-with_value attrs pair.kind pair.value held.list;
      given = is_given-with_values attrs pair.kind (pair.value ∷ []) held.given (given-pair pair keyed);
    })

IsGivenList-with_pairs : (attrs : List Attribute) (pairs : List TypeAndValue) → list_all has_key pairs ≡ true → IsGivenList attrs → IsGivenList (fold with_pair attrs pairs)
IsGivenList-with_pairs attrs [] keyed held = held
IsGivenList-with_pairs attrs (pair ∷ pairs) keyed held =
    let parts = and_parts (has_key pair) (list_all has_key pairs) keyed in
    IsGivenList-with_pairs (with_pair attrs pair) pairs parts.1 (IsGivenList-with_pair attrs pair parts.0 held)

IsGivenList-without_pairs : (attrs : List Attribute) (pairs : List TypeAndValue) → IsGivenList attrs → IsGivenList (fold without_pair attrs pairs)
IsGivenList-without_pairs attrs [] held = held
IsGivenList-without_pairs attrs (pair ∷ pairs) held =
    IsGivenList-without_pairs (without_pair attrs pair) pairs (record {
      list = IsAttributeList-without_values attrs pair.kind (pair.value ∷ []) held.list;
      given = given-without_values attrs pair.kind (pair.value ∷ []) held.given;
    })

-- attributes with another RDN are those that a client may give
pub IsGivenList-with_rdn : (attrs : List Attribute) (old new : List TypeAndValue) (deletes : Bool) → is_rdn new ≡ true → IsGivenList attrs → IsGivenList (with_rdn attrs old new deletes)
IsGivenList-with_rdn attrs old new deletes sound held =
    let added = IsGivenList-with_pairs attrs new (rdn-keyed new sound) held in
    cond_both deletes (fold without_pair (fold with_pair attrs new) (pairs_gone old new)) (fold with_pair attrs new) IsGivenList
    (λ _. IsGivenList-without_pairs (fold with_pair attrs new) (pairs_gone old new) added) (λ _. added)
