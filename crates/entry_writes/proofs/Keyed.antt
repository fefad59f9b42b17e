-- Whether a key is among those of attributes, by one value after another.
use Rattle.std.proofs.Common.{◌≡◌, ℕ, Bool, true, false, ◌&&◌, ◌||◌, cond, nat_eq, List, [], ◌∷◌, Option, None, Some, refl, sym, ap, ◌∙◌}
use Rattle.std.specs.Prelude.{bytes_eq, filter, flat_map}
use Rattle.std.specs.List.{list_any, cons_option}
use Rattle.std.proofs.lemmas.List.Folds.{list_any-append}
use Rattle.schema_rules.specs.declared.attributes.Attribute.{Attribute}
use Rattle.schema_rules.specs.Keys.{key_of, keys_of}
use Rattle.schema_rules.specs.Schema.{is_among}
use Rattle.dn_names.specs.Names.{TypeAndValue}
use Rattle.entry_writes.specs.Edits.{has_key, holds_key, keys_there, is_key_among, has_pair_value}

-- the key of a value, if it has one, is looked at before the others
one_first : (key : List ℕ) (own : Option (List ℕ)) (others : List (List ℕ)) → is_among key (cons_option own others) ≡ (is_among key (cons_option own []) || is_among key others)
one_first key None others = refl
one_first key (Some k) others = by (bytes_eq k key)
  where
    by : (b : Bool) → (b || is_among key others) ≡ ((b || false) || is_among key others)
    by true = refl
    by false = refl

of_values : (kind : ℕ) (key : List ℕ) (values : List (List ℕ)) → list_any (has_key kind key) values ≡ is_among key (keys_of kind values)
of_values kind key [] = refl
of_values kind key (v ∷ values) =
    ap (λ rest. has_key kind key v || rest) (of_values kind key values) ∙ sym (one_first key (key_of kind v) (keys_of kind values))

of_attributes : (kind : ℕ) (key : List ℕ) (attrs : List Attribute) → list_any (holds_key kind key) attrs ≡ is_among key (keys_there attrs kind)
of_attributes kind key [] = refl
of_attributes kind key (a ∷ attrs) = by (nat_eq a.kind kind) (of_attributes kind key attrs)
  where
    later : List Attribute
    later = filter (λ (x : Attribute). nat_eq x.kind kind) attrs

    by : (b : Bool) → list_any (holds_key kind key) attrs ≡ is_among key (keys_there attrs kind)
        → ((b && list_any (has_key kind key) a.values) || list_any (holds_key kind key) attrs)
        ≡ is_among key (flat_map (λ (x : Attribute). keys_of kind x.values) (cond b (a ∷ later) later))
    by true ih =
        ap (λ own. own || list_any (holds_key kind key) attrs) (of_values kind key a.values)
        ∙ ap (λ rest. is_among key (keys_of kind a.values) || rest) ih
        ∙ sym (list_any-append (λ other. bytes_eq other key) (keys_of kind a.values) (keys_there attrs kind))
    by false ih = ih

-- the value of a pair is there where its key is among those of the attributes
pub has_pair_value-key : (attrs : List Attribute) (pair : TypeAndValue) (key : List ℕ) → key_of pair.kind pair.value ≡ Some key
    → list_any (holds_key pair.kind key) attrs ≡ has_pair_value attrs pair
has_pair_value-key attrs pair key is = of_attributes pair.kind key attrs ∙ ap (is_key_among (keys_there attrs pair.kind)) (sym is)
