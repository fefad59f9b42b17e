-- Values that are seen to have a key.
use Rattle.std.proofs.Common.{◌≡◌, ℕ, suc, Bool, true, false, if◌then◌else◌, nat_lt, List, [], ◌∷◌, Option, Some, None, is_some, IsAscii, refl, ap, sym, ◌∙◌}
use Rattle.std.specs.Option.{option_map_or}
use Rattle.std.specs.Str.{bytes_eq, str_eq_ignore_ascii_case, str_to_ascii_lowercase}
use Rattle.std.proofs.lemmas.Bool.{and_from, lt-ltb}
use Rattle.text_keys.specs.Text.{ignore_case_key, exact_key}
use Rattle.schema_rules.specs.declared.types.Rule.{Rule}
use Rattle.schema_rules.specs.declared.types.Rule.TheVariants.{Class, FoldedAscii, ExactAscii}
use Rattle.schema_rules.specs.Schema.{type_rule, class_named}
use Rattle.schema_rules.specs.Keys.{has_key, is_ascii, key_by, key_of}
use Rattle.schema_rules.proofs.Names.{other_small}

-- a value has a key of its type where it has one by the type's rule
pub key_of-rule : (kind : ℕ) (rule : Rule) (value : List ℕ) → type_rule kind ≡ rule → is_some (key_by rule value) ≡ true → is_some (key_of kind value) ≡ true
unfolding key_of
key_of-rule kind rule value same has = ap (λ r. is_some (key_by r value)) same ∙ has

is_ascii-from : (bytes : List ℕ) → IsAscii bytes → is_ascii bytes ≡ true
is_ascii-from [] ascii = refl
is_ascii-from (b ∷ bs) ascii = and_from (nat_lt b 128) (is_ascii bs) (lt-ltb b 128 (ascii 0)) (is_ascii-from bs (λ i. ascii (suc i)))

-- the name of a class, in ASCII text by the key of its case or of no case
pub key_by-class : (value : List ℕ) → is_some (class_named value) ≡ true → is_some (key_by Class value) ≡ true
key_by-class value found = rw found refl

-- a value in ASCII that has a key where case is ignored has one by the rule for ASCII
pub key_by-folded_ascii : (value : List ℕ) → IsAscii value → is_some (ignore_case_key value) ≡ true → is_some (key_by FoldedAscii value) ≡ true
key_by-folded_ascii value ascii has = rw (is_ascii-from value ascii) has

-- so it has where case counts
pub key_by-exact_ascii : (value : List ℕ) → IsAscii value → is_some (exact_key value) ≡ true → is_some (key_by ExactAscii value) ≡ true
key_by-exact_ascii value ascii has = rw (is_ascii-from value ascii) has

-- a value has the key of its type that it has by the type's rule
pub key_of-by : (kind : ℕ) (rule : Rule) (value key : List ℕ) → type_rule kind ≡ rule → key_by rule value ≡ Some key → key_of kind value ≡ Some key
unfolding key_of
key_of-by kind rule value key same has = ap (λ r. key_by r value) same ∙ has

-- a value in ASCII that is its own key where case is ignored is so by the rule for ASCII
pub own_key-folded_ascii : (value : List ℕ) → IsAscii value → ignore_case_key value ≡ Some value → key_by FoldedAscii value ≡ Some value
own_key-folded_ascii value ascii own = rw (is_ascii-from value ascii) own

-- so it is where case counts
pub own_key-exact_ascii : (value : List ℕ) → IsAscii value → exact_key value ≡ Some value → key_by ExactAscii value ≡ Some value
own_key-exact_ascii value ascii own = rw (is_ascii-from value ascii) own

-- a value that is its own key has a key where the two are the same
pub has_key-own : (kind : ℕ) (key value : List ℕ) → key_of kind value ≡ Some value → bytes_eq key value ≡ has_key kind key value
has_key-own kind key value own = ap (λ (found : Option (List ℕ)). option_map_or (λ k. bytes_eq key k) found false) (sym own)

other_name : (named : Bool) (key value : List ℕ) → str_eq_ignore_ascii_case key value ≡ false
    → option_map_or (λ own. bytes_eq key own) (if named then Some (str_to_ascii_lowercase value) else None) false ≡ false
other_name true key value other = other_small key value other
other_name false key value other = refl

-- a value of a type whose values are names of classes has no key that is another name
pub has_key-other_class : (kind : ℕ) (key value : List ℕ) → type_rule kind ≡ Class → str_eq_ignore_ascii_case key value ≡ false → has_key kind key value ≡ false
unfolding key_of
has_key-other_class kind key value same other =
    ap (λ (rule : Rule). option_map_or (λ own. bytes_eq key own) (key_by rule value) false) same ∙ other_name (is_some (class_named value)) key value other
