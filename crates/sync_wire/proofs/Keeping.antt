-- What is kept of attributes.
use Rattle.std.proofs.Common.{◌≡◌, ◌≢◌, ℕ, ◌+◌, ◌<◌, Bool, true, false, ◌&&◌, cond, if◌then◌else◌, List, [], ◌∷◌, length, take, get_or, Option, None, Some, is_some, ap, ◌∙◌, refl}
use Rattle.std.specs.List.{filter_map, list_all}
use Rattle.std.specs.Str.{str_to_ascii_lowercase}
use Rattle.schema_rules.specs.declared.attributes.Attribute.{Attribute}
use Rattle.schema_rules.specs.declared.raw.RawAttribute.{RawAttribute}
use Rattle.schema_rules.specs.declared.types.Rule.{Rule}
use Rattle.schema_rules.specs.declared.types.Rule.TheVariants.{Class}
use Rattle.schema_rules.specs.Attributes.{joined, with_values, is_of_syntax}
use Rattle.schema_rules.specs.Keys.{key_by, key_of}
use Rattle.schema_rules.specs.Schema.{type_rule, type_named, is_operational, class_named}
use Rattle.schema_rules.proofs.Lists.{filter_map_some, filter_map_none}
use Rattle.schema_rules.proofs.Joined.{joined-push}
use Rattle.sync_wire.specs.WireEntry.{is_kept_by, kept, kept_of, kept_values, unless_empty, attributes_of}

-- ---- values

-- an option by a test is there exactly where the test holds
pub some_if : (b : Bool) (key : List ℕ) → is_some (if b then Some key else None) ≡ b
some_if true key = refl
some_if false key = refl

kept_by_class : (rule : Rule) (value : List ℕ) → rule ≡ Class → is_some (key_by rule value) ≡ is_kept_by rule value
kept_by_class rule value is_class = rw is_class (some_if (is_some (class_named value)) (str_to_ascii_lowercase value))

alone : (b : Bool) → (b && true) ≡ b
alone true = refl
alone false = refl

-- of a type of object classes a value of its syntax is kept
pub known_class : (kind : ℕ) (value : List ℕ) → type_rule kind ≡ Class → list_all (is_of_syntax kind) (value ∷ []) ≡ is_kept_by (type_rule kind) value
unfolding key_of
known_class kind value is_class = alone (is_of_syntax kind value) ∙ kept_by_class (type_rule kind) value is_class

-- ---- attributes

abbrev values_in : Option Attribute → List (List ℕ)
values_in None = []
values_in (Some a) = a.values

filled : (kind : ℕ) (values : List (List ℕ)) (a : Attribute) → unless_empty kind values ≡ Some a → a.values ≢ []
filled kind [] a e = absurd (cc)
filled kind (value ∷ values) a e = λ none. absurd (let same = ap values_in e ∙ none in cc)

kept_of-filled : (named : Option ℕ) (values : List (List ℕ)) (a : Attribute) → kept_of named values ≡ Some a → a.values ≢ []
kept_of-filled None values a e = absurd (cc)
kept_of-filled (Some kind) values a e = by (is_operational kind) e
  where
    by : (b : Bool) → cond {A = Option Attribute} b None (unless_empty kind (kept_values kind values)) ≡ Some a → a.values ≢ []
    by true h = absurd (cc)
    by false h = filled kind (kept_values kind values) a h

-- an attribute that is kept has a value
pub kept-filled : (raw : RawAttribute) (a : Attribute) → kept raw ≡ Some a → a.values ≢ []
kept-filled raw a e = kept_of-filled (type_named raw.name) raw.values a e

-- what is kept of the next attribute joins the others
pub attributes_of-more : (raws : List RawAttribute) (i : ℕ) (raw : RawAttribute) (a : Attribute) → i < length raws → raw ≡ get_or raws i raw
    → kept raw ≡ Some a → attributes_of (take (i + 1) raws) ≡ with_values (attributes_of (take i raws)) a.kind a.values
attributes_of-more raws i raw a low at some =
    ap joined (filter_map_some kept raws i raw a low at some) ∙ joined-push (filter_map kept (take i raws)) a

-- an attribute that is not kept leaves the list of those that are
pub attributes_of-same : (raws : List RawAttribute) (i : ℕ) (raw : RawAttribute) → i < length raws → raw ≡ get_or raws i raw
    → kept raw ≡ None → attributes_of (take (i + 1) raws) ≡ attributes_of (take i raws)
attributes_of-same raws i raw low at none = ap joined (filter_map_none kept raws i raw low at none)
