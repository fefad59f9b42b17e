-- The keys of values: two values of a type match where their keys are equal (RFC
-- 4512, section 2.5.1).
use Rattle.std.specs.Prelude.{ℕ, Bool, false, List, Option, None, Some, is_some, if◌then◌else◌, bytes_eq, nat_lt}
use Rattle.std.specs.Str.{str_to_ascii_lowercase}
use Rattle.std.specs.List.{list_all, filter_map}
use Rattle.std.specs.Option.{option_map_or}
use Rattle.text_keys.specs.Boolean.{boolean_key}
use Rattle.text_keys.specs.Integer.{integer_key}
use Rattle.text_keys.specs.Text.{ignore_case_key, exact_key}
use Rattle.text_keys.specs.Time.{time_key}
use Rattle.schema_rules.specs.declared.types.Rule.{Rule}
use Rattle.schema_rules.specs.declared.types.Rule.TheVariants.{Class, Folded, FoldedAscii, ExactAscii, Whole, Flag, Time, Operational}
use Rattle.schema_rules.specs.Schema.{type_rule, class_named}

abbrev pub is_ascii : List ℕ → Bool
is_ascii bytes = list_all (λ b. nat_lt b 128) bytes

-- the name of a class, in lower case
abbrev pub class_key : List ℕ → Option (List ℕ)
class_key value = if is_some (class_named value) then Some (str_to_ascii_lowercase value) else None

abbrev pub key_by : Rule → List ℕ → Option (List ℕ)
key_by Class value = class_key value
key_by Folded value = ignore_case_key value
key_by FoldedAscii value = if is_ascii value then ignore_case_key value else None
key_by ExactAscii value = if is_ascii value then exact_key value else None
key_by Whole value = integer_key value
key_by Flag value = boolean_key value
key_by Time value = time_key value
key_by Operational value = None

-- the key of a value of a type, which a value outside of the type's syntax has not
unfoldable pub key_of : ℕ → List ℕ → Option (List ℕ)
key_of kind value = key_by (type_rule kind) value

-- the keys of those values that have one
abbrev pub keys_of : ℕ → List (List ℕ) → List (List ℕ)
keys_of kind values = filter_map (key_of kind) values

-- the value has the key
abbrev pub has_key : ℕ → List ℕ → List ℕ → Bool
has_key kind key value = option_map_or (λ own. bytes_eq key own) (key_of kind value) false
