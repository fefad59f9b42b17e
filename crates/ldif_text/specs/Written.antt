-- The text of an entry (RFC 2849, ldif-attrval-record). Lines are not folded.
use Rattle.std.specs.Prelude.{◌≢◌, ℕ, ◌-◌, ◌<◌, All, Bool, true, not, ◌&&◌, ◌||◌, ◌==◌, nat_lt, Option, Some, None, List, [], ◌++◌, length, slice_index, if◌then◌else◌, codes}
use Rattle.std.specs.List.{list_any, flat_map}
use Rattle.std.specs.Int.{to_be_bytes, w128}
use Rattle.base64.specs.Engines.{standard}
use Rattle.base64.specs.GeneralPurpose.{IsBytes, encode_of}
use Rattle.uuid.specs.Text.{hyphenated_text, lower}
use Rattle.csn_cookie.specs.Csn.{CsnValue, csn_text}
use Rattle.schema_rules.specs.declared.attributes.Attribute.{Attribute}
use Rattle.schema_rules.specs.Attributes.{IsAttributeList}
use Rattle.schema_rules.specs.Schema.{types, type_name}

-- a byte that no plain value holds: NUL, a line feed, a carriage return, or a byte above 127
abbrev pub is_unsafe : ℕ → Bool
is_unsafe b = ((b == 0 || b == 10) || b == 13) || nat_lt 127 b

-- a byte that no plain value begins with: a space, a colon or `<`
abbrev pub is_unsafe_first : ℕ → Bool
is_unsafe_first b = (b == 32 || b == 58) || b == 60

-- whether the value may stand as it is (RFC 2849, SAFE-STRING, with no space at its end)
abbrev pub is_plain : List ℕ → Bool
is_plain value =
    if length value == 0 then true
    else (not (is_unsafe_first (slice_index value 0))
    && not (slice_index value (length value - 1) == 32))
    && not (list_any is_unsafe value)

-- what stands after a name: `: VALUE`, or `:: BASE64`
unfoldable pub value_text : List ℕ → List ℕ
value_text value =
    if is_plain value then codes ": " ++ value else codes ":: " ++ encode_of standard value

unfoldable pub line_text : List ℕ → List ℕ → List ℕ
line_text name value = name ++ (value_text value ++ codes "\n")

-- a line for each value
abbrev pub attribute_text : Attribute → List ℕ
attribute_text a = flat_map (line_text (type_name a.kind)) a.values

-- 8-4-4-4-12 hexadecimal digits in lower case (RFC 9562, section 4)
unfoldable pub uuid_text : ℕ → List ℕ
uuid_text uuid = hyphenated_text lower (to_be_bytes w128 uuid)

abbrev pub uuid_line : ℕ → List ℕ
uuid_line uuid = line_text (codes "entryUUID") (uuid_text uuid)

-- the identity of the entry and the number of its last change (RFC 4530)
abbrev pub operational_text : Option (ℕ × CsnValue) → List ℕ
operational_text None = []
operational_text (Some operational) =
    uuid_line operational.0 ++ line_text (codes "entryCSN") (csn_text operational.1)

abbrev pub attributes_text : List Attribute → List ℕ
attributes_text attributes = flat_map attribute_text attributes

-- `dn:` and the name, a line for each value in the order held, the operational attributes, and
-- an empty line
abbrev pub entry_text : List ℕ → List Attribute → Option (ℕ × CsnValue) → List ℕ
entry_text name attrs operational =
    line_text (codes "dn") name
    ++ (attributes_text attrs ++ (operational_text operational ++ codes "\n"))

-- a name and attributes of bytes, the types from the table, one attribute at least
pub record IsEntry (name : List ℕ) (attrs : List Attribute) : Type 0 where
  pub named : IsBytes name
  pub list : IsAttributeList attrs
  pub kinds : All (λ a. a.kind < length types) attrs
  pub values : All (λ a. All IsBytes a.values) attrs
  pub some : attrs ≢ []
