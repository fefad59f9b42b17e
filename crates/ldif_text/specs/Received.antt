-- The text of an entry as it came from a server (RFC 2849, ldif-attrval-record). Lines are not
-- folded.
use Rattle.std.specs.Prelude.{ℕ, List, ◌++◌, codes}
use Rattle.std.specs.List.{flat_map}
use Rattle.schema_rules.specs.declared.raw.RawAttribute.{RawAttribute}
use Rattle.ldif_text.specs.Written.{line_text}

-- a line for each value, with the type as it came
abbrev pub received_attribute_text : RawAttribute → List ℕ
received_attribute_text a = flat_map (line_text a.name) a.values

-- `dn:` and the name, the lines of the attributes in the order in which they came, and an empty line
unfoldable pub received_text : List ℕ → List RawAttribute → List ℕ
received_text name attributes =
    line_text (codes "dn") name
    ++ (flat_map received_attribute_text attributes ++ codes "\n")
