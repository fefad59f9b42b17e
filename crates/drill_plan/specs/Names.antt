-- The names and the attributes of the entries of a drill.
use Rattle.std.specs.Prelude.{ℕ, Bool, false, if◌then◌else◌, List, [], ◌∷◌, ◌++◌, codes}
use Rattle.std.specs.Fmt.{decimal}
use Rattle.schema_rules.specs.declared.attributes.Attribute.{Attribute}
use Rattle.dn_names.specs.Names.{TypeAndValue}

-- ---- the attribute types, by their places in the schema

abbrev pub object_class : ℕ
object_class = 0

abbrev pub common_name : ℕ
common_name = 1

abbrev pub surname : ℕ
surname = 2

abbrev pub unit_name_type : ℕ
unit_name_type = 9

abbrev pub organization_name : ℕ
organization_name = 10

abbrev pub domain_component : ℕ
domain_component = 12

abbrev pub department_number : ℕ
department_number = 14

-- ---- names

-- an RDN of one pair
abbrev pub rdn_of_one : ℕ → List ℕ → List TypeAndValue
rdn_of_one kind value = record { kind = kind; value = value } ∷ []

-- the suffix of the directory: `dc=drill`
abbrev pub suffix : List (List TypeAndValue)
suffix = rdn_of_one domain_component (codes "drill") ∷ []

-- `wN`, and `wNx` where the unit was renamed
abbrev pub unit_text : (writer : ℕ) → (renamed : Bool) → List ℕ
unit_text writer renamed = codes "w" ++ (decimal writer ++ (if renamed then codes "x" else []))

abbrev pub unit_rdn : (writer : ℕ) → (renamed : Bool) → List TypeAndValue
unit_rdn writer renamed = rdn_of_one unit_name_type (unit_text writer renamed)

abbrev pub unit_name : (writer : ℕ) → (renamed : Bool) → List (List TypeAndValue)
unit_name writer renamed = unit_rdn writer renamed ∷ suffix

-- `eN`
abbrev pub entry_text : (slot : ℕ) → List ℕ
entry_text slot = codes "e" ++ decimal slot

abbrev pub entry_rdn : (slot : ℕ) → List TypeAndValue
entry_rdn slot = rdn_of_one common_name (entry_text slot)

abbrev pub entry_name : (writer : ℕ) → (renamed : Bool) → (slot : ℕ) → List (List TypeAndValue)
entry_name writer renamed slot = entry_rdn slot ∷ unit_name writer renamed

-- ---- attributes

-- an attribute with one value
abbrev pub of_one : ℕ → List ℕ → Attribute
of_one kind value = record { kind = kind; values = value ∷ [] }

abbrev pub suffix_attributes : List Attribute
suffix_attributes =
    record { kind = object_class; values = codes "organization" ∷ codes "dcObject" ∷ [] }
    ∷ of_one organization_name (codes "drill")
    ∷ of_one domain_component (codes "drill")
    ∷ []

abbrev pub unit_attributes : (writer : ℕ) → List Attribute
unit_attributes writer =
    of_one object_class (codes "organizationalUnit")
    ∷ of_one unit_name_type (unit_text writer false)
    ∷ []

abbrev pub entry_attributes : (slot step kind : ℕ) → List Attribute
entry_attributes slot step kind =
    of_one object_class (codes "inetOrgPerson")
    ∷ of_one common_name (entry_text slot)
    ∷ of_one surname (decimal step)
    ∷ of_one department_number (decimal kind)
    ∷ []
