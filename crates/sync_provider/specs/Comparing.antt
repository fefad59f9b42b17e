-- What a comparison answers (RFC 4511, section 4.10).
use Rattle.std.specs.Prelude.{ℕ, ◌==◌, if◌then◌else◌, List, find, Option, Some, None}
use Rattle.std.specs.List.{list_any}
use Rattle.ldap_constants.specs.declared.result_codes.TheConstants.{COMPARE_FALSE, COMPARE_TRUE, INVALID_ATTRIBUTE_SYNTAX, NO_SUCH_ATTRIBUTE, NO_SUCH_OBJECT, UNDEFINED_ATTRIBUTE_TYPE}
use Rattle.schema_rules.specs.Keys.{has_key, key_of}
use Rattle.schema_rules.specs.Schema.{type_named, is_operational}
use Rattle.schema_rules.specs.declared.attributes.Attribute.{Attribute}
use Rattle.dn_names.specs.Names.{TypeAndValue}
use Rattle.entry_tree.specs.State.{entry_named}
use Rattle.entry_tree.specs.declared.entry.Entry.{Entry}

-- noSuchAttribute where there is no attribute of the type, else whether a value of it matches the
-- one with this key (section 4.1.8: the type's equality rule)
abbrev pub attribute_code : ℕ → List ℕ → Option Attribute → ℕ
attribute_code kind key None = NO_SUCH_ATTRIBUTE
attribute_code kind key (Some a) =
    if list_any (has_key kind key) a.values then COMPARE_TRUE else COMPARE_FALSE

-- before that invalidAttributeSyntax where the value has no key
abbrev pub key_code : List Attribute → ℕ → Option (List ℕ) → ℕ
key_code attributes kind None = INVALID_ATTRIBUTE_SYNTAX
key_code attributes kind (Some key) =
    attribute_code kind key (find (λ a. a.kind == kind) attributes)

abbrev pub value_code : List Attribute → ℕ → List ℕ → ℕ
value_code attributes kind value = key_code attributes kind (key_of kind value)

-- before that undefinedAttributeType where the type is not known, or clients do not give it
abbrev pub type_code : List Attribute → Option ℕ → List ℕ → ℕ
type_code attributes None value = UNDEFINED_ATTRIBUTE_TYPE
type_code attributes (Some kind) value =
    if is_operational kind then UNDEFINED_ATTRIBUTE_TYPE else value_code attributes kind value

-- first of all noSuchObject where there is no entry of the name
abbrev pub found_code : Option Entry → List ℕ → List ℕ → ℕ
found_code None name value = NO_SUCH_OBJECT
found_code (Some e) name value = type_code e.attrs (type_named name) value

-- whether the entry of a name has a value, given as the name of its type and the value
abbrev pub compare_code : List Entry → List (List TypeAndValue) → List ℕ → List ℕ → ℕ
compare_code entries dn name value = found_code (entry_named entries dn) name value
