-- The code of a comparison, by what is found.
use Rattle.std.proofs.Common.{◌≡◌, ℕ, Bool, true, false, cond, List, Option, Some, None, ap, ◌∙◌}
use Rattle.std.specs.Prelude.{find, ◌==◌}
use Rattle.std.specs.List.{list_any}
use Rattle.ldap_constants.specs.declared.result_codes.TheConstants.{COMPARE_FALSE, COMPARE_TRUE, INVALID_ATTRIBUTE_SYNTAX, NO_SUCH_ATTRIBUTE, NO_SUCH_OBJECT, UNDEFINED_ATTRIBUTE_TYPE}
use Rattle.schema_rules.specs.Keys.{has_key, key_of}
use Rattle.schema_rules.specs.Schema.{type_named, is_operational}
use Rattle.schema_rules.specs.declared.attributes.Attribute.{Attribute}
use Rattle.dn_names.specs.Names.{TypeAndValue}
use Rattle.entry_tree.specs.State.{entry_named}
use Rattle.entry_tree.specs.declared.entry.Entry.{Entry}
use Rattle.sync_provider.specs.Comparing.{attribute_code, key_code, value_code, type_code, found_code, compare_code}

abbrev Name : Type 0
Name = List (List TypeAndValue)

-- ---- the entry and the type

-- no entry has the name
pub no_entry : (entries : List Entry) (dn : Name) (name value : List ℕ) → entry_named entries dn ≡ None → compare_code entries dn name value ≡ NO_SUCH_OBJECT
no_entry entries dn name value none = ap (λ found. found_code found name value) none

at_entry : (entries : List Entry) (dn : Name) (name value : List ℕ) (e : Entry) (kind : Option ℕ) → entry_named entries dn ≡ Some e → type_named name ≡ kind
    → compare_code entries dn name value ≡ type_code e.attrs kind value
at_entry entries dn name value e kind there named = ap (λ found. found_code found name value) there ∙ ap (λ k. type_code e.attrs k value) named

-- the schema has no such type
pub no_type : (entries : List Entry) (dn : Name) (name value : List ℕ) (e : Entry) → entry_named entries dn ≡ Some e → type_named name ≡ None
    → compare_code entries dn name value ≡ UNDEFINED_ATTRIBUTE_TYPE
no_type entries dn name value e there none = at_entry entries dn name value e None there none

by_kind : (entries : List Entry) (dn : Name) (name value : List ℕ) (e : Entry) (kind : ℕ) (own : Bool) → entry_named entries dn ≡ Some e → type_named name ≡ Some kind → is_operational kind ≡ own
    → compare_code entries dn name value ≡ cond own UNDEFINED_ATTRIBUTE_TYPE (value_code e.attrs kind value)
by_kind entries dn name value e kind own there named is =
    at_entry entries dn name value e (Some kind) there named ∙ ap (λ b. cond b UNDEFINED_ATTRIBUTE_TYPE (value_code e.attrs kind value)) is

-- the type is operational
pub operational_type : (entries : List Entry) (dn : Name) (name value : List ℕ) (e : Entry) (kind : ℕ) → entry_named entries dn ≡ Some e → type_named name ≡ Some kind → is_operational kind ≡ true
    → compare_code entries dn name value ≡ UNDEFINED_ATTRIBUTE_TYPE
operational_type entries dn name value e kind there named is = by_kind entries dn name value e kind true there named is

-- the type is another one
pub typed : (entries : List Entry) (dn : Name) (name value : List ℕ) (e : Entry) (kind : ℕ) → entry_named entries dn ≡ Some e → type_named name ≡ Some kind → is_operational kind ≡ false
    → compare_code entries dn name value ≡ value_code e.attrs kind value
typed entries dn name value e kind there named is = by_kind entries dn name value e kind false there named is

-- ---- the value

-- it is not of the type's syntax
pub other_syntax : (attributes : List Attribute) (kind : ℕ) (value : List ℕ) → key_of kind value ≡ None → value_code attributes kind value ≡ INVALID_ATTRIBUTE_SYNTAX
other_syntax attributes kind value none = ap (key_code attributes kind) none

at_key : (attributes : List Attribute) (kind : ℕ) (value key : List ℕ) (found : Option Attribute) → key_of kind value ≡ Some key → find (λ a. a.kind == kind) attributes ≡ found
    → value_code attributes kind value ≡ attribute_code kind key found
at_key attributes kind value key found is there = ap (key_code attributes kind) is ∙ ap (attribute_code kind key) there

-- the entry has no value of the type
pub no_attribute : (attributes : List Attribute) (kind : ℕ) (value key : List ℕ) → key_of kind value ≡ Some key → find (λ a. a.kind == kind) attributes ≡ None
    → value_code attributes kind value ≡ NO_SUCH_ATTRIBUTE
no_attribute attributes kind value key is none = at_key attributes kind value key None is none

by_match : (attributes : List Attribute) (kind : ℕ) (value key : List ℕ) (a : Attribute) (hit : Bool) → key_of kind value ≡ Some key → find (λ x. x.kind == kind) attributes ≡ Some a
    → list_any (has_key kind key) a.values ≡ hit → value_code attributes kind value ≡ cond hit COMPARE_TRUE COMPARE_FALSE
by_match attributes kind value key a hit is there holds =
    at_key attributes kind value key (Some a) is there ∙ ap (λ b. cond b COMPARE_TRUE COMPARE_FALSE) holds

-- the entry has one that matches
pub value_matches : (attributes : List Attribute) (kind : ℕ) (value key : List ℕ) (a : Attribute) → key_of kind value ≡ Some key → find (λ x. x.kind == kind) attributes ≡ Some a
    → list_any (has_key kind key) a.values ≡ true → value_code attributes kind value ≡ COMPARE_TRUE
value_matches attributes kind value key a is there holds = by_match attributes kind value key a true is there holds

-- it has none that matches
pub no_value_matches : (attributes : List Attribute) (kind : ℕ) (value key : List ℕ) (a : Attribute) → key_of kind value ≡ Some key → find (λ x. x.kind == kind) attributes ≡ Some a
    → list_any (has_key kind key) a.values ≡ false → value_code attributes kind value ≡ COMPARE_FALSE
no_value_matches attributes kind value key a is there fails = by_match attributes kind value key a false is there fails
