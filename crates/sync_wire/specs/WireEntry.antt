-- Entries as they are sent, with entryUUID (RFC 4530) and entryCSN among their attributes.
use Rattle.std.specs.Prelude.{ℕ, Bool, true, not, ◌&&◌, ◌==◌, nat_lt, if◌then◌else◌, List, [], ◌∷◌, length, filter, find, codes, Option, Some, None, is_some, option_map, Result, Ok, Err}
use Rattle.std.specs.List.{list_all, filter_map, flat_map}
use Rattle.std.specs.Int.{w128, from_be_bytes}
use Rattle.std.specs.Str.{str_eq_ignore_ascii_case}
use Rattle.ldap_constants.specs.declared.result_codes.TheConstants.{ADMIN_LIMIT_EXCEEDED, INVALID_ATTRIBUTE_SYNTAX, INVALID_DN_SYNTAX, OBJECT_CLASS_VIOLATION}
use Rattle.uuid.specs.Text.{parsed}
use Rattle.csn_cookie.specs.Csn.{CsnValue, csn_of_text}
use Rattle.schema_rules.specs.declared.attributes.Attribute.{Attribute}
use Rattle.schema_rules.specs.declared.raw.RawAttribute.{RawAttribute}
use Rattle.schema_rules.specs.declared.types.Rule.{Rule}
use Rattle.schema_rules.specs.declared.types.Rule.TheVariants.{Class, Folded, FoldedAscii, ExactAscii, Whole, Flag, Time, Operational}
use Rattle.schema_rules.specs.Attributes.{is_of_syntax, joined, weight_of}
use Rattle.schema_rules.specs.Schema.{type_named, type_rule, is_operational, class_named}
use Rattle.dn_names.specs.declared.fault.NameFault.{NameFault}
use Rattle.dn_names.specs.Names.{TypeAndValue}
use Rattle.dn_names.specs.Reading.{name_of_text}
use Rattle.entry_tree.specs.declared.entry.Entry.{Entry}
use Rattle.entry_tree.specs.State.{most_entry_weight}
use Rattle.sync_wire.specs.declared.fault.DecodeFault.{DecodeFault}
use Rattle.sync_wire.specs.declared.fault.DecodeFault.TheVariants.{UuidDiffers}
use Rattle.sync_wire.specs.Refusals.{and_then, bad_entry}

-- ---- operational attributes

-- all values of the attributes of that name, whatever the case of its letters
abbrev pub values_named : List ℕ → List RawAttribute → List (List ℕ)
values_named name raws =
    flat_map (λ raw. raw.values) (filter (λ raw. str_eq_ignore_ascii_case raw.name name) raws)

-- the identity of a text of 36 characters, in five groups of hexadecimal digits
-- (RFC 4530, section 2.1)
abbrev pub uuid_of : List ℕ → Option ℕ
uuid_of text = if length text == 36 then option_map (from_be_bytes w128) (parsed text) else None

abbrev pub uuid_values : List RawAttribute → List (List ℕ)
uuid_values raws = values_named (codes "entryUUID") raws

-- the first identity among the texts that is not this one
abbrev pub first_other : ℕ → List (List ℕ) → Option ℕ
first_other uuid values = find (λ other. not (other == uuid)) (filter_map uuid_of values)

abbrev pub same_or_refused : ℕ → Option ℕ → Result (Unit {0}) DecodeFault
same_or_refused uuid None = Ok tt
same_or_refused uuid (Some other) = Err (UuidDiffers uuid other)

-- no entryUUID is that of another identity
abbrev pub checked_uuid : ℕ → List RawAttribute → Result (Unit {0}) DecodeFault
checked_uuid uuid raws = same_or_refused uuid (first_other uuid (uuid_values raws))

-- each entryUUID is the text of an identity
abbrev pub are_uuids : List RawAttribute → Bool
are_uuids raws = list_all (λ value. is_some (uuid_of value)) (uuid_values raws)

-- the other identity where there is one, or else whether all texts are of one
abbrev pub other_or_all : Option ℕ → Bool → Result Bool ℕ
other_or_all (Some other) all = Err other
other_or_all None all = Ok all

-- the first identity among the texts that is not this one, or else whether each is of this one
abbrev pub uuids_read : ℕ → List (List ℕ) → Result Bool ℕ
uuids_read uuid texts =
    other_or_all (first_other uuid texts) (list_all (λ text. is_some (uuid_of text)) texts)

-- objectClassViolation in place of none
abbrev pub or_object_class_violation : Option CsnValue → Result CsnValue DecodeFault
or_object_class_violation None = Err (bad_entry OBJECT_CLASS_VIOLATION)
or_object_class_violation (Some csn) = Ok csn

abbrev pub csn_of : List ℕ → Result CsnValue DecodeFault
csn_of text = or_object_class_violation (csn_of_text text)

-- the value where there is one alone
abbrev pub only_one : List (List ℕ) → Option (List ℕ)
only_one [] = None
only_one (value ∷ []) = Some value
only_one (value ∷ other ∷ values) = None

-- one value, which is a CSN, or objectClassViolation
abbrev pub one_csn : List (List ℕ) → Result CsnValue DecodeFault
one_csn [] = Err (bad_entry OBJECT_CLASS_VIOLATION)
one_csn (value ∷ []) = csn_of value
one_csn (value ∷ other ∷ values) = Err (bad_entry OBJECT_CLASS_VIOLATION)

abbrev pub entry_csn : List RawAttribute → Result CsnValue DecodeFault
entry_csn raws = one_csn (values_named (codes "entryCSN") raws)

-- ---- the other attributes

-- of a type of object classes only a class of the schema is kept
abbrev pub is_kept_by : Rule → List ℕ → Bool
is_kept_by Class value = is_some (class_named value)
is_kept_by Folded value = true
is_kept_by FoldedAscii value = true
is_kept_by ExactAscii value = true
is_kept_by Whole value = true
is_kept_by Flag value = true
is_kept_by Time value = true
is_kept_by Operational value = true

abbrev pub kept_values : ℕ → List (List ℕ) → List (List ℕ)
kept_values kind values = filter (is_kept_by (type_rule kind)) values

-- with no value nothing is kept
abbrev pub unless_empty : ℕ → List (List ℕ) → Option Attribute
unless_empty kind [] = None
unless_empty kind (value ∷ values) = Some (record { kind = kind; values = value ∷ values })

abbrev pub kept_of : Option ℕ → List (List ℕ) → Option Attribute
kept_of None values = None
kept_of (Some kind) values =
    if is_operational kind then None else unless_empty kind (kept_values kind values)

-- what is kept of an attribute: nothing where its type is unknown or operational
abbrev pub kept : RawAttribute → Option Attribute
kept raw = kept_of (type_named raw.name) raw.values

-- those of one type are joined in order
abbrev pub attributes_of : List RawAttribute → List Attribute
attributes_of raws = joined (filter_map kept raws)

abbrev pub is_of_its_syntax : Attribute → Bool
is_of_its_syntax attribute = list_all (is_of_syntax attribute.kind) attribute.values

-- ---- the entry

-- invalidDNSyntax in place of each fault
abbrev pub or_invalid_dn_syntax : {X : Type 0} → Result X NameFault → Result X DecodeFault
or_invalid_dn_syntax (Ok x) = Ok x
or_invalid_dn_syntax (Err fault) = Err (bad_entry INVALID_DN_SYNTAX)

abbrev pub name_of : List ℕ → Result (List (List TypeAndValue)) DecodeFault
name_of text = or_invalid_dn_syntax (name_of_text text)

-- invalidAttributeSyntax
abbrev pub checked_syntax : List RawAttribute → List Attribute → Result (Unit {0}) DecodeFault
checked_syntax raws attributes =
    if are_uuids raws && list_all is_of_its_syntax attributes then Ok tt
    else Err (bad_entry INVALID_ATTRIBUTE_SYNTAX)

-- adminLimitExceeded
abbrev pub checked_weight : Entry → Result Entry DecodeFault
checked_weight entry =
    if nat_lt most_entry_weight (weight_of entry.attrs) then Err (bad_entry ADMIN_LIMIT_EXCEEDED)
    else Ok entry

-- the entry of an identity that was sent with this name and these attributes, or the first code
-- against it; object classes are not checked
abbrev pub entry_of : ℕ → List ℕ → List RawAttribute → Result Entry DecodeFault
entry_of uuid name raws =
    and_then (name_of name) (λ dn.
    and_then (checked_syntax raws (attributes_of raws)) (λ checked.
    and_then (entry_csn raws) (λ csn.
    checked_weight (record { uuid = uuid; csn = csn; dn = dn; attrs = attributes_of raws }))))
