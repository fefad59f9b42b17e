-- A write as it comes in, read by the schema (RFC 4511, sections 4.6 to 4.9).
use Rattle.std.specs.Prelude.{ℕ, not, ◌&&◌, ◌==◌, if◌then◌else◌, List, length, Option, Some, None, option_map, Result, Ok, Err}
use Rattle.std.specs.List.{list_all, filter_map}
use Rattle.ldap_constants.specs.declared.result_codes.TheConstants.{UNDEFINED_ATTRIBUTE_TYPE, CONSTRAINT_VIOLATION, INVALID_ATTRIBUTE_SYNTAX, INVALID_DN_SYNTAX}
use Rattle.schema_rules.specs.declared.raw.Change.{Change}
use Rattle.schema_rules.specs.declared.raw.Change.TheVariants as change
use Rattle.schema_rules.specs.declared.raw.How.{How}
use Rattle.schema_rules.specs.declared.raw.RawEdit.{RawEdit}
use Rattle.schema_rules.specs.Attributes.{read_attributes, is_of_syntax}
use Rattle.schema_rules.specs.Schema.{type_named, is_operational}
use Rattle.dn_names.specs.declared.fault.NameFault.{NameFault}
use Rattle.dn_names.specs.Names.{TypeAndValue}
use Rattle.dn_names.specs.Reading.{name_of_text, rdn_of_text}
use Rattle.entry_writes.specs.declared.edit.Edit.{Edit}
use Rattle.entry_writes.specs.declared.op.Op.{Op}
use Rattle.entry_writes.specs.declared.op.Op.TheVariants.{Add, Delete, Modify, Rename}
use Rattle.entry_writes.specs.Fault.{first_code}
use Rattle.entry_writes.specs.Sound.{may_be_empty}

-- the second step where the first gave a value
abbrev pub and_then : {A B : Type 0} → Result A ℕ → (A → Result B ℕ) → Result B ℕ
and_then (Ok a) next = next a
and_then (Err code) next = Err code

-- invalidDNSyntax in place of each fault
abbrev pub or_invalid_dn_syntax : {A : Type 0} → Result A NameFault → Result A ℕ
or_invalid_dn_syntax (Ok a) = Ok a
or_invalid_dn_syntax (Err fault) = Err INVALID_DN_SYNTAX

abbrev pub read_name : List ℕ → Result (List (List TypeAndValue)) ℕ
read_name text = or_invalid_dn_syntax (name_of_text text)

abbrev pub read_rdn : List ℕ → Result (List TypeAndValue) ℕ
read_rdn text = or_invalid_dn_syntax (rdn_of_text text)

abbrev pub read_superior : Option (List ℕ) → Result (Option (List (List TypeAndValue))) ℕ
read_superior None = Ok None
read_superior (Some text) = and_then (read_name text) (λ name. Ok (Some name))

-- ---- edits

-- invalidAttributeSyntax where a value is not of the syntax, and where an
-- edit that adds has none
abbrev pub given_code : How → ℕ → List (List ℕ) → Option ℕ
given_code how kind values =
    if not (may_be_empty how) && (length values == 0) then Some INVALID_ATTRIBUTE_SYNTAX
    else if list_all (is_of_syntax kind) values then None else Some INVALID_ATTRIBUTE_SYNTAX

-- undefinedAttributeType, then constraintViolation of an operational type
abbrev pub typed_code : How → Option ℕ → List (List ℕ) → Option ℕ
typed_code how None values = Some UNDEFINED_ATTRIBUTE_TYPE
typed_code how (Some kind) values =
    if is_operational kind then Some CONSTRAINT_VIOLATION else given_code how kind values

abbrev pub raw_code : RawEdit → Option ℕ
raw_code raw = typed_code raw.how (type_named raw.attribute.name) raw.attribute.values

-- the edit, with the type that its name names
abbrev pub typed : RawEdit → Option Edit
typed raw =
    option_map (λ kind. record { how = raw.how; kind = kind; values = raw.attribute.values })
    (type_named raw.attribute.name)

abbrev pub typed_edits : Option ℕ → List Edit → Result (List Edit) ℕ
typed_edits None edits = Ok edits
typed_edits (Some code) edits = Err code

abbrev pub read_edits : List RawEdit → Result (List Edit) ℕ
read_edits raws = typed_edits (first_code raw_code raws) (filter_map typed raws)

-- ---- writes: names first

unfoldable pub read_change : Change → Result Op ℕ
read_change (change.Add name raws) =
    and_then (read_name name) (λ dn. and_then (read_attributes raws) (λ attrs. Ok (Add dn attrs)))
read_change (change.Delete name) = and_then (read_name name) (λ dn. Ok (Delete dn))
read_change (change.Modify name raws) =
    and_then (read_name name) (λ dn. and_then (read_edits raws) (λ edits. Ok (Modify dn edits)))
read_change (change.Rename name rdn deletes superior) =
    and_then (read_name name) (λ dn.
    and_then (read_rdn rdn) (λ new_rdn.
    and_then (read_superior superior) (λ above. Ok (Rename dn new_rdn deletes above))))
