-- The code of a write, which is the first that rejects it (RFC 4511, sections
-- 4.1.9 and 4.6 to 4.9).
use Rattle.std.specs.Prelude.{ℕ, Bool, true, false, not, ◌&&◌, ◌||◌, nat_lt, nat_le, if◌then◌else◌, List, length, Option, Some, None, ◌+◌}
use Rattle.std.specs.Option.{option_or}
use Rattle.std.specs.List.{list_any, list_all}
use Rattle.ldap_constants.specs.declared.result_codes.TheConstants.{ADMIN_LIMIT_EXCEEDED, NO_SUCH_OBJECT, UNWILLING_TO_PERFORM, NAMING_VIOLATION, NOT_ALLOWED_ON_NON_LEAF, NOT_ALLOWED_ON_RDN, ENTRY_ALREADY_EXISTS}
use Rattle.schema_rules.specs.declared.attributes.Attribute.{Attribute}
use Rattle.schema_rules.specs.Attributes.{entry_code, weight_of}
use Rattle.dn_names.specs.Names.{TypeAndValue, same_name, is_at_or_below, moved_name}
use Rattle.dn_names.specs.Sound.{most_rdns}
use Rattle.entry_writes.specs.declared.edit.Edit.{Edit}
use Rattle.entry_writes.specs.declared.entry.Entry.{Entry}
use Rattle.entry_writes.specs.declared.op.Op.{Op}
use Rattle.entry_writes.specs.declared.op.Op.TheVariants.{Add, Delete, Modify, Rename, Commit}
use Rattle.entry_writes.specs.Edits.{has_pair_value, after_edits, edits_code}
use Rattle.entry_writes.specs.Effects.{new_name, new_attributes}
use Rattle.entry_writes.specs.State.{has_name, has_parent, has_below, is_named, is_identified, entry_named, own_pairs, total_weight, weight_with, most_entry_weight, most_entries, most_weight}

-- each pair of the name's own RDN is among the attributes (RFC 4512, section 2.3)
abbrev pub has_own_pairs : List Attribute → List (List TypeAndValue) → Bool
has_own_pairs attrs name = list_all (has_pair_value attrs) (own_pairs name)

-- adminLimitExceeded where an entry would weigh too much, or all entries
abbrev pub weight_code : ℕ → ℕ → Option ℕ
weight_code weight total =
    if nat_lt most_entry_weight weight || nat_lt most_weight total then Some ADMIN_LIMIT_EXCEEDED
    else None

-- ---- Add (section 4.7)

-- outside the suffix, or below it without an entry above
abbrev pub has_no_place : List (List TypeAndValue) → List Entry → List (List TypeAndValue) → Bool
has_no_place suffix entries name =
    not (is_at_or_below name suffix)
    || (not (same_name name suffix) && not (has_parent entries name))

abbrev pub limit_code : List Entry → ℕ → Option ℕ
limit_code entries weight =
    if nat_le most_entries (length entries) then Some ADMIN_LIMIT_EXCEEDED
    else weight_code weight (total_weight entries + weight)

-- namingViolation
abbrev pub naming_code : List (List TypeAndValue) → List Attribute → Option ℕ
naming_code name attrs = if has_own_pairs attrs name then None else Some NAMING_VIOLATION

-- noSuchObject, then entryAlreadyExists
abbrev pub add_target_code : List (List TypeAndValue) → List Entry → List (List TypeAndValue)
    → Option ℕ
add_target_code suffix entries name =
    if has_no_place suffix entries name then Some NO_SUCH_OBJECT
    else if has_name entries name then Some ENTRY_ALREADY_EXISTS else None

abbrev pub add_code :
    List (List TypeAndValue) → List Entry → List (List TypeAndValue) → List Attribute → Option ℕ
add_code suffix entries name attrs =
    option_or (add_target_code suffix entries name)
    (option_or (entry_code attrs)
    (option_or (naming_code name attrs) (limit_code entries (weight_of attrs))))

-- ---- Delete (section 4.8)

-- noSuchObject, then notAllowedOnNonLeaf
abbrev pub delete_code : List Entry → List (List TypeAndValue) → Option ℕ
delete_code entries name =
    if not (has_name entries name) then Some NO_SUCH_OBJECT
    else if has_below entries name then Some NOT_ALLOWED_ON_NON_LEAF else None

-- ---- Modify (section 4.6)

-- notAllowedOnRDN
abbrev pub rdn_kept_code : List (List TypeAndValue) → List Attribute → Option ℕ
rdn_kept_code name attrs = if has_own_pairs attrs name then None else Some NOT_ALLOWED_ON_RDN

-- the code against an entry that has got these attributes
abbrev pub edited_code : List Entry → Entry → List Attribute → Option ℕ
edited_code entries e attrs =
    option_or (entry_code attrs)
    (option_or (rdn_kept_code e.dn attrs)
    (weight_code (weight_of attrs) (weight_with entries e (weight_of attrs))))

abbrev pub modify_code : List Entry → Option Entry → List Edit → Option ℕ
modify_code entries None edits = Some NO_SUCH_OBJECT
modify_code entries (Some e) edits =
    option_or (edits_code e.attrs edits) (edited_code entries e (after_edits e.attrs edits))

-- ---- Rename (section 4.9)

-- the new superior has an entry, where one is given
abbrev pub has_superior : List Entry → Option (List (List TypeAndValue)) → Bool
has_superior entries None = true
has_superior entries (Some superior) = has_name entries superior

-- the new superior is the entry, or below it
abbrev pub is_within : Entry → Option (List (List TypeAndValue)) → Bool
is_within e None = false
is_within e (Some superior) = is_at_or_below superior e.dn

abbrev pub is_taken_from : Entry → List Entry → List (List TypeAndValue) → Bool
is_taken_from e entries name =
    list_any (λ other. is_named name other && not (is_identified e.uuid other)) entries

-- noSuchObject, unwillingToPerform, then entryAlreadyExists
abbrev pub target_code :
    List (List TypeAndValue) → List Entry → Entry → List (List TypeAndValue)
    → Option (List (List TypeAndValue)) → Option ℕ
target_code suffix entries e name superior =
    if not (has_superior entries superior) then Some NO_SUCH_OBJECT
    else if same_name e.dn suffix || is_within e superior then Some UNWILLING_TO_PERFORM
    else if is_taken_from e entries name then Some ENTRY_ALREADY_EXISTS
    else None

-- a moved entry would have too long a name
abbrev pub has_too_long : List Entry → Entry → List (List TypeAndValue) → Bool
has_too_long entries e name =
    list_any
    (λ other.
    is_at_or_below other.dn e.dn && nat_lt most_rdns (length (moved_name other.dn e.dn name)))
    entries

abbrev pub length_code : List Entry → Entry → List (List TypeAndValue) → Option ℕ
length_code entries e name = if has_too_long entries e name then Some ADMIN_LIMIT_EXCEEDED else None

-- the code against an entry that gets this name and these attributes
abbrev pub moved_code :
    List (List TypeAndValue) → List Entry → Entry → List (List TypeAndValue) → List Attribute
    → Option (List (List TypeAndValue)) → Option ℕ
moved_code suffix entries e name attrs superior =
    option_or (target_code suffix entries e name superior)
    (option_or (entry_code attrs)
    (option_or (weight_code (weight_of attrs) (weight_with entries e (weight_of attrs)))
    (length_code entries e name)))

abbrev pub rename_code :
    List (List TypeAndValue) → List Entry → Option Entry → List TypeAndValue → Bool
    → Option (List (List TypeAndValue)) → Option ℕ
rename_code suffix entries None rdn deletes superior = Some NO_SUCH_OBJECT
rename_code suffix entries (Some e) rdn deletes superior =
    moved_code suffix entries e (new_name e rdn superior) (new_attributes e rdn deletes) superior

-- ---- the code of a write to the directory with this suffix, where one rejects it; none
-- rejects a commit, which its provider accepted write by write
abbrev pub code_of : List (List TypeAndValue) → List Entry → Op → Option ℕ
code_of suffix entries (Add name attrs) = add_code suffix entries name attrs
code_of suffix entries (Delete name) = delete_code entries name
code_of suffix entries (Modify name edits) = modify_code entries (entry_named entries name) edits
code_of suffix entries (Rename name rdn deletes superior) =
    rename_code suffix entries (entry_named entries name) rdn deletes superior
code_of suffix entries (Commit puts drops) = None
