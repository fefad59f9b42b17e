-- No code that rejects a write is the code of success.
use Rattle.std.proofs.Common.{◌≡◌, ℕ, ◌≤◌, ◌+◌, Bool, true, false, nat_lt, nat_le, ◌&&◌, ◌||◌, not, if◌then◌else◌, List, [], ◌∷◌, length, Option, Some, None, sym, arith}
use Rattle.std.specs.Prelude.{Result, Ok, Err, IfSome, filter}
use Rattle.std.specs.List.{flat_map, list_any}
use Rattle.std.specs.Option.{option_or}
use Rattle.ldap_constants.specs.declared.result_codes.TheConstants.{ADMIN_LIMIT_EXCEEDED, ATTRIBUTE_OR_VALUE_EXISTS, CONSTRAINT_VIOLATION, ENTRY_ALREADY_EXISTS, NAMING_VIOLATION, NO_SUCH_ATTRIBUTE, NO_SUCH_OBJECT, NOT_ALLOWED_ON_NON_LEAF, NOT_ALLOWED_ON_RDN, OBJECT_CLASS_VIOLATION, UNWILLING_TO_PERFORM}
use Rattle.csn_cookie.specs.Csn.{CsnValue}
use Rattle.schema_rules.specs.declared.attributes.Attribute.{Attribute}
use Rattle.schema_rules.specs.declared.raw.How.{How}
use Rattle.schema_rules.specs.declared.raw.How.TheVariants as how
use Rattle.schema_rules.specs.Attributes.{classes_given, conforms, entry_code, has_duplicates, has_kind, is_crowded, weight_of}
use Rattle.schema_rules.specs.Keys.{keys_of}
use Rattle.schema_rules.specs.Schema.{is_structural, line_of}
use Rattle.dn_names.specs.Names.{TypeAndValue, same_name}
use Rattle.entry_tree.specs.declared.edit.Edit.{Edit}
use Rattle.entry_tree.specs.declared.entry.Entry.{Entry}
use Rattle.entry_tree.specs.declared.op.Op.{Op}
use Rattle.entry_tree.specs.declared.op.Op.TheVariants.{Add, Delete, Modify, Rename, Commit}
use Rattle.entry_tree.specs.declared.op.Write.{Write}
use Rattle.entry_tree.specs.Codes.{add_code, add_target_code, code_of, delete_code, edited_code, has_no_place, has_own_pairs, has_superior, has_too_long, is_taken_from, is_within, length_code, limit_code, modify_code, moved_code, naming_code, rdn_kept_code, rename_code, target_code, weight_code}
use Rattle.entry_tree.specs.Edits.{after_edit, after_edits, edit_code, edits_code, has_each, has_some, how_code}
use Rattle.entry_tree.specs.Effects.{new_attributes, new_name}
use Rattle.entry_tree.specs.State.{entry_named, has_below, has_name, most_entries, most_entry_weight, most_weight, total_weight, weight_with}
use Rattle.directory_writes.specs.Directory.{DirectoryState, csn_of_next_write, entries_of, has_room, judged, judged_at, judged_code}
use Rattle.directory_writes.proofs.Judged.{judged_is}
use Rattle.sync_provider.specs.Machine.{judged_by}
use Rattle.sync_provider.specs.declared.provider.Kind.{Kind}
use Rattle.sync_provider.specs.declared.provider.Kind.TheVariants.{Root, Replica}

abbrev Name : Type 0
Name = List (List TypeAndValue)

-- a code, if there is one, is not that of success
abbrev IsRefusal : Option ℕ → Type 0
IsRefusal code = IfSome code (λ c. 1 ≤ c)

either : (one other : Option ℕ) → IsRefusal one → IsRefusal other → IsRefusal (option_or one other)
either None other first second = second
either (Some code) other first second = first

by_test : (b : Bool) (one other : Option ℕ) → IsRefusal one → IsRefusal other → IsRefusal (if b then one else other)
by_test true one other first second = first
by_test false one other first second = second

-- this code where the test holds
where_so : (b : Bool) (code : ℕ) → 1 ≤ code → IsRefusal (if b then Some code else None)
where_so true code some = some
where_so false code some = tt

unless_so : (b : Bool) (code : ℕ) → 1 ≤ code → IsRefusal (if b then None else Some code)
unless_so true code some = tt
unless_so false code some = some

-- ---- what rejects an entry

entry_refusal : (attrs : List Attribute) → IsRefusal (entry_code attrs)
unfolding entry_code
entry_refusal attrs =
    by_test (list_any is_crowded attrs) (Some CONSTRAINT_VIOLATION)
    (if conforms attrs (filter is_structural (classes_given attrs)) (flat_map line_of (classes_given attrs)) then None
    else Some OBJECT_CLASS_VIOLATION)
    (omega arith)
    (unless_so (conforms attrs (filter is_structural (classes_given attrs)) (flat_map line_of (classes_given attrs)))
    OBJECT_CLASS_VIOLATION (omega arith))

weight_refusal : (weight total : ℕ) → IsRefusal (weight_code weight total)
weight_refusal weight total =
    where_so (nat_lt most_entry_weight weight || nat_lt most_weight total) ADMIN_LIMIT_EXCEEDED (omega arith)

-- ---- each operation

add_refusal : (suffix : Name) (entries : List Entry) (name : Name) (attrs : List Attribute)
    → IsRefusal (add_code suffix entries name attrs)
add_refusal suffix entries name attrs =
    either (add_target_code suffix entries name)
    (option_or (entry_code attrs) (option_or (naming_code name attrs) (limit_code entries (weight_of attrs))))
    (by_test (has_no_place suffix entries name) (Some NO_SUCH_OBJECT) (if has_name entries name then Some ENTRY_ALREADY_EXISTS else None)
    (omega arith) (where_so (has_name entries name) ENTRY_ALREADY_EXISTS (omega arith)))
    (either (entry_code attrs) (option_or (naming_code name attrs) (limit_code entries (weight_of attrs))) (entry_refusal attrs)
    (either (naming_code name attrs) (limit_code entries (weight_of attrs))
    (unless_so (has_own_pairs attrs name) NAMING_VIOLATION (omega arith))
    (by_test (nat_le most_entries (length entries)) (Some ADMIN_LIMIT_EXCEEDED) (weight_code (weight_of attrs) (total_weight entries + weight_of attrs))
    (omega arith) (weight_refusal (weight_of attrs) (total_weight entries + weight_of attrs)))))

delete_refusal : (entries : List Entry) (name : Name) → IsRefusal (delete_code entries name)
delete_refusal entries name =
    by_test (not (has_name entries name)) (Some NO_SUCH_OBJECT) (if has_below entries name then Some NOT_ALLOWED_ON_NON_LEAF else None)
    (omega arith) (where_so (has_below entries name) NOT_ALLOWED_ON_NON_LEAF (omega arith))

how_refusal : (way : How) (attrs : List Attribute) (kind : ℕ) (values : List (List ℕ)) → IsRefusal (how_code way attrs kind values)
how_refusal how.Add attrs kind values = where_so (has_some attrs kind values) ATTRIBUTE_OR_VALUE_EXISTS (omega arith)
how_refusal how.Delete attrs kind values = unless_so (has_kind attrs kind && has_each attrs kind values) NO_SUCH_ATTRIBUTE (omega arith)
how_refusal how.Replace attrs kind values = tt

edits_refusal : (attrs : List Attribute) (edits : List Edit) → IsRefusal (edits_code attrs edits)
edits_refusal attrs [] = tt
edits_refusal attrs (edit ∷ edits) =
    either (edit_code attrs edit) (edits_code (after_edit attrs edit) edits)
    (by_test (has_duplicates (keys_of edit.kind edit.values)) (Some ATTRIBUTE_OR_VALUE_EXISTS) (how_code edit.how attrs edit.kind edit.values)
    (omega arith) (how_refusal edit.how attrs edit.kind edit.values))
    (edits_refusal (after_edit attrs edit) edits)

edited_refusal : (entries : List Entry) (e : Entry) (attrs : List Attribute) → IsRefusal (edited_code entries e attrs)
edited_refusal entries e attrs =
    either (entry_code attrs)
    (option_or (rdn_kept_code e.dn attrs) (weight_code (weight_of attrs) (weight_with entries e (weight_of attrs))))
    (entry_refusal attrs)
    (either (rdn_kept_code e.dn attrs) (weight_code (weight_of attrs) (weight_with entries e (weight_of attrs)))
    (unless_so (has_own_pairs attrs e.dn) NOT_ALLOWED_ON_RDN (omega arith))
    (weight_refusal (weight_of attrs) (weight_with entries e (weight_of attrs))))

modify_refusal : (entries : List Entry) (found : Option Entry) (edits : List Edit) → IsRefusal (modify_code entries found edits)
modify_refusal entries None edits = omega arith
modify_refusal entries (Some e) edits =
    either (edits_code e.attrs edits) (edited_code entries e (after_edits e.attrs edits))
    (edits_refusal e.attrs edits) (edited_refusal entries e (after_edits e.attrs edits))

target_refusal : (suffix : Name) (entries : List Entry) (e : Entry) (name : Name) (superior : Option Name)
    → IsRefusal (target_code suffix entries e name superior)
target_refusal suffix entries e name superior =
    by_test (not (has_superior entries superior)) (Some NO_SUCH_OBJECT)
    (if same_name e.dn suffix || is_within e superior then Some UNWILLING_TO_PERFORM
    else if is_taken_from e entries name then Some ENTRY_ALREADY_EXISTS else None)
    (omega arith)
    (by_test (same_name e.dn suffix || is_within e superior) (Some UNWILLING_TO_PERFORM)
    (if is_taken_from e entries name then Some ENTRY_ALREADY_EXISTS else None)
    (omega arith) (where_so (is_taken_from e entries name) ENTRY_ALREADY_EXISTS (omega arith)))

moved_refusal : (suffix : Name) (entries : List Entry) (e : Entry) (name : Name) (attrs : List Attribute) (superior : Option Name)
    → IsRefusal (moved_code suffix entries e name attrs superior)
moved_refusal suffix entries e name attrs superior =
    let weight : ℕ = weight_of attrs in
    let total : ℕ = weight_with entries e (weight_of attrs) in
    either (target_code suffix entries e name superior)
    (option_or (entry_code attrs) (option_or (weight_code weight total) (length_code entries e name)))
    (target_refusal suffix entries e name superior)
    (either (entry_code attrs) (option_or (weight_code weight total) (length_code entries e name)) (entry_refusal attrs)
    (either (weight_code weight total) (length_code entries e name) (weight_refusal weight total)
    (where_so (has_too_long entries e name) ADMIN_LIMIT_EXCEEDED (omega arith))))

rename_refusal : (suffix : Name) (entries : List Entry) (found : Option Entry) (rdn : List TypeAndValue) (deletes : Bool) (superior : Option Name)
    → IsRefusal (rename_code suffix entries found rdn deletes superior)
rename_refusal suffix entries None rdn deletes superior = omega arith
rename_refusal suffix entries (Some e) rdn deletes superior =
    moved_refusal suffix entries e (new_name e rdn superior) (new_attributes e rdn deletes) superior

code_refusal : (suffix : Name) (entries : List Entry) (op : Op) → IsRefusal (code_of suffix entries op)
code_refusal suffix entries (Add name attrs) = add_refusal suffix entries name attrs
code_refusal suffix entries (Delete name) = delete_refusal entries name
code_refusal suffix entries (Modify name edits) = modify_refusal entries (entry_named entries name) edits
code_refusal suffix entries (Rename name rdn deletes superior) =
    rename_refusal suffix entries (entry_named entries name) rdn deletes superior
code_refusal suffix entries (Commit puts drops) = tt

-- ---- an operation at a directory, and at one of its kind

same_code : (one other : ℕ) → 1 ≤ one → ◌≡◌ {A = Result Write ℕ} (Err one) (Err other) → 1 ≤ other
same_code one other some is = let same : one ≡ other = cc in omega (arith, some, same)

accepts : (write : Write) (code : ℕ) → ◌≡◌ {A = Result Write ℕ} (Ok write) (Err code) → ⊥
accepts write code is = cc

judged_refusal : (d : DirectoryState) (op : Op) (now code : ℕ) → judged d op now ≡ Err code → 1 ≤ code
judged_refusal d op now code = by_room (has_room d.writes op)
  where
    by_code : (csn : CsnValue) (found : Option ℕ) → IsRefusal found → judged_code op csn found ≡ Err code → 1 ≤ code
    by_code csn None refusal is = absurd (accepts (record { csn = csn; op = op }) code is)
    by_code csn (Some found) refusal is = same_code found code refusal is

    by_csn : (next : Option CsnValue) → judged_at d op next ≡ Err code → 1 ≤ code
    by_csn None is = same_code ADMIN_LIMIT_EXCEEDED code (omega arith) is
    by_csn (Some csn) is =
        by_code csn (code_of d.suffix (entries_of d) op) (code_refusal d.suffix (entries_of d) op) is

    by_room : (b : Bool) → (if b then judged_at d op (csn_of_next_write d now) else Err ADMIN_LIMIT_EXCEEDED) ≡ Err code → 1 ≤ code
    by_room true is = by_csn (csn_of_next_write d now) is
    by_room false is = same_code ADMIN_LIMIT_EXCEEDED code (omega arith) is

-- no write is refused with success
pub refused_code : (kind : Kind) (d : DirectoryState) (op : Op) (now code : ℕ) → judged_by kind d op now ≡ Err code → 1 ≤ code
refused_code Root d op now code is = judged_refusal d op now code is
refused_code Replica d op now code is = same_code UNWILLING_TO_PERFORM code (omega arith) is

-- what is accepted is the operation that was asked for
pub accepted_op : (kind : Kind) (d : DirectoryState) (op : Op) (now : ℕ) (write : Write) → judged_by kind d op now ≡ Ok write → write.op ≡ op
accepted_op Root d op now write is = (judged_is d op now write is).same
accepted_op Replica d op now write is = absurd (accepts write UNWILLING_TO_PERFORM (sym is))
