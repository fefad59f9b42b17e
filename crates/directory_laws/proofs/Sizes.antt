-- An accepted write keeps the entries of a directory within their number and weight.
use Rattle.std.proofs.Common.{◌≡◌, ◌≤◌, ◌+◌, ◌-◌, ℕ, Bool, not, List, set, Option, Some, None, sym, refl, subst}
use Rattle.std.specs.List.{filter}
use Rattle.schema_rules.specs.Attributes.{entry_code, weight_of}
use Rattle.csn_cookie.specs.Csn.{CsnValue}
use Rattle.dn_names.specs.Names.{TypeAndValue}
use Rattle.entry_tree.specs.declared.edit.Edit.{Edit}
use Rattle.entry_tree.specs.declared.entry.Entry.{Entry}
use Rattle.entry_tree.specs.declared.op.Op.{Op}
use Rattle.directory_writes.specs.Formed.{IsWellFormed}
use Rattle.entry_tree.specs.declared.op.Op.TheVariants.{Add, Delete, Modify, Rename, Commit}
use Rattle.entry_tree.specs.Codes.{weight_code, rdn_kept_code, edited_code, modify_code, target_code, length_code, rename_code, code_of}
use Rattle.entry_tree.specs.Edits.{after_edits, edits_code}
use Rattle.entry_tree.specs.Effects.{edited, modified, new_name, new_attributes, renamed, effect}
use Rattle.entry_tree.specs.State.{put, is_identified, is_named, entry_named, total_weight, weight_with, most_weight, IsDirectory}
use Rattle.entry_tree.proofs.Directory.{without_passing}
use Rattle.entry_tree.proofs.Limits.{light_where_none, add_where_none}
use Rattle.entry_tree.proofs.Modifying.{placed, effect_placed}
use Rattle.entry_tree.proofs.Moving.{held_where_found, others_weight, total_moved, moved_directory}
use Rattle.entry_tree.proofs.Putting.{put_directory, total_put}
use Rattle.entry_tree.proofs.Replacing.{IsDirectory-replaced}
use Rattle.directory_laws.proofs.Results.{none_first, none_second}

-- entries within their number and weight
abbrev pub IsSmall : List Entry → Type 0
IsSmall entries = IsDirectory entries (total_weight entries)

at_total : (entries : List Entry) (weight : ℕ) → IsDirectory entries weight → IsSmall entries
at_total entries weight directory = record {
  ascends = directory.ascends;
  weighed = refl;
  few = directory.few;
  light = subst (λ n. n ≤ most_weight) directory.weighed directory.light;
}

-- ---- Modify

-- what the directory weighs with the edited entry
weighed-edited : (entries : List Entry) (e : Entry) (edits : List Edit) → modify_code entries (Some e) edits ≡ None → weight_with entries e (weight_of (after_edits e.attrs edits)) ≤ most_weight
weighed-edited entries e edits none =
    let attrs = after_edits e.attrs edits in
    let checked = none_second (edits_code e.attrs edits) (edited_code entries e attrs) none in
    let kept = none_second (entry_code attrs) _ checked in
    light_where_none (weight_of attrs) (weight_with entries e (weight_of attrs)) (none_second (rdn_kept_code e.dn attrs) _ kept)

small-edited : (entries : List Entry) (name : List (List TypeAndValue)) (e : Entry) (edits : List Edit) (csn : CsnValue) → IsSmall entries → entry_named entries name ≡ Some e
    → modify_code entries (Some e) edits ≡ None → IsSmall (modified entries (entry_named entries name) edits csn)
small-edited entries name e edits csn small found none =
    let new = edited e edits csn in
    let others = total_weight (filter (λ x. not (is_identified e.uuid x)) entries) in
    let there = placed entries name e small.ascends found in
    let place = there.0 in
    let rest = others_weight entries e small.ascends (held_where_found (is_named name) entries e small.ascends found) in
    subst IsSmall (effect_placed entries name place e edits csn there.1)
    (at_total (set entries place new) (others + weight_of new.attrs)
    (IsDirectory-replaced entries (total_weight entries) others (weight_of new.attrs) place e new small there.1.within there.1.at refl rest refl (weighed-edited entries e edits none)))

small-modified : (entries : List Entry) (name : List (List TypeAndValue)) (found : Option Entry) (edits : List Edit) (csn : CsnValue) → IsSmall entries → entry_named entries name ≡ found
    → modify_code entries found edits ≡ None → IsSmall (modified entries (entry_named entries name) edits csn)
small-modified entries name None edits csn small is none = subst (λ found. IsSmall (modified entries found edits csn)) (sym is) small
small-modified entries name (Some e) edits csn small is none = small-edited entries name e edits csn small is none

-- ---- Rename

small-moved : (suffix : List (List TypeAndValue)) (entries : List Entry) (name : List (List TypeAndValue)) (top : Entry) (rdn : List TypeAndValue) (deletes : Bool)
    (superior : Option (List (List TypeAndValue))) (csn : CsnValue) → IsSmall entries → entry_named entries name ≡ Some top → rename_code suffix entries (Some top) rdn deletes superior ≡ None
    → IsSmall (renamed entries (Some top) rdn deletes superior csn)
small-moved suffix entries name top rdn deletes superior csn small is none =
    let new = new_name top rdn superior in
    let attrs = new_attributes top rdn deletes in
    let total = weight_with entries top (weight_of attrs) in
    let checked = none_second (target_code suffix entries top new superior) _ none in
    let weighed = none_second (entry_code attrs) _ checked in
    let light = light_where_none (weight_of attrs) total (none_first (weight_code (weight_of attrs) total) (length_code entries top new) weighed) in
    let held = held_where_found (is_named name) entries top small.ascends is in
    let after = total_weight (renamed entries (Some top) rdn deletes superior csn) in
    moved_directory top new attrs csn entries (total_weight entries) after small held light (total_moved top new attrs csn entries small.ascends held)

small-renamed : (suffix : List (List TypeAndValue)) (entries : List Entry) (name : List (List TypeAndValue)) (found : Option Entry) (rdn : List TypeAndValue) (deletes : Bool)
    (superior : Option (List (List TypeAndValue))) (csn : CsnValue) → IsSmall entries → entry_named entries name ≡ found → rename_code suffix entries found rdn deletes superior ≡ None
    → IsSmall (renamed entries found rdn deletes superior csn)
small-renamed suffix entries name None rdn deletes superior csn small is none = small
small-renamed suffix entries name (Some top) rdn deletes superior csn small is none = small-moved suffix entries name top rdn deletes superior csn small is none

-- ---- each kind of write

-- entries are few and light after an accepted write
pub small-effect : (op : Op) (suffix : List (List TypeAndValue)) (entries : List Entry) (uuid : ℕ) (csn : CsnValue) → IsSmall entries → IsWellFormed op → code_of suffix entries op ≡ None → IsSmall (effect entries op uuid csn)
small-effect (Add name attrs) suffix entries uuid csn small formed none =
    let e : Entry = record { uuid = uuid; csn = csn; dn = name; attrs = attrs } in
    let room = add_where_none suffix entries name attrs none in
    put_directory e entries (total_weight entries) (total_weight (put e entries)) small room.0 room.1 (total_put e entries small.ascends)
small-effect (Delete name) suffix entries uuid csn small formed none =
    let p : Entry → Bool = is_named name in
    at_total (filter (λ e. not (p e)) entries) (total_weight entries - total_weight (filter p entries)) (without_passing p entries (total_weight entries) small)
small-effect (Modify name edits) suffix entries uuid csn small formed none = small-modified entries name (entry_named entries name) edits csn small refl none
small-effect (Rename name rdn deletes superior) suffix entries uuid csn small formed none =
    small-renamed suffix entries name (entry_named entries name) rdn deletes superior csn small refl none
small-effect (Commit puts drops) suffix entries uuid csn small formed none = absurd formed
