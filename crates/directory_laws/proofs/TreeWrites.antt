-- An accepted write of a new identity leaves a tree.
use Rattle.std.proofs.Common.{◌≡◌, ◌≢◌, ℕ, Bool, true, not, cond, List, Option, Some, None, ap, sym, refl, ◌∙◌}
use Rattle.std.proofs.lemmas.Bool.{eqb-true, cond_both}
use Rattle.ldap_constants.specs.declared.result_codes.TheConstants.{NO_SUCH_OBJECT, NOT_ALLOWED_ON_NON_LEAF, ENTRY_ALREADY_EXISTS}
use Rattle.csn_cookie.specs.Csn.{CsnValue}
use Rattle.dn_names.specs.Names.{TypeAndValue}
use Rattle.dn_names.proofs.SortedLists.{In}
use Rattle.entry_tree.specs.declared.edit.Edit.{Edit}
use Rattle.entry_tree.specs.declared.entry.Entry.{Entry}
use Rattle.entry_tree.specs.declared.op.Op.{Op}
use Rattle.directory_writes.specs.Formed.{IsWellFormed}
use Rattle.entry_tree.specs.declared.op.Op.TheVariants.{Add, Delete, Modify, Rename, Commit}
use Rattle.entry_tree.specs.Codes.{has_no_place, add_target_code, add_code, target_code, rename_code, code_of}
use Rattle.entry_tree.specs.Effects.{edited, modified, new_name, new_attributes, renamed, effect}
use Rattle.entry_tree.specs.State.{ascends, put, is_identified, is_named, entry_named, has_name, has_below}
use Rattle.entry_tree.proofs.Replacing.{ascends_mapped, replaced_keeps}
use Rattle.directory_laws.proofs.Codes.{no_test, no_other}
use Rattle.directory_laws.proofs.Members.{in_found, only_one}
use Rattle.directory_laws.proofs.Results.{none_first}
use Rattle.directory_laws.proofs.TreeMoves.{HasPlace-target, IsTree-moved}
use Rattle.directory_laws.proofs.Trees.{IsTree, IsTree-put, IsTree-without, IsTree-map}

tree-added : (suffix : List (List TypeAndValue)) (entries : List Entry) (e : Entry) → add_code suffix entries e.dn e.attrs ≡ None → ((other : Entry) → In other entries → other.uuid ≢ e.uuid)
    → IsTree suffix entries → IsTree suffix (put e entries)
tree-added suffix entries e none fresh tree =
    let taken = cond (has_name entries e.dn) (Some ENTRY_ALREADY_EXISTS) None in
    let placed : add_target_code suffix entries e.dn ≡ None = none_first (add_target_code suffix entries e.dn) _ none in
    IsTree-put suffix entries e (no_test (has_no_place suffix entries e.dn) NO_SUCH_OBJECT taken placed)
    (no_test (has_name entries e.dn) ENTRY_ALREADY_EXISTS None (no_other (has_no_place suffix entries e.dn) NO_SUCH_OBJECT taken placed)) fresh tree

edited_name : (entries : List Entry) (e : Entry) (edits : List Edit) (csn : CsnValue) (other : Entry) → ascends entries ≡ true → In e entries → In other entries
    → (cond (is_identified e.uuid other) (edited e edits csn) other).dn ≡ other.dn
edited_name entries e edits csn other asc in_e in_other =
    cond_both (is_identified e.uuid other) (edited e edits csn) other (λ (x : Entry). x.dn ≡ other.dn)
    (λ same. ap (λ (x : Entry). x.dn) (only_one entries e other asc in_e in_other (sym (eqb-true other.uuid e.uuid same)))) (λ _. refl)

tree-modified : (suffix : List (List TypeAndValue)) (entries : List Entry) (name : List (List TypeAndValue)) (found : Option Entry) (edits : List Edit) (csn : CsnValue) → entry_named entries name ≡ found
    → IsTree suffix entries → IsTree suffix (modified entries found edits csn)
tree-modified suffix entries name None edits csn is tree = tree
tree-modified suffix entries name (Some e) edits csn is tree =
    let f : Entry → Entry = λ other. cond (is_identified e.uuid other) (edited e edits csn) other in
    IsTree-map f suffix entries (λ other member. replaced_keeps e.uuid (edited e edits csn) refl other)
    (λ other member. edited_name entries e edits csn other tree.ascends (in_found (is_named name) entries e is).0 member)
    (ascends_mapped f (replaced_keeps e.uuid (edited e edits csn) refl) entries ∙ tree.ascends) tree

tree-renamed : (suffix : List (List TypeAndValue)) (entries : List Entry) (name : List (List TypeAndValue)) (found : Option Entry) (rdn : List TypeAndValue) (deletes : Bool)
    (superior : Option (List (List TypeAndValue))) (csn : CsnValue) → entry_named entries name ≡ found → rename_code suffix entries found rdn deletes superior ≡ None
    → IsTree suffix entries → IsTree suffix (renamed entries found rdn deletes superior csn)
tree-renamed suffix entries name None rdn deletes superior csn is none tree = tree
tree-renamed suffix entries name (Some top) rdn deletes superior csn is none tree =
    let member = (in_found (is_named name) entries top is).0 in
    IsTree-moved suffix entries top (new_name top rdn superior) (new_attributes top rdn deletes) csn tree member
    (HasPlace-target suffix entries top rdn superior tree member (none_first (target_code suffix entries top (new_name top rdn superior) superior) _ none))

-- entries are a tree after an accepted write
pub tree-effect : (op : Op) (suffix : List (List TypeAndValue)) (entries : List Entry) (uuid : ℕ) (csn : CsnValue) → IsWellFormed op → code_of suffix entries op ≡ None
    → ((other : Entry) → In other entries → other.uuid ≢ uuid) → IsTree suffix entries → IsTree suffix (effect entries op uuid csn)
tree-effect (Add name attrs) suffix entries uuid csn formed none fresh tree = tree-added suffix entries (record { uuid = uuid; csn = csn; dn = name; attrs = attrs }) none fresh tree
tree-effect (Delete name) suffix entries uuid csn formed none fresh tree =
    let leaf = cond (has_below entries name) (Some NOT_ALLOWED_ON_NON_LEAF) None in
    IsTree-without suffix entries name (no_test (has_below entries name) NOT_ALLOWED_ON_NON_LEAF None (no_other (not (has_name entries name)) NO_SUCH_OBJECT leaf none)) tree
tree-effect (Modify name edits) suffix entries uuid csn formed none fresh tree = tree-modified suffix entries name (entry_named entries name) edits csn refl tree
tree-effect (Rename name rdn deletes superior) suffix entries uuid csn formed none fresh tree =
    tree-renamed suffix entries name (entry_named entries name) rdn deletes superior csn refl none tree
tree-effect (Commit puts drops) suffix entries uuid csn formed none fresh tree = absurd formed
