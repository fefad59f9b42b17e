-- The states of a directory are in ascending order.
use Rattle.std.proofs.Common.{◌≡◌, ℕ, ◌+◌, Bool, true, cond, List, [], ◌∷◌, take, refl, ◌∙◌, Some, None, Option}
use Rattle.std.specs.Prelude.{not}
use Rattle.csn_cookie.specs.Csn.{CsnValue}
use Rattle.dn_names.specs.Names.{TypeAndValue}
use Rattle.entry_tree.specs.declared.edit.Edit.{Edit}
use Rattle.entry_tree.specs.declared.entry.Entry.{Entry}
use Rattle.entry_tree.specs.declared.op.Op.{Op}
use Rattle.entry_tree.specs.declared.op.Op.TheVariants.{Add, Delete, Modify, Rename, Commit}
use Rattle.entry_tree.specs.declared.op.Write.{Write}
use Rattle.entry_tree.specs.Effects.{edited, modified, moved, new_name, new_attributes, renamed, effect}
use Rattle.entry_tree.specs.History.{identity, state_from, state_of}
use Rattle.entry_tree.specs.State.{ascends, is_identified, is_named, entry_named}
use Rattle.entry_tree.proofs.Committing.{ascends_committed}
use Rattle.entry_tree.proofs.Directory.{ascends_filter}
use Rattle.entry_tree.proofs.Putting.{ascends_put}
use Rattle.entry_tree.proofs.Replacing.{ascends_mapped, replaced_keeps}
use Rattle.entry_tree.proofs.Moving.{moved_keeps}

ascends-modified : (entries : List Entry) (found : Option Entry) (edits : List Edit) (csn : CsnValue) → ascends entries ≡ true → ascends (modified entries found edits csn) ≡ true
ascends-modified entries None edits csn asc = asc
ascends-modified entries (Some e) edits csn asc =
    ascends_mapped (λ other. cond (is_identified e.uuid other) (edited e edits csn) other) (replaced_keeps e.uuid (edited e edits csn) refl) entries ∙ asc

ascends-renamed : (entries : List Entry) (found : Option Entry) (rdn : List TypeAndValue) (deletes : Bool) (superior : Option (List (List TypeAndValue))) (csn : CsnValue)
    → ascends entries ≡ true → ascends (renamed entries found rdn deletes superior csn) ≡ true
ascends-renamed entries None rdn deletes superior csn asc = asc
ascends-renamed entries (Some top) rdn deletes superior csn asc =
    ascends_mapped (moved top (new_name top rdn superior) (new_attributes top rdn deletes) csn)
    (moved_keeps top (new_name top rdn superior) (new_attributes top rdn deletes) csn) entries
    ∙ asc

-- a write leaves entries in order
pub ascends-effect : (op : Op) (entries : List Entry) (uuid : ℕ) (csn : CsnValue) → ascends entries ≡ true → ascends (effect entries op uuid csn) ≡ true
ascends-effect (Add name attrs) entries uuid csn asc = ascends_put (record { uuid = uuid; csn = csn; dn = name; attrs = attrs }) entries asc
ascends-effect (Delete name) entries uuid csn asc = ascends_filter (λ e. not (is_named name e)) entries asc
ascends-effect (Modify name edits) entries uuid csn asc = ascends-modified entries (entry_named entries name) edits csn asc
ascends-effect (Rename name rdn deletes superior) entries uuid csn asc = ascends-renamed entries (entry_named entries name) rdn deletes superior csn asc
ascends-effect (Commit puts drops) entries uuid csn asc = ascends_committed entries puts drops asc

-- so do some writes
pub ascends-state_from : (writes : List Write) (history : ℕ) (entries : List Entry) (before : ℕ) → ascends entries ≡ true → ascends (state_from history entries before writes) ≡ true
unfolding state_from
ascends-state_from [] history entries before asc = asc
ascends-state_from (write ∷ writes) history entries before asc =
    ascends-state_from writes history (effect entries write.op (identity history (before + 1)) write.csn) (before + 1)
    (ascends-effect write.op entries (identity history (before + 1)) write.csn asc)

-- each state of a directory ascends by identity
pub ascends-state_of : (history : ℕ) (writes : List Write) (number : ℕ) → ascends (state_of history writes number) ≡ true
ascends-state_of history writes number = ascends-state_from (take number writes) history [] 0 refl
