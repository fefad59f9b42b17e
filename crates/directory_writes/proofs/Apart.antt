-- Entries of which no two have one name: those that a commit leaves.
use Rattle.std.proofs.Common.{◌≡◌, ℕ, true, not, List, Option, None, Some, refl}
use Rattle.std.specs.Prelude.{is_none}
use Rattle.std.specs.List.{list_all}
use Rattle.std.proofs.lemmas.Bool.{and_parts, false≢true}
use Rattle.csn_cookie.specs.Csn.{CsnValue}
use Rattle.entry_tree.specs.Effects.{committed, effect}
use Rattle.entry_tree.specs.Fitting.{fits, is_within_entry_limit, is_directory_content}
use Rattle.entry_tree.specs.Sound.{is_commit}
use Rattle.entry_tree.specs.State.{exceeds_limits, same_named}
use Rattle.entry_tree.specs.declared.entry.Entry.{Entry}
use Rattle.entry_tree.specs.declared.op.Op.{Op}
use Rattle.entry_tree.specs.declared.op.Op.TheVariants.{Add, Delete, Modify, Rename, Commit}

none_of : (found : Option (ℕ × ℕ)) → is_none found ≡ true → found ≡ None
none_of None is = refl
none_of (Some pair) is = absurd (false≢true is)

-- a commit that fits leaves no two of one name
pub commit_apart : (entries : List Entry) (op : Op) (uuid : ℕ) (csn : CsnValue) → is_commit op ≡ true → fits entries op ≡ true → same_named (effect entries op uuid csn) ≡ None
commit_apart entries (Add name attrs) uuid csn holds fit = absurd (false≢true holds)
commit_apart entries (Delete name) uuid csn holds fit = absurd (false≢true holds)
commit_apart entries (Modify name edits) uuid csn holds fit = absurd (false≢true holds)
commit_apart entries (Rename name rdn deletes superior) uuid csn holds fit = absurd (false≢true holds)
commit_apart entries (Commit puts drops) uuid csn holds fit =
    let held = (and_parts (list_all is_within_entry_limit puts) (is_directory_content (committed entries puts drops)) fit).1 in
    none_of (same_named (committed entries puts drops))
    (and_parts (not (exceeds_limits (committed entries puts drops))) (is_none (same_named (committed entries puts drops))) held).1
