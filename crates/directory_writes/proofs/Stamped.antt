-- What a write other than a commit leaves is as before, or has the CSN of the write.
use Rattle.std.proofs.Common.{◌≡◌, ◌⊎◌, ℕ, Bool, true, false, cond, nat_eq, List, [], ◌∷◌, map, Option, Some, None, refl, ap, sym, ◌∙◌, inl, inr, subst}
use Rattle.std.specs.Prelude.{not, filter}
use Rattle.std.specs.Option.{option_map}
use Rattle.std.proofs.lemmas.Bool.{false≢true}
use Rattle.std.proofs.lemmas.Map.Entries.{option_filter}
use Rattle.csn_cookie.specs.Csn.{CsnValue}
use Rattle.dn_names.specs.Names.{TypeAndValue, is_at_or_below, moved_name}
use Rattle.schema_rules.specs.declared.attributes.Attribute.{Attribute}
use Rattle.entry_tree.specs.declared.edit.Edit.{Edit}
use Rattle.entry_tree.specs.declared.entry.Entry.{Entry}
use Rattle.entry_tree.specs.declared.op.Op.{Op}
use Rattle.entry_tree.specs.declared.op.Op.TheVariants.{Add, Delete, Modify, Rename, Commit}
use Rattle.entry_tree.specs.Effects.{edited, modified, moved, new_name, new_attributes, renamed, effect}
use Rattle.entry_tree.specs.Sound.{is_commit}
use Rattle.entry_tree.specs.State.{ascends, entry_at, entry_named, is_identified, is_named, put}
use Rattle.entry_tree.proofs.Moving.{moved_keeps}
use Rattle.entry_tree.proofs.Order.{entry_at-filter}
use Rattle.entry_tree.proofs.Putting.{entry_at_put}
use Rattle.entry_tree.proofs.Replacing.{replaced_keeps}

-- an entry is one of these, or has this CSN
abbrev IsStamped : CsnValue → Option Entry → Entry → Type 0
IsStamped csn before e = (before ≡ Some e) ⊎ (e.csn ≡ csn)

-- ---- entries that are changed one by one

mapped_at : (f : Entry → Entry) → ((e : Entry) → (f e).uuid ≡ e.uuid) → (entries : List Entry) (u : ℕ) → entry_at (map f entries) u ≡ option_map f (entry_at entries u)
mapped_at f keeps [] u = refl
mapped_at f keeps (e ∷ entries) u =
    ap (λ v. cond (nat_eq v u) (Some (f e)) (entry_at (map f entries) u)) (keeps e) ∙ ap (cond (nat_eq e.uuid u) (Some (f e))) (mapped_at f keeps entries u)
    ∙ by (nat_eq e.uuid u)
  where
    by : (b : Bool) → cond b (Some (f e)) (option_map f (entry_at entries u)) ≡ option_map f (cond b (Some e) (entry_at entries u))
    by true = refl
    by false = refl

stamped_map : (f : Entry → Entry) (csn : CsnValue) → ((e : Entry) → (f e).uuid ≡ e.uuid) → ((e : Entry) → IsStamped csn (Some e) (f e))
    → (entries : List Entry) (u : ℕ) (e : Entry) → entry_at (map f entries) u ≡ Some e → IsStamped csn (entry_at entries u) e
stamped_map f csn keeps each entries u e found = by (entry_at entries u) (sym (mapped_at f keeps entries u) ∙ found)
  where
    by : (before : Option Entry) → option_map f before ≡ Some e → IsStamped csn before e
    by None is = absurd (cc)
    by (Some was) is =
        let same : f was ≡ e = cc in
        subst (IsStamped csn (Some was)) same (each was)

one_edited : (uuid : ℕ) (new : Entry) (csn : CsnValue) → new.csn ≡ csn → (e : Entry) → IsStamped csn (Some e) (cond (is_identified uuid e) new e)
one_edited uuid new csn has e = by (is_identified uuid e)
  where
    by : (b : Bool) → IsStamped csn (Some e) (cond b new e)
    by true = inr has
    by false = inl refl

one_moved : (top : Entry) (name : List (List TypeAndValue)) (attrs : List Attribute) (csn : CsnValue) (e : Entry) → IsStamped csn (Some e) (moved top name attrs csn e)
one_moved top name attrs csn e = by (is_at_or_below e.dn top.dn)
  where
    by : (b : Bool) → IsStamped csn (Some e) (cond b (record { uuid = e.uuid; csn = csn; dn = moved_name e.dn top.dn name; attrs = cond (nat_eq e.uuid top.uuid) attrs e.attrs }) e)
    by true = inr refl
    by false = inl refl

-- ---- by the kind of the write

stamped_put : (new : Entry) (entries : List Entry) → ascends entries ≡ true → (u : ℕ) (e : Entry) → entry_at (put new entries) u ≡ Some e → IsStamped new.csn (entry_at entries u) e
stamped_put new entries asc u e found = by (nat_eq new.uuid u) (sym (entry_at_put new entries u asc) ∙ found)
  where
    by : (b : Bool) → cond b (Some new) (entry_at entries u) ≡ Some e → IsStamped new.csn (entry_at entries u) e
    by true is = let same : new ≡ e = cc in inr (ap (λ (x : Entry). x.csn) (sym same))
    by false is = inl is

stamped_filter : (test : Entry → Bool) (entries : List Entry) (csn : CsnValue) → ascends entries ≡ true → (u : ℕ) (e : Entry) → entry_at (filter test entries) u ≡ Some e
    → IsStamped csn (entry_at entries u) e
stamped_filter test entries csn asc u e found = by (entry_at entries u) (sym (entry_at-filter test entries u asc) ∙ found)
  where
    kept : (was : Entry) (b : Bool) → cond b (Some was) None ≡ Some e → IsStamped csn (Some was) e
    kept was true is = inl is
    kept was false is = absurd (cc)

    by : (before : Option Entry) → option_filter test before ≡ Some e → IsStamped csn before e
    by None is = absurd (cc)
    by (Some was) is = kept was (test was) is

stamped_modified : (entries : List Entry) (target : Option Entry) (edits : List Edit) (csn : CsnValue) (u : ℕ) (e : Entry) → entry_at (modified entries target edits csn) u ≡ Some e
    → IsStamped csn (entry_at entries u) e
stamped_modified entries None edits csn u e found = inl found
stamped_modified entries (Some target) edits csn u e found =
    stamped_map (λ other. cond (is_identified target.uuid other) (edited target edits csn) other) csn (replaced_keeps target.uuid (edited target edits csn) refl)
    (one_edited target.uuid (edited target edits csn) csn refl) entries u e found

stamped_renamed : (entries : List Entry) (top : Option Entry) (rdn : List TypeAndValue) (deletes : Bool) (superior : Option (List (List TypeAndValue))) (csn : CsnValue) (u : ℕ) (e : Entry)
    → entry_at (renamed entries top rdn deletes superior csn) u ≡ Some e → IsStamped csn (entry_at entries u) e
stamped_renamed entries None rdn deletes superior csn u e found = inl found
stamped_renamed entries (Some top) rdn deletes superior csn u e found =
    let name = new_name top rdn superior in
    let attrs = new_attributes top rdn deletes in
    stamped_map (moved top name attrs csn) csn (moved_keeps top name attrs csn) (one_moved top name attrs csn) entries u e found

-- an entry that is there after a write other than a commit was there before, or has its CSN
pub stamped : (op : Op) (entries : List Entry) (uuid : ℕ) (csn : CsnValue) → ascends entries ≡ true → is_commit op ≡ false
    → (u : ℕ) (e : Entry) → entry_at (effect entries op uuid csn) u ≡ Some e → (entry_at entries u ≡ Some e) ⊎ (e.csn ≡ csn)
stamped (Add name attrs) entries uuid csn asc other u e found = stamped_put (record { uuid = uuid; csn = csn; dn = name; attrs = attrs }) entries asc u e found
stamped (Delete name) entries uuid csn asc other u e found = stamped_filter (λ x. not (is_named name x)) entries csn asc u e found
stamped (Modify name edits) entries uuid csn asc other u e found = stamped_modified entries (entry_named entries name) edits csn u e found
stamped (Rename name rdn deletes superior) entries uuid csn asc other u e found = stamped_renamed entries (entry_named entries name) rdn deletes superior csn u e found
stamped (Commit puts drops) entries uuid csn asc other u e found = absurd (false≢true (sym other))
