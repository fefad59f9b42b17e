-- Each entry of a directory has the identity of the write that added it.
use Rattle.std.proofs.Common.{◌≡◌, ◌≢◌, ◌≤◌, ◌<◌, ◌+◌, ◌^◌, ℕ, Bool, not, cond, List, Option, Some, None, ap, sym, refl, subst, ◌∙◌, inl, inr, arith}
use Rattle.csn_cookie.specs.Csn.{CsnValue}
use Rattle.dn_names.specs.Names.{TypeAndValue}
use Rattle.dn_names.proofs.SortedLists.{In}
use Rattle.entry_tree.specs.declared.edit.Edit.{Edit}
use Rattle.entry_tree.specs.declared.entry.Entry.{Entry}
use Rattle.entry_tree.specs.declared.op.Op.{Op}
use Rattle.directory_writes.specs.Formed.{IsWellFormed}
use Rattle.entry_tree.specs.declared.op.Op.TheVariants.{Add, Delete, Modify, Rename, Commit}
use Rattle.entry_tree.specs.Effects.{edited, modified, moved, new_name, new_attributes, renamed, effect}
use Rattle.entry_tree.specs.History.{identity}
use Rattle.entry_tree.specs.State.{is_identified, is_named, entry_named}
use Rattle.entry_tree.proofs.Moving.{moved_keeps}
use Rattle.entry_tree.proofs.Replacing.{replaced_keeps}
use Rattle.directory_laws.proofs.Members.{filter_in, map_in}
use Rattle.directory_laws.proofs.Trees.{put_in}

-- the identity is that of one of n writes
pub record IsNumbered (history before uuid : ℕ) : Type 0 where
  pub number : ℕ
  pub from : 0 < number
  pub upto : number ≤ before
  pub is : uuid ≡ identity history number

-- an identity that was given out before is given out before a later write
pub IsNumbered-later : (history before uuid : ℕ) → IsNumbered history before uuid → IsNumbered history (before + 1) uuid
IsNumbered-later history before uuid numbered =
    let upto : numbered.number ≤ before = numbered.upto in
    record { number = numbered.number; from = numbered.from; upto = omega (arith, upto); is = numbered.is }

-- the identity of the next write is given out then
pub IsNumbered-next : (history before : ℕ) → IsNumbered history (before + 1) (identity history (before + 1))
IsNumbered-next history before = record { number = before + 1; from = omega arith; upto = omega arith; is = refl }

identities_differ : (history one other : ℕ) → 0 < one → one < other → other ≤ 2 ^ 62 → identity history one ≢ identity history other
identities_differ history one other from less upto same = absurd (omega (arith, from, less, upto, same))

-- the next identity is new as long as the numbers do not begin again
pub IsNumbered-new : (history before uuid : ℕ) → IsNumbered history before uuid → before + 1 ≤ 2 ^ 62 → uuid ≢ identity history (before + 1)
IsNumbered-new history before uuid numbered upto same =
    let last : numbered.number ≤ before = numbered.upto in
    identities_differ history numbered.number (before + 1) numbered.from (omega (arith, last)) upto (sym numbered.is ∙ same)

-- ---- the identities after a write

module _ (P : ℕ → Type 0) where
  -- each entry has an identity with this property
  abbrev pub Each : List Entry → Type 0
  Each entries = (e : Entry) → In e entries → P e.uuid

  each_modified : (entries : List Entry) (found : Option Entry) (edits : List Edit) (csn : CsnValue) → Each entries → Each (modified entries found edits csn)
  each_modified entries None edits csn each x member = each x member
  each_modified entries (Some e) edits csn each x member =
      let f : Entry → Entry = λ other. cond (is_identified e.uuid other) (edited e edits csn) other in
      let was = map_in f entries x member in
      subst P (sym (ap (λ (y : Entry). y.uuid) was.2 ∙ replaced_keeps e.uuid (edited e edits csn) refl was.0)) (each was.0 was.1)

  each_renamed : (entries : List Entry) (found : Option Entry) (rdn : List TypeAndValue) (deletes : Bool) (superior : Option (List (List TypeAndValue))) (csn : CsnValue)
      → Each entries → Each (renamed entries found rdn deletes superior csn)
  each_renamed entries None rdn deletes superior csn each x member = each x member
  each_renamed entries (Some top) rdn deletes superior csn each x member =
      let name = new_name top rdn superior in
      let attrs = new_attributes top rdn deletes in
      let was = map_in (moved top name attrs csn) entries x member in
      subst P (sym (ap (λ (y : Entry). y.uuid) was.2 ∙ moved_keeps top name attrs csn was.0)) (each was.0 was.1)

  -- each identity has a property after a write, where that of the write has it
  pub each_effect : (op : Op) (entries : List Entry) (uuid : ℕ) (csn : CsnValue) → IsWellFormed op → P uuid → Each entries → Each (effect entries op uuid csn)
  each_effect (Add name attrs) entries uuid csn formed new each x member =
      let e : Entry = record { uuid = uuid; csn = csn; dn = name; attrs = attrs } in
      elim (put_in e entries x member) [
        | inl here ↦ subst P (sym (ap (λ (y : Entry). y.uuid) here)) new
        | inr there ↦ each x there
      ]
  each_effect (Delete name) entries uuid csn formed new each x member = each x (filter_in (λ e. not (is_named name e)) entries x member).0
  each_effect (Modify name edits) entries uuid csn formed new each x member = each_modified entries (entry_named entries name) edits csn each x member
  each_effect (Rename name rdn deletes superior) entries uuid csn formed new each x member = each_renamed entries (entry_named entries name) rdn deletes superior csn each x member
  each_effect (Commit puts drops) entries uuid csn formed new each x member = absurd formed
