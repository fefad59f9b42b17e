-- A write to entries of one part of the names: what it does there, and that it leaves other parts as they are.
use Rattle.std.proofs.Common.{◌≡◌, ℕ, Bool, true, false, not, nat_lt, if◌then◌else◌, List, [], ◌∷◌, ◌++◌, inl, inr, map, filter, Option, Some, None, refl, sym, ap, ◌∙◌, append-nil}
use Rattle.std.specs.Prelude.{unwrap_or}
use Rattle.std.proofs.lemmas.Bool.{false≢true}
use Rattle.std.proofs.lemmas.List.Elements.{filter-append}
use Rattle.schema_rules.specs.declared.attributes.Attribute.{Attribute}
use Rattle.csn_cookie.specs.Csn.{CsnValue}
use Rattle.dn_names.specs.Names.{TypeAndValue, same_name, is_at_or_below, parent_of, moved_name}
use Rattle.entry_writes.specs.declared.edit.Edit.{Edit}
use Rattle.entry_writes.specs.declared.entry.Entry.{Entry}
use Rattle.entry_writes.specs.declared.op.Op.{Op}
use Rattle.entry_writes.specs.declared.op.Op.TheVariants.{Add, Delete, Modify, Rename, Commit}
use Rattle.entry_writes.specs.Effects.{edited, modified, new_name, new_attributes, moved, renamed, effect}
use Rattle.entry_writes.specs.State.{ascends, is_named, entry_named}
use Rattle.entry_tree.proofs.Directory.{ascends_filter}
use Rattle.entry_tree.proofs.Finding.{found_passes}
use Rattle.drill_plan.proofs.Firsts.{with_first, mapped_same, with_first_found, made_by, first_identified}
use Rattle.drill_plan.proofs.Filtered.{filter_no, filter_swap, filter_within, find_within, filter_first, filter_unseen, IsUnseen}
use Rattle.drill_plan.proofs.Plainly.{Name, all_before, put_last, moved_with, moved_parts}

-- what is below a name of the part, equals one, or moves below one, is of the part
pub record IsRegion (own : Name → Bool) : Type 0 where
  pub below : (name other : Name) → is_at_or_below name other ≡ true → own other ≡ true → own name ≡ true
  pub same : (name other : Name) → same_name name other ≡ true → own other ≡ true → own name ≡ true
  pub moves : (name from to : Name) → own to ≡ true → own (moved_name name from to) ≡ true

-- an operation on entries of the part, which stay there
abbrev pub IsWithin : (Name → Bool) → Op → Type 0
IsWithin own (Add name attrs) = own name ≡ true
IsWithin own (Delete name) = own name ≡ true
IsWithin own (Modify name edits) = own name ≡ true
IsWithin own (Rename name rdn deletes superior) =
    (own name ≡ true)
    × ((top : Name) → same_name top name ≡ true → own (rdn ∷ unwrap_or superior (parent_of top)) ≡ true)
IsWithin own (Commit puts drops) = ⊥

-- the entries of the part
abbrev pub part : (Name → Bool) → List Entry → List Entry
part own entries = filter (λ (e : Entry). own e.dn) entries

-- ---- what a modification and a new name make of each entry

modified_first : (entries : List Entry) (top : Entry) (name : Name) (edits : List Edit) (csn : CsnValue) → ascends entries ≡ true
    → entry_named entries name ≡ Some top
    → modified entries (Some top) edits csn ≡ with_first (is_named name) (λ (e : Entry). edited e edits csn) (λ (e : Entry). e) entries
modified_first entries top name edits csn rise found =
    first_identified (is_named name) (λ e. edited top edits csn) (λ (e : Entry). e) entries top rise found
    ∙ with_first_found (is_named name) (λ e. edited top edits csn) (λ (e : Entry). edited e edits csn) (λ (e : Entry). e) entries top found refl

renamed_first : (entries : List Entry) (top : Entry) (name to : Name) (attrs : List Attribute) (csn : CsnValue) → ascends entries ≡ true
    → entry_named entries name ≡ Some top
    → map (moved top to attrs csn) entries
    ≡ with_first (is_named name) (moved_with top to csn attrs) (λ (x : Entry). moved_with top to csn x.attrs x) entries
renamed_first entries top name to attrs csn rise found =
    mapped_same (moved top to attrs csn) (made_by (moved_with top to csn attrs) (λ (x : Entry). moved_with top to csn x.attrs x) top.uuid)
    (moved_parts top to attrs csn) entries
    ∙ first_identified (is_named name) (moved_with top to csn attrs) (λ (x : Entry). moved_with top to csn x.attrs x) entries top rise found

-- ---- in its own part

module _ (own : Name → Bool) (region : IsRegion own) where
  named_own : (name : Name) (e : Entry) → own name ≡ true → is_named name e ≡ true → own e.dn ≡ true
  named_own name e is named = region.same e.dn name named is

  moved_own : (top : Entry) (to : Name) (csn : CsnValue) (attrs : List Attribute) (e : Entry) → own top.dn ≡ true → own to ≡ true
      → own (moved_with top to csn attrs e).dn ≡ own e.dn
  moved_own top to csn attrs e top_own to_own = by (is_at_or_below e.dn top.dn) refl
    where
      by : (b : Bool) → is_at_or_below e.dn top.dn ≡ b → own (moved_with top to csn attrs e).dn ≡ own e.dn
      by true below =
          ap (λ b. own (if b then record { uuid = e.uuid; csn = csn; dn = moved_name e.dn top.dn to; attrs = attrs } else e).dn) below
          ∙ region.moves e.dn top.dn to to_own
          ∙ sym (region.below e.dn top.dn below top_own)
      by false far =
          ap (λ b. own (if b then record { uuid = e.uuid; csn = csn; dn = moved_name e.dn top.dn to; attrs = attrs } else e).dn) far

  part_modified : (entries : List Entry) (name : Name) (edits : List Edit) (csn : CsnValue) (found : Option Entry) → own name ≡ true
      → ascends entries ≡ true → entry_named entries name ≡ found
      → part own (modified entries found edits csn) ≡ modified (part own entries) found edits csn
  part_modified entries name edits csn None is rise found = refl
  part_modified entries name edits csn (Some top) is rise found =
      let there : entry_named (part own entries) name ≡ Some top =
      find_within (λ (e : Entry). own e.dn) (is_named name) (λ e named. named_own name e is named) entries ∙ found in
      ap (part own) (modified_first entries top name edits csn rise found)
      ∙ filter_first (λ (e : Entry). own e.dn) (is_named name) (λ (e : Entry). edited e edits csn) (λ (e : Entry). e)
      (λ e named. named_own name e is named) (λ e. refl) (λ e. refl) entries
      ∙ sym (modified_first (part own entries) top name edits csn (ascends_filter (λ (e : Entry). own e.dn) entries rise) there)

  part_renamed : (entries : List Entry) (name : Name) (rdn : List TypeAndValue) (deletes : Bool) (superior : Option Name) (csn : CsnValue)
      (found : Option Entry) → IsWithin own (Rename name rdn deletes superior) → ascends entries ≡ true → entry_named entries name ≡ found
      → part own (renamed entries found rdn deletes superior csn) ≡ renamed (part own entries) found rdn deletes superior csn
  part_renamed entries name rdn deletes superior csn None within rise found = refl
  part_renamed entries name rdn deletes superior csn (Some top) within rise found =
      let to = new_name top rdn superior in
      let attrs = new_attributes top rdn deletes in
      let named : is_named name top ≡ true = found_passes (is_named name) entries top found in
      let top_own = region.same top.dn name named within.0 in
      let to_own : own to ≡ true = within.1 top.dn named in
      let there : entry_named (part own entries) name ≡ Some top =
      find_within (λ (e : Entry). own e.dn) (is_named name) (λ e is. named_own name e within.0 is) entries ∙ found in
      ap (part own) (renamed_first entries top name to attrs csn rise found)
      ∙ filter_first (λ (e : Entry). own e.dn) (is_named name) (moved_with top to csn attrs) (λ (x : Entry). moved_with top to csn x.attrs x)
      (λ e is. named_own name e within.0 is) (λ e. moved_own top to csn attrs e top_own to_own)
      (λ e. moved_own top to csn e.attrs e top_own to_own) entries
      ∙ sym (renamed_first (part own entries) top name to attrs csn (ascends_filter (λ (e : Entry). own e.dn) entries rise) there)

  part_put : (e : Entry) (entries : List Entry) → own e.dn ≡ true
      → part own (filter (λ (x : Entry). nat_lt x.uuid e.uuid) entries ++ e ∷ filter (λ x. nat_lt e.uuid x.uuid) entries)
      ≡ filter (λ (x : Entry). nat_lt x.uuid e.uuid) (part own entries) ++ e ∷ filter (λ x. nat_lt e.uuid x.uuid) (part own entries)
  part_put e entries is =
      let low : Entry → Bool = λ x. nat_lt x.uuid e.uuid in
      let high : Entry → Bool = λ x. nat_lt e.uuid x.uuid in
      filter-append (λ (x : Entry). own x.dn) (filter low entries) (e ∷ filter high entries)
      ∙ ap (λ b. part own (filter low entries) ++ (if b then e ∷ part own (filter high entries) else part own (filter high entries))) is
      ∙ ap (λ front. front ++ e ∷ part own (filter high entries)) (filter_swap (λ (x : Entry). own x.dn) low entries)
      ∙ ap (λ back. filter low (part own entries) ++ e ∷ back) (filter_swap (λ (x : Entry). own x.dn) high entries)

  -- what is done in a part depends on its entries alone
  pub part_effect : (op : Op) (entries : List Entry) (uuid : ℕ) (csn : CsnValue) → IsWithin own op → ascends entries ≡ true
      → part own (effect entries op uuid csn) ≡ effect (part own entries) op uuid csn
  part_effect (Add name attrs) entries uuid csn within rise =
      part_put (record { uuid = uuid; csn = csn; dn = name; attrs = attrs }) entries within
  part_effect (Delete name) entries uuid csn within rise = filter_swap (λ (e : Entry). own e.dn) (λ (e : Entry). not (is_named name e)) entries
  part_effect (Modify name edits) entries uuid csn within rise =
      part_modified entries name edits csn (entry_named entries name) within rise refl
      ∙ ap (λ found. modified (part own entries) found edits csn)
      (sym (find_within (λ (e : Entry). own e.dn) (is_named name) (λ e named. named_own name e within named) entries))
  part_effect (Rename name rdn deletes superior) entries uuid csn within rise =
      part_renamed entries name rdn deletes superior csn (entry_named entries name) within rise refl
      ∙ ap (λ found. renamed (part own entries) found rdn deletes superior csn)
      (sym (find_within (λ (e : Entry). own e.dn) (is_named name) (λ e named. named_own name e within.0 named) entries))
  part_effect (Commit puts drops) entries uuid csn within rise = absurd within

  -- ---- in another part

  module _ (other : Name → Bool) (apart : (name : Name) → own name ≡ true → other name ≡ false) where
    moved_unseen : (top : Entry) (to : Name) (csn : CsnValue) (attrs : List Attribute) (e : Entry) → own top.dn ≡ true → own to ≡ true
        → IsUnseen (λ (x : Entry). other x.dn) (λ (x : Entry). moved_with top to csn x.attrs x) e
    moved_unseen top to csn attrs e top_own to_own = by (is_at_or_below e.dn top.dn) refl
      where
        by : (b : Bool) → is_at_or_below e.dn top.dn ≡ b → IsUnseen (λ (x : Entry). other x.dn) (λ (x : Entry). moved_with top to csn x.attrs x) e
        by true below =
            inl (
              apart e.dn (region.below e.dn top.dn below top_own),
              ap (λ b. other (if b then record { uuid = e.uuid; csn = csn; dn = moved_name e.dn top.dn to; attrs = e.attrs } else e).dn) below
                  ∙ apart (moved_name e.dn top.dn to) (region.moves e.dn top.dn to to_own),
            )
        by false far =
            inr (ap (λ b. if b then record { uuid = e.uuid; csn = csn; dn = moved_name e.dn top.dn to; attrs = e.attrs } else e) far)

    other_modified : (entries : List Entry) (name : Name) (edits : List Edit) (csn : CsnValue) (found : Option Entry) → own name ≡ true
        → ascends entries ≡ true → entry_named entries name ≡ found
        → part other (modified entries found edits csn) ≡ part other entries
    other_modified entries name edits csn None is rise found = refl
    other_modified entries name edits csn (Some top) is rise found =
        ap (part other) (modified_first entries top name edits csn rise found)
        ∙ filter_unseen (λ (e : Entry). other e.dn) (is_named name) (λ (e : Entry). edited e edits csn) (λ (e : Entry). e)
        (λ e named. let out = apart e.dn (named_own name e is named) in (out, out)) (λ e. inr refl) entries

    other_renamed : (entries : List Entry) (name : Name) (rdn : List TypeAndValue) (deletes : Bool) (superior : Option Name) (csn : CsnValue)
        (found : Option Entry) → IsWithin own (Rename name rdn deletes superior) → ascends entries ≡ true → entry_named entries name ≡ found
        → part other (renamed entries found rdn deletes superior csn) ≡ part other entries
    other_renamed entries name rdn deletes superior csn None within rise found = refl
    other_renamed entries name rdn deletes superior csn (Some top) within rise found =
        let to = new_name top rdn superior in
        let attrs = new_attributes top rdn deletes in
        let named : is_named name top ≡ true = found_passes (is_named name) entries top found in
        let top_own = region.same top.dn name named within.0 in
        let to_own : own to ≡ true = within.1 top.dn named in
        ap (part other) (renamed_first entries top name to attrs csn rise found)
        ∙ filter_unseen (λ (e : Entry). other e.dn) (is_named name) (moved_with top to csn attrs) (λ (x : Entry). moved_with top to csn x.attrs x)
        (λ e is.
        let mine = named_own name e within.0 is in (
          apart e.dn mine,
          apart (moved_with top to csn attrs e).dn (moved_own top to csn attrs e top_own to_own ∙ mine),
        ))
        (λ e. moved_unseen top to csn attrs e top_own to_own) entries

    -- nothing is done in a part without names of the operation's
    pub other_effect : (op : Op) (entries : List Entry) (uuid : ℕ) (csn : CsnValue) → IsWithin own op → ascends entries ≡ true
        → all_before uuid entries ≡ true → part other (effect entries op uuid csn) ≡ part other entries
    other_effect (Add name attrs) entries uuid csn within rise low =
        let e : Entry = record { uuid = uuid; csn = csn; dn = name; attrs = attrs } in
        ap (part other) (put_last e entries low)
        ∙ filter-append (λ (x : Entry). other x.dn) entries (e ∷ [])
        ∙ ap (λ back. part other entries ++ back) (filter_no (λ (x : Entry). other x.dn) e [] (apart name within))
        ∙ append-nil (part other entries)
    other_effect (Delete name) entries uuid csn within rise low =
        filter_within (λ (e : Entry). not (is_named name e)) (λ (e : Entry). other e.dn) (λ e is. stays name e within is) entries
      where
        stays : (name : Name) (e : Entry) → own name ≡ true → other e.dn ≡ true → not (is_named name e) ≡ true
        stays name e name_own is = by (is_named name e) refl
          where
            by : (b : Bool) → is_named name e ≡ b → not (is_named name e) ≡ true
            by true named = absurd (false≢true (sym (apart e.dn (named_own name e name_own named)) ∙ is))
            by false far = ap not far
    other_effect (Modify name edits) entries uuid csn within rise low =
        other_modified entries name edits csn (entry_named entries name) within rise refl
    other_effect (Rename name rdn deletes superior) entries uuid csn within rise low =
        other_renamed entries name rdn deletes superior csn (entry_named entries name) within rise refl
    other_effect (Commit puts drops) entries uuid csn within rise low = absurd within
