-- What stands at the path keys of names, as names are taken away and noted.
use Rattle.std.proofs.Common.{◌≡◌, ℕ, Bool, true, false, not, ◌&&◌, cond, nat_eq, List, [], ◌∷◌, length, Option, Some, None, Vec, Global, Bor, refl, sym, ap, subst, ◌∙◌, ◌⊎◌, inl, inr, arith}
use Rattle.std.specs.Prelude.{bytes_eq, is_some, is_none, option_copied}
use Rattle.std.specs.Bool.{MatchBool}
use Rattle.std.specs.BTreeMap.{insert_entry}
use Rattle.std.specs.Cmp.{nat_eq_equiv}
use Rattle.std.specs.BTreeMap.Comparable.{le_lt_trans}
use Rattle.std.specs.Cmp.Lexicographic.{slice_cmp, bytes_decides, nat_list_cmp_total, on_texts}
use Rattle.std.specs.List.{AllByRecursion}
use Rattle.std.specs.List.Sorted.{IsStrictlySortedBy}
use Rattle.std.specs.Map.{keys_of, remove_entry}
use Rattle.std.specs.Option.{unwrap_or}
use Rattle.std.specs.Ordering.{nat_cmp, is_eq}
use Rattle.std.specs.declared.cmp.Ordering.TheVariants.{Less}
use Rattle.std.proofs.lemmas.Bool.{and_parts, eqb-true, eq-eqb, false≢true}
use Rattle.std.proofs.lemmas.Map.Keys.{sorted_head, sorted_tail}
use Rattle.shared_map.specs.Queries.{IsQuery}
use Rattle.shared_map.proofs.Changes.{lookup-insert_entry}
use Rattle.dn_names.specs.Paths.{path_key}
use Rattle.entry_tree.proofs.NameKeys.{key_cmp, is_key, is_key-bytes_eq, key_is, same_bytes}
use Rattle.entry_tree.specs.declared.entry.Entry.{Entry}
use Rattle.entry_tree.specs.State.{entry_at}
use Rattle.sync_model.specs.Copy.{Stage, slot}
use Rattle.entry_tree.specs.NameIndex.{has_path}
use Rattle.sync_consumer.specs.Holding.{HeldNames, id_at, is_id, keeps_name, between, stays, after_stage, Forgets, ForgetsFor, HasLeft, Notes, NotesAll, SetsId, ArePathsApart}

-- of two tests that do not both hold either may come first
swapped : (b t : Bool) (a : ℕ) (found rest : Option ℕ) → (b ≡ true → t ≡ true → ⊥) → cond t (Some a) (cond b found rest) ≡ cond b found (cond t (Some a) rest)
swapped true true a found rest never = absurd (never refl refl)
swapped true false a found rest never = refl
swapped false true a found rest never = refl
swapped false false a found rest never = refl

-- ---- one path key

-- what stands at the path keys after one is noted
pub id_inserted : (names : HeldNames) (key : Vec ℕ Global) (uuid : ℕ) (path : List ℕ)
    → id_at (insert_entry key_cmp names key uuid) path ≡ cond (bytes_eq key.items path) (Some uuid) (id_at names path)
id_inserted names key uuid path =
    lookup-insert_entry (on_texts (λ (k : Vec ℕ Global). k.items)) key uuid query names ∙ ap (λ b. cond b (Some uuid) (id_at names path)) (is_key-bytes_eq path key)
  where
    query : IsQuery key_cmp (λ (k : Vec ℕ Global). slice_cmp nat_cmp path k.items)
    query = record {
      respects = λ x y. nat_list_cmp_total.congr path x.items y.items;
      below_greater = λ x y. le_lt_trans nat_list_cmp_total path x.items y.items;
    }

-- nothing stands at a path key below all
none_beyond : (names : HeldNames) (key : Vec ℕ Global) → AllByRecursion (λ (other : Vec ℕ Global). key_cmp key other ≡ Less) (keys_of names) → id_at names key.items ≡ None
none_beyond [] key below = refl
none_beyond (e ∷ names) key below = ap (λ o. cond (is_eq o) (Some e.1) (id_at names key.items)) below.0 ∙ none_beyond names key below.1

-- what stands at the path keys after one is taken away
pub id_removed : (names : HeldNames) (path other : List ℕ) → IsStrictlySortedBy key_cmp (keys_of names)
    → id_at (remove_entry (is_key path) names) other ≡ cond (bytes_eq path other) None (id_at names other)
id_removed [] path other up = by (bytes_eq path other) where
  by : (b : Bool) → ◌≡◌ {A = Option ℕ} None (cond b None None)
  by true = refl
  by false = refl
id_removed (e ∷ names) path other up =
    by (is_key path e.0) refl (sorted_head key_cmp e.0 (keys_of names) up) (id_removed names path other (sorted_tail key_cmp e.0 (keys_of names) up))
  where
    here : path ≡ e.0.items → AllByRecursion (λ (key : Vec ℕ Global). key_cmp e.0 key ≡ Less) (keys_of names) → (b : Bool) → bytes_eq path other ≡ b
        → id_at names other ≡ cond b None (cond (is_key other e.0) (Some e.1) (id_at names other))
    here is below true same = ap (id_at names) (sym (same_bytes path other same) ∙ is) ∙ none_beyond names e.0 below
    here is below false differ =
        sym (ap (λ b. cond b (Some e.1) (id_at names other)) (is_key-bytes_eq other e.0 ∙ ap (λ text. bytes_eq text other) (sym is) ∙ differ))

    by : (b : Bool) → is_key path e.0 ≡ b → AllByRecursion (λ (key : Vec ℕ Global). key_cmp e.0 key ≡ Less) (keys_of names)
        → id_at (remove_entry (is_key path) names) other ≡ cond (bytes_eq path other) None (id_at names other)
        → id_at (cond b names (e ∷ remove_entry (is_key path) names)) other ≡ cond (bytes_eq path other) None (cond (is_key other e.0) (Some e.1) (id_at names other))
    by true is below rest = here (key_is path e.0 is) below (bytes_eq path other) refl
    by false off below rest =
        ap (λ found. cond (is_key other e.0) (Some e.1) found) rest
        ∙ swapped (bytes_eq path other) (is_key other e.0) e.1 None (id_at names other)
        (λ same there. false≢true (sym off ∙ ap (λ text. is_key text e.0) (same_bytes path other same) ∙ there))

-- the path key of a name that was noted, or taken away
pub sets_inserted : (old new : HeldNames) (key : Vec ℕ Global) (path : List ℕ) (uuid : ℕ) → key.items ≡ path → new ≡ insert_entry key_cmp old key uuid → SetsId old new path (Some uuid)
sets_inserted old new key path uuid is inserted other =
    ap (λ (names : HeldNames). id_at names other) inserted
    ∙ id_inserted old key uuid other
    ∙ ap (λ text. cond (bytes_eq text other) (Some uuid) (id_at old other)) is

-- a name that is taken away has no identity
pub sets_removed : (old new : HeldNames) (text path : List ℕ) → text ≡ path → IsStrictlySortedBy key_cmp (keys_of old) → new ≡ remove_entry (is_key text) old → SetsId old new path None
sets_removed old new text path is up removed other =
    ap (λ (names : HeldNames). id_at names other) removed
    ∙ id_removed old text other up
    ∙ ap (λ t. cond (bytes_eq t other) None (id_at old other)) is

-- without names none stands anywhere
pub sets_empty : (names : HeldNames) (path : List ℕ) → length names ≡ 0 → SetsId names names path None
sets_empty [] path none other = by (bytes_eq path other) where
  by : (b : Bool) → ◌≡◌ {A = Option ℕ} None (cond b None None)
  by true = refl
  by false = refl
sets_empty (e ∷ names) path none other = absurd (omega (arith, none))

-- a path key is free where no identity is found at it
pub free_is : (found : Option (Bor ℕ)) (is_free : Bool) (names : HeldNames) (text path : List ℕ) → is_some found ≡ not is_free → option_copied found ≡ id_at names text → text ≡ path
    → is_free ≡ is_none (id_at names path)
free_is found is_free names text path reports is same = by found is_free reports ∙ ap is_none (is ∙ ap (id_at names) same)
  where
    by : (found : Option (Bor ℕ)) (b : Bool) → is_some found ≡ not b → b ≡ is_none (option_copied found)
    by None true h = refl
    by None false h = absurd (cc)
    by (Some x) true h = absurd (cc)
    by (Some x) false h = refl

-- ---- one identity

other_id : (found : Option ℕ) (k u : ℕ) → is_id found k ≡ true → nat_eq u k ≡ false → is_id found u ≡ false
other_id None k u is off = refl
other_id (Some v) k u is off =
    ap (λ n. nat_eq n u) (eqb-true v k is) ∙ nat_eq_equiv.symm k u ∙ off

-- the name of an identity is taken away
pub forgets : (old new : HeldNames) (entry_of after : ℕ → Option Entry) (e : Entry) (k : ℕ) → Notes old entry_of → entry_of k ≡ Some e → SetsId old new (path_key e.dn) None
    → ((u : ℕ) → after u ≡ cond (nat_eq u k) None (entry_of u)) → Notes new after
forgets old new entry_of after e k notes has sets is path u =
    ap (λ found. is_id found u) (sets path)
    ∙ by (bytes_eq (path_key e.dn) path) refl (nat_eq u k) refl
    ∙ sym (ap (has_path path) (is u))
  where
    own : is_id (id_at old path) k ≡ bytes_eq (path_key e.dn) path
    own = notes path k ∙ ap (has_path path) has

    by : (b : Bool) → bytes_eq (path_key e.dn) path ≡ b → (c : Bool) → nat_eq u k ≡ c
        → is_id (cond b None (id_at old path)) u ≡ has_path path (cond c None (entry_of u))
    by true here true same = refl
    by true here false other = sym (sym (notes path u) ∙ other_id (id_at old path) k u (own ∙ here) other)
    by false off true same = ap (λ n. is_id (id_at old path) n) (eqb-true u k same) ∙ own ∙ off
    by false off false other = notes path u

-- an identity without an entry has no name
pub untouched : (names : HeldNames) (entry_of after : ℕ → Option Entry) (k : ℕ) → Notes names entry_of → entry_of k ≡ None
    → ((u : ℕ) → after u ≡ cond (nat_eq u k) None (entry_of u)) → Notes names after
untouched names entry_of after k notes none is path u = notes path u ∙ ap (has_path path) (by (nat_eq u k) refl ∙ sym (is u))
  where
    by : (c : Bool) → nat_eq u k ≡ c → entry_of u ≡ cond c None (entry_of u)
    by true same = ap entry_of (eqb-true u k same) ∙ none
    by false other = refl

-- the name of an identity is noted at a path key at which nothing stands
pub notes_name : (old new : HeldNames) (entry_of after : ℕ → Option Entry) (e : Entry) → Notes old entry_of → entry_of e.uuid ≡ None → id_at old (path_key e.dn) ≡ None
    → SetsId old new (path_key e.dn) (Some e.uuid) → ((u : ℕ) → after u ≡ cond (nat_eq u e.uuid) (Some e) (entry_of u)) → Notes new after
notes_name old new entry_of after e notes none free sets is path u =
    ap (λ found. is_id found u) (sets path)
    ∙ by (bytes_eq (path_key e.dn) path) refl (nat_eq u e.uuid) refl
    ∙ sym (ap (has_path path) (is u))
  where
    by : (b : Bool) → bytes_eq (path_key e.dn) path ≡ b → (c : Bool) → nat_eq u e.uuid ≡ c
        → is_id (cond b (Some e.uuid) (id_at old path)) u ≡ has_path path (cond c (Some e) (entry_of u))
    by true here true same = nat_eq_equiv.symm e.uuid u ∙ same ∙ sym here
    by true here false other =
        nat_eq_equiv.symm e.uuid u ∙ other
        ∙ sym (sym (notes path u) ∙ ap (λ found. is_id found u) (ap (id_at old) (sym (same_bytes (path_key e.dn) path here)) ∙ free))
    by false off true same = notes path u ∙ ap (has_path path) (ap entry_of (eqb-true u e.uuid same) ∙ none) ∙ sym off
    by false off false other = notes path u

-- ---- names that stay

-- where a change keeps a name, what it puts has the path keys that the entry before it had
kept_path : (was put : Option Entry) (path : List ℕ) → keeps_name was put ≡ true → has_path path put ≡ has_path path was
kept_path None put path kept = absurd (false≢true kept)
kept_path (Some w) None path kept = absurd (false≢true kept)
kept_path (Some w) (Some e) path kept = ap (λ text. bytes_eq text path) (sym (same_bytes (path_key w.dn) (path_key e.dn) kept))

-- the names of one identity more are taken away, but for one that stays
pub forgets_more : (held : List Entry) (old new : HeldNames) (c : ℕ × Option Entry) (rest : Stage) → slot rest c.0 ≡ None → ForgetsFor held c old new → Notes old (stays held rest)
    → Notes new (stays held (c ∷ rest))
forgets_more held old new c rest none gone notes = by (keeps_name (entry_at held c.0) c.1) refl gone
  where
    was : stays held rest c.0 ≡ entry_at held c.0
    was = ap (λ (found : Option (Option Entry)). between found (entry_at held c.0)) none

    -- the name stays
    kept : keeps_name (entry_at held c.0) c.1 ≡ true → (path : List ℕ) (u : ℕ) → has_path path (stays held rest u) ≡ has_path path (stays held (c ∷ rest) u)
    kept is path u = each (nat_eq u c.0) refl where
      each : (b : Bool) → nat_eq u c.0 ≡ b → has_path path (stays held rest u) ≡ has_path path (between (cond b (Some c.1) (slot rest u)) (entry_at held u))
      each true same =
          let one = eqb-true u c.0 same in
          ap (λ n. has_path path (stays held rest n)) one
          ∙ ap (has_path path) was
          ∙ sym (kept_path (entry_at held c.0) c.1 path is)
          ∙ ap (λ k. has_path path (cond k c.1 None)) (sym is)
          ∙ ap (λ n. has_path path (between (Some c.1) (entry_at held n))) (sym one)
      each false other = refl

    -- it is taken away
    after : keeps_name (entry_at held c.0) c.1 ≡ false → (u : ℕ) → stays held (c ∷ rest) u ≡ cond (nat_eq u c.0) None (stays held rest u)
    after off u = each (nat_eq u c.0) refl where
      each : (b : Bool) → nat_eq u c.0 ≡ b → between (cond b (Some c.1) (slot rest u)) (entry_at held u) ≡ cond b None (stays held rest u)
      each true same = ap (λ n. between (Some c.1) (entry_at held n)) (eqb-true u c.0 same) ∙ ap (λ k. cond k c.1 None) off
      each false other = refl

    left : keeps_name (entry_at held c.0) c.1 ≡ false → (found : Option Entry) → entry_at held c.0 ≡ found → Forgets old new found → Notes new (stays held (c ∷ rest))
    left off None is same =
        subst (λ (names : HeldNames). Notes names (stays held (c ∷ rest))) (sym same) (untouched old (stays held rest) (stays held (c ∷ rest)) c.0 notes (was ∙ is) (after off))
    left off (Some e) is sets = forgets old new (stays held rest) (stays held (c ∷ rest)) e c.0 notes (was ∙ is) sets (after off)

    by : (b : Bool) → keeps_name (entry_at held c.0) c.1 ≡ b → MatchBool b (new ≡ old) (Forgets old new (entry_at held c.0)) → Notes new (stays held (c ∷ rest))
    by true is same =
        subst (λ (names : HeldNames). Notes names (stays held (c ∷ rest))) (sym same) (λ path u. notes path u ∙ kept is path u)
    by false off forgotten = left off (entry_at held c.0) refl forgotten

-- ---- one change

-- the identity of one change has nothing, where the change does not keep its name
nothing_left : (held : List Entry) (entry_of : ℕ → Option Entry) (c : ℕ × Option Entry) → keeps_name (entry_at held c.0) c.1 ≡ false → HasLeft held entry_of (c ∷ []) → (u : ℕ) → nat_eq u c.0 ≡ true → entry_of u ≡ None
nothing_left held entry_of c off left u same =
    left u (ap (λ b. is_some (cond {A = Option (Option Entry)} b (Some c.1) None)) same)
    ∙ ap (λ b. between (cond {A = Option (Option Entry)} b (Some c.1) None) (entry_at held u)) same
    ∙ ap (λ n. between (Some c.1) (entry_at held n)) (eqb-true u c.0 same)
    ∙ ap (λ k. cond k c.1 None) off

-- a change that keeps the name of its identity notes nothing
pub notes_kept : (held : List Entry) (names : HeldNames) (c : ℕ × Option Entry) → keeps_name (entry_at held c.0) c.1 ≡ true → NotesAll held names names (c ∷ []) true
notes_kept held names c kept entry_of notes left how path u = notes path u ∙ ap (has_path path) (by (nat_eq u c.0) refl)
  where
    by : (b : Bool) → nat_eq u c.0 ≡ b → entry_of u ≡ unwrap_or (cond {A = Option (Option Entry)} b (Some c.1) None) (entry_of u)
    by true same =
        left u (ap (λ b. is_some (cond {A = Option (Option Entry)} b (Some c.1) None)) same)
        ∙ ap (λ b. between (cond {A = Option (Option Entry)} b (Some c.1) None) (entry_at held u)) same
        ∙ ap (λ n. between (Some c.1) (entry_at held n)) (eqb-true u c.0 same)
        ∙ ap (λ k. cond k c.1 None) kept
    by false other = refl

-- nothing is put
pub notes_none : (held : List Entry) (names : HeldNames) (uuid : ℕ) → keeps_name (entry_at held uuid) None ≡ false → NotesAll held names names ((uuid, None) ∷ []) true
notes_none held names uuid off entry_of notes left how path u = notes path u ∙ ap (has_path path) (by (nat_eq u uuid) refl)
  where
    by : (b : Bool) → nat_eq u uuid ≡ b → entry_of u ≡ unwrap_or (cond {A = Option (Option Entry)} b (Some None) None) (entry_of u)
    by true same = nothing_left held entry_of (uuid, None) off left u same
    by false other = refl

-- an entry is put
pub notes_put : (held : List Entry) (old new : HeldNames) (e : Entry) (is_free : Bool) → keeps_name (entry_at held e.uuid) (Some e) ≡ false → is_free ≡ is_none (id_at old (path_key e.dn))
    → SetsId old new (path_key e.dn) (Some e.uuid) → NotesAll held old new ((e.uuid, Some e) ∷ []) is_free
notes_put held old new e is_free off was sets entry_of notes left how =
    notes_name old new entry_of (after_stage entry_of ((e.uuid, Some e) ∷ [])) e notes none (absent how) sets (λ u. put u (nat_eq u e.uuid))
  where
    after : ℕ → Option Entry
    after = after_stage entry_of ((e.uuid, Some e) ∷ [])

    own : nat_eq e.uuid e.uuid ≡ true
    own = eq-eqb e.uuid e.uuid refl

    none : entry_of e.uuid ≡ None
    none = nothing_left held entry_of (e.uuid, Some e) off left e.uuid own

    put : (u : ℕ) (c : Bool) → unwrap_or (cond {A = Option (Option Entry)} c (Some (Some e)) None) (entry_of u) ≡ cond c (Some e) (entry_of u)
    put u true = refl
    put u false = refl

    -- the identity that stands at the path key has an entry with it, and so has this one after it
    never : ArePathsApart after → (v : ℕ) → id_at old (path_key e.dn) ≡ Some v → ⊥
    never far v there =
        let stood : has_path (path_key e.dn) (entry_of v) ≡ true = sym (notes (path_key e.dn) v) ∙ ap (λ found. is_id found v) there ∙ eq-eqb v v refl in
        by (nat_eq v e.uuid) refl stood
      where
        by : (c : Bool) → nat_eq v e.uuid ≡ c → has_path (path_key e.dn) (entry_of v) ≡ true → ⊥
        by true same stood = false≢true (sym (ap (has_path (path_key e.dn)) (ap entry_of (eqb-true v e.uuid same) ∙ none)) ∙ stood)
        by false other stood =
            let mine : has_path (path_key e.dn) (after e.uuid) ≡ true =
            ap (has_path (path_key e.dn)) (put e.uuid (nat_eq e.uuid e.uuid) ∙ ap (λ c. cond c (Some e) (entry_of e.uuid)) own) ∙ (bytes_decides (path_key e.dn) (path_key e.dn)).1 refl in
            let others : has_path (path_key e.dn) (after v) ≡ true =
            ap (has_path (path_key e.dn)) (put v (nat_eq v e.uuid) ∙ ap (λ c. cond c (Some e) (entry_of v)) other) ∙ stood in
            false≢true (sym other ∙ eq-eqb v e.uuid (far (path_key e.dn) v e.uuid others mine))

    absent : (is_free ≡ true) ⊎ ArePathsApart after → id_at old (path_key e.dn) ≡ None
    absent (inl freed) = by (id_at old (path_key e.dn)) (sym was ∙ freed) where
      by : (found : Option ℕ) → is_none found ≡ true → found ≡ None
      by None is = refl
      by (Some v) is = absurd (false≢true is)
    absent (inr far) = by (id_at old (path_key e.dn)) refl where
      by : (found : Option ℕ) → id_at old (path_key e.dn) ≡ found → id_at old (path_key e.dn) ≡ None
      by None is = is
      by (Some v) is = absurd (never far v is)

-- ---- a change more

-- the names of one change are noted after those of the others
pub notes_more : (held : List Entry) (old mid new : HeldNames) (c : ℕ × Option Entry) (rest : Stage) (others own : Bool) → slot rest c.0 ≡ None
    → NotesAll held old mid rest others → NotesAll held mid new (c ∷ []) own → NotesAll held old new (c ∷ rest) (others && own)
notes_more held old mid new c rest others own none first last entry_of notes left how path u =
    last before (first entry_of notes rest_left (earlier how)) own_left (later how) path u
    ∙ ap (has_path path) (same u (nat_eq u c.0))
  where
    before : ℕ → Option Entry
    before = after_stage entry_of rest

    same : (u : ℕ) (b : Bool) → unwrap_or (cond {A = Option (Option Entry)} b (Some c.1) None) (unwrap_or (slot rest u) (entry_of u)) ≡ unwrap_or (cond b (Some c.1) (slot rest u)) (entry_of u)
    same u true = refl
    same u false = refl

    -- what the change keeps or not, of an identity of its own
    own_stays : (u : ℕ) → nat_eq u c.0 ≡ true → entry_of u ≡ between (Some c.1) (entry_at held u)
    own_stays u is =
        left u (ap (λ b. is_some (cond b (Some c.1) (slot rest u))) is)
        ∙ ap (λ b. between (cond b (Some c.1) (slot rest u)) (entry_at held u)) is

    rest_left : HasLeft held entry_of rest
    rest_left u some = by (nat_eq u c.0) refl where
      by : (b : Bool) → nat_eq u c.0 ≡ b → entry_of u ≡ stays held rest u
      by true is = absurd (false≢true (sym (ap is_some (ap (slot rest) (eqb-true u c.0 is) ∙ none)) ∙ some))
      by false off =
          left u (ap (λ b. is_some (cond b (Some c.1) (slot rest u))) off ∙ some)
          ∙ ap (λ b. between (cond b (Some c.1) (slot rest u)) (entry_at held u)) off

    own_left : HasLeft held before (c ∷ [])
    own_left u some = by (nat_eq u c.0) refl some where
      by : (b : Bool) → nat_eq u c.0 ≡ b → is_some (cond {A = Option (Option Entry)} b (Some c.1) None) ≡ true → unwrap_or (slot rest u) (entry_of u) ≡ between (cond {A = Option (Option Entry)} b (Some c.1) None) (entry_at held u)
      by true is some =
          ap (λ found. unwrap_or found (entry_of u)) (ap (slot rest) (eqb-true u c.0 is) ∙ none) ∙ own_stays u is
      by false off some = absurd (false≢true some)

    -- an identity with a name before it has it after it
    stays_on : (path : List ℕ) (u : ℕ) → has_path path (before u) ≡ true → has_path path (after_stage entry_of (c ∷ rest) u) ≡ true
    stays_on path u has = by (nat_eq u c.0) refl where
      put : (k : Bool) → has_path path (cond k c.1 None) ≡ true → has_path path c.1 ≡ true
      put true is = is
      put false is = absurd (false≢true is)

      by : (b : Bool) → nat_eq u c.0 ≡ b → has_path path (unwrap_or (cond b (Some c.1) (slot rest u)) (entry_of u)) ≡ true
      by true is =
          put (keeps_name (entry_at held u) c.1)
          (sym (ap (has_path path) (ap (λ found. unwrap_or found (entry_of u)) (ap (slot rest) (eqb-true u c.0 is) ∙ none) ∙ own_stays u is)) ∙ has)
      by false off = has

    earlier : ((others && own) ≡ true) ⊎ ArePathsApart (after_stage entry_of (c ∷ rest)) → (others ≡ true) ⊎ ArePathsApart before
    earlier (inl both) = inl (and_parts others own both).0
    earlier (inr far) = inr (λ path one other has has'. far path one other (stays_on path one has) (stays_on path other has'))

    later : ((others && own) ≡ true) ⊎ ArePathsApart (after_stage entry_of (c ∷ rest)) → (own ≡ true) ⊎ ArePathsApart (after_stage before (c ∷ []))
    later (inl both) = inl (and_parts others own both).1
    later (inr far) =
        inr (λ path one other has has'. far path one other (sym (ap (has_path path) (same one (nat_eq one c.0))) ∙ has) (sym (ap (has_path path) (same other (nat_eq other c.0))) ∙ has'))

-- no changes note nothing
pub notes_nothing : (held : List Entry) (names : HeldNames) (others : Bool) → NotesAll held names names [] others
notes_nothing held names others entry_of notes left how = notes
