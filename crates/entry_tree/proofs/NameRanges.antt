-- The path keys of an index that begin with another.
use Rattle.std.proofs.Common.{◌≡◌, ◌<◌, ℕ, Bool, true, false, not, ◌&&◌, ◌||◌, cond, nat_eq, List, [], ◌∷◌, ◌++◌, suc, length, get_or, drop, Option, Some, None, Vec, Global, sym, ap, refl, ◌∙◌, subst, arith, append-nil}
use Rattle.std.specs.Prelude.{bytes_eq, All, IfSome}
use Rattle.std.specs.Cmp.{nat_cmp_total, tied_itself}
use Rattle.std.specs.Cmp.Lexicographic.{slice_cmp, bytes_decides, nat_list_cmp_total}
use Rattle.std.specs.List.{AllByRecursion, list_any, starts_with}
use Rattle.std.specs.List.Sorted.{IsStrictlySortedBy}
use Rattle.std.specs.Map.{keys_of, lookup_entry}
use Rattle.std.specs.Ordering.{nat_cmp, is_eq, is_gt, is_lt, ordering_then}
use Rattle.std.specs.declared.cmp.Ordering.TheVariants.{Less}
use Rattle.std.proofs.lemmas.Bool.{and_parts, and_from, false≢true, eq-eqb}
use Rattle.std.proofs.lemmas.Bool.Decides.{Decides-eqb}
use Rattle.std.proofs.lemmas.Map.Keys.{sorted_head, sorted_tail}
use Rattle.std.proofs.lemmas.Map.Text.{is_eq-slice_cmp}
use Rattle.std.proofs.lemmas.Slice.Eq.{starts_is}
use Rattle.shared_map.proofs.Beginnings.{begun_by, between}
use Rattle.dn_names.specs.Names.{TypeAndValue, is_at_or_below}
use Rattle.csn_cookie.proofs.OrderLemmas.{less_from}
use Rattle.dn_names.specs.Paths.{path_key, HasPath}
use Rattle.dn_names.proofs.PathKeys.{starts_is_below, equal_is_same}
use Rattle.entry_writes.specs.declared.entry.Entry.{Entry}
use Rattle.entry_writes.specs.State.{ascends, entry_at, is_identified, is_named, has_below}
use Rattle.entry_writes.proofs.Identities.{at_each}
use Rattle.entry_tree.specs.NameIndex.{Names, found_at, listed, stands_at, has_path, is_longer, IsLonger, IsIndex, HasNoEmpty, HasPathKey}
use Rattle.entry_tree.proofs.Moving.{any_where_held}
use Rattle.entry_tree.proofs.NameKeys.{key_cmp, is_key, key_is, own_key}
use Rattle.entry_tree.proofs.Rising.{among}

-- ---- the order of texts

-- a text is below each longer one that begins with it
below_longer : (path rest : List ℕ) → 0 < length rest → slice_cmp nat_cmp path (path ++ rest) ≡ Less
below_longer [] [] some = absurd (omega arith)
below_longer [] (y ∷ rest) some = refl
below_longer (x ∷ path) rest some =
    ap (λ o. ordering_then o (slice_cmp nat_cmp path (path ++ rest))) (tied_itself nat_cmp_total x) ∙ below_longer path rest some

-- a longer text, in its parts
parts_of : (longer path : List ℕ) → is_longer longer path ≡ true → (rest : List ℕ) × (0 < length rest) × (longer ≡ path ++ rest)
parts_of longer path is =
    let both = and_parts (starts_with nat_eq longer path) (not (bytes_eq longer path)) is in
    let whole : longer ≡ path ++ drop (length path) longer = (starts_is Decides-eqb longer path (starts_with nat_eq longer path) refl).0 both.0 in
    (drop (length path) longer, some (drop (length path) longer) whole (bytes_eq longer path) refl both.1, whole)
  where
    some : (rest : List ℕ) → longer ≡ path ++ rest → (b : Bool) → bytes_eq longer path ≡ b → not b ≡ true → 0 < length rest
    some [] same true equal never = absurd (false≢true never)
    some [] same false differ is = absurd (false≢true (sym differ ∙ (bytes_decides longer path).1 (same ∙ append-nil path)))
    some (y ∷ rest) same b equal is = omega arith

-- what is above a text is not equal to it
other_above : (path next : List ℕ) → slice_cmp nat_cmp path next ≡ Less → bytes_eq next path ≡ false
other_above path next less = by (bytes_eq next path) refl
  where
    by : (b : Bool) → bytes_eq next path ≡ b → b ≡ false
    by false differ = refl
    by true same =
        absurd (false≢true (sym (ap is_eq less) ∙ is_eq-slice_cmp path next ∙ (bytes_decides path next).1 (sym ((bytes_decides next path).0 same))))

-- ---- the first key above a path

-- the key is above the path
abbrev pub is_above : List ℕ → Vec ℕ Global → Bool
is_above path key = is_lt (slice_cmp nat_cmp path key.items)

-- the first key that is above a path is a key of the index
pub next_found : (path : List ℕ) (names : Names) (next ids : Vec ℕ Global) → lookup_entry (is_above path) names ≡ Some (next, ids)
    → (is_above path next ≡ true) × (found_at names next.items ≡ Some ids)
next_found path [] next ids found = absurd (cc)
next_found path (e ∷ names) next ids found = by (is_above path e.0) refl (next_found path names next ids) found
  where
    inside : Some e ≡ Some (next, ids) → e ≡ (next, ids)
    inside same = cc

    others : is_above path e.0 ≡ false → (is_above path next ≡ true) × (found_at names next.items ≡ Some ids)
        → (s : Bool) → is_key next.items e.0 ≡ s → cond s (Some e.1) (found_at names next.items) ≡ Some ids
    others low rest true same =
        absurd (false≢true (sym low ∙ ap (λ text. is_lt (slice_cmp nat_cmp path text)) (sym (key_is next.items e.0 same)) ∙ rest.0))
    others low rest false differ = rest.1

    by : (b : Bool) → is_above path e.0 ≡ b → (lookup_entry (is_above path) names ≡ Some (next, ids) → (is_above path next ≡ true) × (found_at names next.items ≡ Some ids))
        → cond b (Some e) (lookup_entry (is_above path) names) ≡ Some (next, ids) → (is_above path next ≡ true) × (found_at (e ∷ names) next.items ≡ Some ids)
    by true high rest here =
        let same = inside here in
        let key : e.0 ≡ next = ap (λ (p : Vec ℕ Global × Vec ℕ Global). p.0) same in
        let value : e.1 ≡ ids = ap (λ (p : Vec ℕ Global × Vec ℕ Global). p.1) same in (
          ap (is_above path) (sym key) ∙ high,
          ap (λ b. cond b (Some e.1) (found_at names next.items)) (own_key next.items e.0 (ap (λ (k : Vec ℕ Global). k.items) (sym key))) ∙ ap Some value,
        )
    by false low rest there =
        let later = rest there in
        (later.0, others low later (is_key next.items e.0) refl)

-- each key above the path that has something is none that is below the first such
pub next_first : (path : List ℕ) (names : Names) (next ids : Vec ℕ Global) → IsStrictlySortedBy key_cmp (keys_of names) → lookup_entry (is_above path) names ≡ Some (next, ids)
    → (other : List ℕ) (there : Vec ℕ Global) → is_lt (slice_cmp nat_cmp path other) ≡ true → found_at names other ≡ Some there → is_gt (slice_cmp nat_cmp next.items other) ≡ false
next_first path [] next ids ordered found other there high held = absurd (cc)
next_first path (e ∷ names) next ids ordered found other there high held =
    by (is_above path e.0) refl (next_first path names next ids (sorted_tail key_cmp e.0 (keys_of names) ordered)) found (is_key other e.0) refl held
  where
    inside : Some e ≡ Some (next, ids) → e ≡ (next, ids)
    inside same = cc

    equal_never : (one two : List ℕ) → one ≡ two → is_gt (slice_cmp nat_cmp one two) ≡ false
    equal_never one two same = ap (λ text. is_gt (slice_cmp nat_cmp one text)) (sym same) ∙ ap is_gt (tied_itself nat_list_cmp_total one)

    -- what is found after a key is above it
    later : (above : Names) → AllByRecursion (λ k. key_cmp e.0 k ≡ Less) (keys_of above) → found_at above other ≡ Some there → slice_cmp nat_cmp e.0.items other ≡ Less
    later [] all is = absurd (cc)
    later (x ∷ above) all is = split (is_key other x.0) refl (later above all.1) is
      where
        split : (s : Bool) → is_key other x.0 ≡ s → (found_at above other ≡ Some there → slice_cmp nat_cmp e.0.items other ≡ Less) → cond s (Some x.1) (found_at above other) ≡ Some there
            → slice_cmp nat_cmp e.0.items other ≡ Less
        split true same rest here = ap (slice_cmp nat_cmp e.0.items) (key_is other x.0 same) ∙ all.0
        split false differ rest more = rest more

    by : (b : Bool) → is_above path e.0 ≡ b
        → (lookup_entry (is_above path) names ≡ Some (next, ids) → (text : List ℕ) (v : Vec ℕ Global) → is_lt (slice_cmp nat_cmp path text) ≡ true → found_at names text ≡ Some v → is_gt (slice_cmp nat_cmp next.items text) ≡ false)
        → cond b (Some e) (lookup_entry (is_above path) names) ≡ Some (next, ids) → (s : Bool) → is_key other e.0 ≡ s → cond s (Some e.1) (found_at names other) ≡ Some there
        → is_gt (slice_cmp nat_cmp next.items other) ≡ false
    by true high_e rest here true same value =
        let key : next ≡ e.0 = ap (λ (p : Vec ℕ Global × Vec ℕ Global). p.0) (sym (inside here)) in
        equal_never next.items other (ap (λ (k : Vec ℕ Global). k.items) key ∙ sym (key_is other e.0 same))
    by true high_e rest here false differ value =
        let key : next ≡ e.0 = ap (λ (p : Vec ℕ Global × Vec ℕ Global). p.0) (sym (inside here)) in
        ap (λ (k : Vec ℕ Global). is_gt (slice_cmp nat_cmp k.items other)) key
        ∙ ap is_gt (later names (sorted_head key_cmp e.0 (keys_of names) ordered) value)
    by false low rest found_later true same value =
        absurd (false≢true (sym low ∙ ap (λ text. is_lt (slice_cmp nat_cmp path text)) (sym (key_is other e.0 same)) ∙ high))
    by false low rest found_later false differ value = rest found_later other there high value

-- where no key is above a path nothing is found above it
pub next_none : (path : List ℕ) (names : Names) → lookup_entry (is_above path) names ≡ None → (other : List ℕ) → is_lt (slice_cmp nat_cmp path other) ≡ true → found_at names other ≡ None
next_none path [] none other high = refl
next_none path (e ∷ names) none other high = by (is_above path e.0) refl (next_none path names) none (is_key other e.0) refl
  where
    never : Some e ≡ None → ⊥
    never same = cc

    by : (b : Bool) → is_above path e.0 ≡ b → (lookup_entry (is_above path) names ≡ None → (text : List ℕ) → is_lt (slice_cmp nat_cmp path text) ≡ true → found_at names text ≡ None)
        → cond b (Some e) (lookup_entry (is_above path) names) ≡ None → (s : Bool) → is_key other e.0 ≡ s → cond s (Some e.1) (found_at names other) ≡ None
    by true high_e rest here s same = absurd (never here)
    by false low rest gone true same =
        absurd (false≢true (sym low ∙ ap (λ text. is_lt (slice_cmp nat_cmp path text)) (sym (key_is other e.0 same)) ∙ high))
    by false low rest gone false differ = rest gone other high

-- ---- longer path keys of an index

-- an identity of a list that is not empty
some_id : (ids : List ℕ) → 0 < length ids → (id : ℕ) × (among id ids ≡ true)
some_id [] some = absurd (omega arith)
some_id (u ∷ ids) some = (u, ap (λ b. b || among u ids) (eq-eqb u u refl))

module _ (names : Names) (path : List ℕ) where
  -- no key is above this one
  pub longer_none : lookup_entry (is_above path) names ≡ None → IsLonger names path false
  longer_none none longer uuid is =
      let parts = parts_of longer path is in
      let high : is_lt (slice_cmp nat_cmp path longer) ≡ true = ap is_lt (ap (slice_cmp nat_cmp path) parts.2 ∙ below_longer path parts.0 parts.1) in
      ap (λ found. among uuid (listed found)) (next_none path names none longer high)

  -- the first key above this one is longer where any is
  pub longer_next : (next ids : Vec ℕ Global) → IsStrictlySortedBy key_cmp (keys_of names) → HasNoEmpty names → lookup_entry (is_above path) names ≡ Some (next, ids)
      → IsLonger names path (starts_with nat_eq next.items path)
  longer_next next ids ordered all first = by (starts_with nat_eq next.items path) refl
    where
      there : (is_above path next ≡ true) × (found_at names next.items ≡ Some ids)
      there = next_found path names next ids first

      less : slice_cmp nat_cmp path next.items ≡ Less
      less = less_from (slice_cmp nat_cmp path next.items) there.0

      by : (b : Bool) → starts_with nat_eq next.items path ≡ b → IsLonger names path b
      by true starts =
          let some : 0 < length ids.items = subst (λ found. IfSome found (λ (s : Vec ℕ Global). 0 < length s.items)) there.1 (all next.items) in
          let id = some_id ids.items some in
          (next.items, id.0, and_from (starts_with nat_eq next.items path) (not (bytes_eq next.items path)) starts (ap not (other_above path next.items less)), ap (λ found. among id.0 (listed found)) there.1 ∙ id.1)
      by false apart = λ longer uuid is. at longer uuid is (found_at names longer) refl
        where
          at : (longer : List ℕ) (uuid : ℕ) → is_longer longer path ≡ true → (found : Option (Vec ℕ Global)) → found_at names longer ≡ found → among uuid (listed found) ≡ false
          at longer uuid is None off = refl
          at longer uuid is (Some held) found =
              let parts = parts_of longer path is in
              let above : slice_cmp nat_cmp path longer ≡ Less = ap (slice_cmp nat_cmp path) parts.2 ∙ below_longer path parts.0 parts.1 in
              let high = next_first path names next ids ordered first longer held (ap is_lt above) found in
              let tail = between path next.items parts.0 (ap is_gt less) (ap (λ text. is_gt (slice_cmp nat_cmp next.items text)) (sym parts.2) ∙ high) in
              absurd (false≢true (sym apart ∙ begun_by next.items path tail.0 tail.1))

-- ---- entries below a name

-- an entry is below a name where its path key is longer
below_is : (name : List (List TypeAndValue)) (e : Entry) → HasPath e.dn → HasPath name → is_longer (path_key e.dn) (path_key name) ≡ (is_at_or_below e.dn name && not (is_named name e))
below_is name e own has = λ i. starts_is_below e.dn name own has i && not (equal_is_same e.dn name own has i)

none_pass : (p : Entry → Bool) (es : List Entry) → All (λ e. p e ≡ false) es → list_any p es ≡ false
none_pass p [] none = refl
none_pass p (e ∷ es) none = λ i. none 0 e (omega arith) i || none_pass p es (λ k d within. none (suc k) d (omega arith)) i

-- an entry is below a name where an identity stands at a longer path key
pub below_by_index : (name : List (List TypeAndValue)) (es : List Entry) (names : Names) (path : List ℕ) (longer : Bool) → ascends es ≡ true → IsIndex names es → HasPath name → path ≡ path_key name
    → IsLonger names path longer → longer ≡ has_below es name
below_by_index name es names path true asc index has is there =
    by (entry_at es uuid) refl (index.named uuid) (sym (index.exact other uuid) ∙ there.3)
  where
    other : List ℕ
    other = there.0

    uuid : ℕ
    uuid = there.1

    by : (found : Option Entry) → entry_at es uuid ≡ found → HasPathKey (entry_at es uuid) → has_path other (entry_at es uuid) ≡ true → true ≡ has_below es name
    by None off placed here = absurd (false≢true (sym (ap (has_path other) off) ∙ here))
    by (Some e) found placed here =
        let own : HasPath e.dn = subst HasPathKey found placed in
        let same : path_key e.dn ≡ other = (bytes_decides (path_key e.dn) other).0 (sym (ap (has_path other) found) ∙ here) in
        sym (any_where_held (is_identified uuid) (λ x. is_at_or_below x.dn name && not (is_named name x)) es e found
        (sym (below_is name e own has) ∙ (λ i. is_longer (same i) (sym is i)) ∙ there.2))
below_by_index name es names path false asc index has is none =
    sym (none_pass (λ x. is_at_or_below x.dn name && not (is_named name x)) es (λ k d within. each (get_or es k d) (at_each es asc k d within)))
  where
    each : (e : Entry) → entry_at es e.uuid ≡ Some e → (is_at_or_below e.dn name && not (is_named name e)) ≡ false
    each e at =
        let own : HasPath e.dn = subst HasPathKey at (index.named e.uuid) in
        let here : stands_at names (path_key e.dn) e.uuid ≡ true =
        index.exact (path_key e.dn) e.uuid ∙ ap (has_path (path_key e.dn)) at ∙ (bytes_decides (path_key e.dn) (path_key e.dn)).1 refl in
        sym (below_is name e own has) ∙ by (is_longer (path_key e.dn) (path_key name)) refl here
      where
        by : (b : Bool) → is_longer (path_key e.dn) (path_key name) ≡ b → stands_at names (path_key e.dn) e.uuid ≡ true → b ≡ false
        by false off there = refl
        by true longer there = absurd (false≢true (sym (none (path_key e.dn) e.uuid (ap (is_longer (path_key e.dn)) is ∙ longer)) ∙ there))
