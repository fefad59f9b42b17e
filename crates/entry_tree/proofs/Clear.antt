-- Changes that are clear leave entries that a directory may have, where no two of those before have one name.
use Rattle.std.proofs.Common.{◌≡◌, ◌<◌, ◌≤◌, ◌+◌, ℕ, Bool, true, false, not, ◌&&◌, ◌||◌, cond, nat_eq, List, [], ◌∷◌, ◌++◌, length, take, get_or, map, Option, Some, None, refl, sym, ap, ◌∙◌, subst, arith}
use Rattle.std.specs.Prelude.{is_none, is_some}
use Rattle.std.specs.List.{cons_option, filter, list_all}
use Rattle.std.proofs.lemmas.Bool.{and_from, eqb-true, eq-eqb, ne_eqb, false≢true, le-ltb}
use Rattle.std.proofs.lemmas.List.{map_push, take_more}
use Rattle.std.proofs.lemmas.List.Folds.{list_all-append}
use Rattle.schema_rules.specs.Attributes.{weight_of}
use Rattle.dn_names.specs.Names.{same_name}
use Rattle.dn_names.proofs.EqualNames.{name_sym, name_trans}
use Rattle.entry_writes.specs.declared.entry.Entry.{Entry}
use Rattle.entry_writes.specs.declared.touched.EntryChange.{EntryChange}
use Rattle.entry_writes.specs.State.{ascends, entry_at, is_named, entry_named, most_entries, most_weight, same_named, total_weight}
use Rattle.entry_writes.specs.Touched.{change_at, touched, puts_of}
use Rattle.entry_tree.specs.Fitting.{is_directory_content}
use Rattle.entry_tree.specs.Judging.{AreClear, has_free_name, is_changed, is_free, keeps_name, takes_of}
use Rattle.entry_tree.proofs.Changing.{both, differs, none_outside, own_uuid, same_where, touched_at}
use Rattle.entry_tree.proofs.DistinctNames.{distinct_where_none, none_where_distinct, fails_where_none, passes_where_all}
use Rattle.entry_tree.proofs.Finding.{found_passes}
use Rattle.entry_tree.proofs.Moving.{held_where_found}
use Rattle.entry_tree.proofs.Rising.{among, among-filter}
use Rattle.entry_tree.proofs.Totals.{adds_touched, sum_found, sum_ones}

module _ (old new : List Entry) where
  abbrev changes : List ℕ → List EntryChange
  changes us = map (change_at old new) us

  -- the identities that change
  abbrev changed : List ℕ
  changed = filter (differs old new) (both old new)

  -- ---- what the changes leave or make

  one_more : (u v : ℕ) (us : List ℕ) (found : Option Entry) → entry_at new v ≡ found → (b : Bool) → nat_eq u v ≡ b
      → entry_at (puts_of (changes us)) u ≡ cond (among u us) (entry_at new u) None
      → entry_at (cons_option found (puts_of (changes us))) u ≡ cond (b || among u us) (entry_at new u) None
  one_more u v us None none true hit rest = rest ∙ by (among u us)
    where
      gone : entry_at new u ≡ None
      gone = ap (entry_at new) (eqb-true u v hit) ∙ none

      by : (c : Bool) → cond c (entry_at new u) None ≡ entry_at new u
      by true = refl
      by false = sym gone
  one_more u v us None none false miss rest = rest
  one_more u v us (Some e) some true hit rest =
      ap (λ b. cond b (Some e) (entry_at (puts_of (changes us)) u)) (eq-eqb e.uuid u (own_uuid new v e some ∙ sym (eqb-true u v hit)))
      ∙ sym (ap (entry_at new) (eqb-true u v hit) ∙ some)
  one_more u v us (Some e) some false miss rest =
      ap (λ b. cond b (Some e) (entry_at (puts_of (changes us)) u))
      (ne_eqb e.uuid u (λ same. false≢true (sym miss ∙ eq-eqb u v (sym same ∙ own_uuid new v e some))))
      ∙ rest

  puts_at : (us : List ℕ) (u : ℕ) → entry_at (puts_of (changes us)) u ≡ cond (among u us) (entry_at new u) None
  puts_at [] u = refl
  puts_at (v ∷ us) u = one_more u v us (entry_at new v) refl (nat_eq u v) refl (puts_at us u)

  -- an identity that changes has what the changes leave or make
  at_put : (u : ℕ) → among u changed ≡ true → entry_at (puts_of (touched old new)) u ≡ entry_at new u
  at_put u there =
      ap (λ cs. entry_at (puts_of cs) u) (touched_at old new) ∙ puts_at changed u ∙ ap (λ b. cond b (entry_at new u) None) there

  -- the others have what they had
  stays : (u : ℕ) → among u changed ≡ false → entry_at old u ≡ entry_at new u
  stays u off = by (differs old new u) refl (among u (both old new)) refl (sym (among-filter (differs old new) u (both old new)) ∙ off)
    where
      by : (d : Bool) → differs old new u ≡ d → (b : Bool) → among u (both old new) ≡ b → (d && b) ≡ false → entry_at old u ≡ entry_at new u
      by false same b in_both h = same_where old new u same
      by true differ false out h = let p = none_outside old new u out in p.0 ∙ sym p.1
      by true differ true in_both h = absurd (false≢true (sym h))

  changed_among : (us : List ℕ) (u : ℕ) → is_changed (changes us) u ≡ among u us
  changed_among [] u = refl
  changed_among (v ∷ us) u = ap (λ b. nat_eq u v || b) (changed_among us u)

  -- ---- the names after the changes

  module _ (asc : ascends old ≡ true) (apart : same_named old ≡ None) (free : list_all (has_free_name old (touched old new)) (puts_of (touched old new)) ≡ true) where
    -- an entry that changes and one that does not
    mixed : (e x : Entry) → entry_at new e.uuid ≡ Some e → entry_at new x.uuid ≡ Some x → among e.uuid changed ≡ true → among x.uuid changed ≡ false
        → same_name x.dn e.dn ≡ true → e.uuid ≡ x.uuid
    mixed e x one other changes_it stays_it same =
        by (entry_named old e.dn) refl
        (passes_where_all (has_free_name old (touched old new)) (puts_of (touched old new)) e.uuid e (at_put e.uuid changes_it ∙ one) free)
      where
        was : entry_at old x.uuid ≡ Some x
        was = stays x.uuid stays_it ∙ other

        by : (found : Option Entry) → entry_named old e.dn ≡ found → is_free (touched old new) found ≡ true → e.uuid ≡ x.uuid
        by None none h = absurd (false≢true (sym (fails_where_none (is_named e.dn) old x.uuid x was none) ∙ same))
        by (Some holder) found h =
            let there : entry_at old holder.uuid ≡ Some holder = held_where_found (is_named e.dn) old holder asc found in
            let named : same_name holder.dn e.dn ≡ true = found_passes (is_named e.dn) old holder found in
            let alike : same_name x.dn holder.dn ≡ true = name_trans x.dn e.dn holder.dn same (name_sym holder.dn e.dn named) in
            let is : holder.uuid ≡ x.uuid = distinct_where_none old apart holder x there was alike in
            let hit : among holder.uuid changed ≡ true =
            sym (ap (λ cs. is_changed cs holder.uuid) (touched_at old new) ∙ changed_among changed holder.uuid) ∙ h
            in
            absurd (false≢true (sym stays_it ∙ ap (λ u. among u changed) (sym is) ∙ hit))

    distinct_after : same_named (puts_of (touched old new)) ≡ None
        → (e x : Entry) → entry_at new e.uuid ≡ Some e → entry_at new x.uuid ≡ Some x → same_name x.dn e.dn ≡ true → e.uuid ≡ x.uuid
    distinct_after own e x one other same = by (among e.uuid changed) refl (among x.uuid changed) refl
      where
        by : (first : Bool) → among e.uuid changed ≡ first → (second : Bool) → among x.uuid changed ≡ second → e.uuid ≡ x.uuid
        by true a true b = distinct_where_none (puts_of (touched old new)) own e x (at_put e.uuid a ∙ one) (at_put x.uuid b ∙ other) same
        by true a false b = mixed e x one other a b same
        by false a true b = sym (mixed x e other one b a (name_sym x.dn e.dn same))
        by false a false b = distinct_where_none old apart e x (stays e.uuid a ∙ one) (stays x.uuid b ∙ other) same

  -- ---- their number and weight

  few_after : ascends old ≡ true → ascends new ≡ true → AreClear old (touched old new) → length new ≤ most_entries
  few_after asc up clear =
      let cs : List EntryChange = touched old new in
      let adds = adds_touched (λ (e : Entry). 1) old new asc up in
      let both_sides = adds.both in
      let before = sum_found (λ (e : Entry). 1) (λ (c : EntryChange). c.before) cs in
      let after = sum_found (λ (e : Entry). 1) (λ (c : EntryChange). c.after) cs in
      let few = clear.few in
      omega (arith, both_sides, before, after, few, sum_ones old, sum_ones new, sum_ones (takes_of cs), sum_ones (puts_of cs))

  light_after : ascends old ≡ true → ascends new ≡ true → AreClear old (touched old new) → total_weight new ≤ most_weight
  light_after asc up clear =
      let cs : List EntryChange = touched old new in
      let adds = adds_touched (λ (e : Entry). weight_of e.attrs) old new asc up in
      let both_sides = adds.both in
      let before = sum_found (λ (e : Entry). weight_of e.attrs) (λ (c : EntryChange). c.before) cs in
      let after = sum_found (λ (e : Entry). weight_of e.attrs) (λ (c : EntryChange). c.after) cs in
      let light = clear.light in
      omega (arith, both_sides, before, after, light)

  clear_is_held : ascends old ≡ true → ascends new ≡ true → same_named old ≡ None → AreClear old (touched old new) → is_directory_content new ≡ true
  clear_is_held asc up apart clear =
      let few = le-ltb most_entries (length new) (few_after asc up clear) in
      let light = le-ltb most_weight (total_weight new) (light_after asc up clear) in
      let names : same_named new ≡ None = none_where_distinct new up (distinct_after asc apart clear.free clear.unique_names) in
      λ i. not (few i || light i) && is_none (names i)

-- entries after clear changes may be held
pub held_clear : (old new : List Entry) (changes : List EntryChange) → ascends old ≡ true → ascends new ≡ true → same_named old ≡ None → changes ≡ touched old new → AreClear old changes
    → is_directory_content new ≡ true
held_clear old new changes asc up apart is clear = clear_is_held old new asc up apart (subst (AreClear old) is clear)

-- what is clear by the entries that changes remove or replace, and those that they leave or make
pub clear_by : (es : List Entry) (changes : List EntryChange) (taken put : List Entry) → taken ≡ takes_of changes → put ≡ puts_of changes
    → length es + length put ≤ most_entries + length taken → total_weight es + total_weight put ≤ most_weight + total_weight taken
    → list_all (has_free_name es changes) put ≡ true → same_named put ≡ None → AreClear es changes
clear_by es changes taken put gone there few light free apart =
    let before = ap (λ (xs : List Entry). length xs) gone in
    let after = ap (λ (xs : List Entry). length xs) there in
    let lost = ap total_weight gone in
    let got = ap total_weight there in
    record {
      few = omega (arith, few, before, after);
      light = omega (arith, light, lost, got);
      free = ap (list_all (has_free_name es changes)) (sym there) ∙ free;
      unique_names = ap same_named (sym there) ∙ apart;
    }

-- what passes with one item more
pub all_more : {A : Type 0} (test : Entry → Bool) (of : A → Entry) (xs : List A) (i : ℕ) (x : A) → i < length xs → x ≡ get_or xs i x → test (of x) ≡ true
    → list_all test (map of (take i xs)) ≡ true → list_all test (map of (take (i + 1) xs)) ≡ true
all_more test of xs i x low at passes all =
    ap (λ ys. list_all test (map of ys)) (take_more xs i x low ∙ ap (λ y. take i xs ++ y ∷ []) (sym at))
    ∙ ap (list_all test) (map_push of (take i xs) x)
    ∙ list_all-append test (map of (take i xs)) (of x ∷ [])
    ∙ and_from (list_all test (map of (take i xs))) (list_all test (of x ∷ [])) all (and_from (test (of x)) true passes refl)

-- a pair that is none
pub none_by : (found : Option (ℕ × ℕ)) (none : Bool) → is_some found ≡ not none → none ≡ true → found ≡ None
none_by None none is holds = refl
none_by (Some pair) none is holds = absurd (false≢true (sym (is ∙ ap not holds)))

-- the name of an entry is free where its identity has it, which changes, and no two entries have one name
pub kept_free : (es : List Entry) (changes : List EntryChange) (e : Entry) → ascends es ≡ true → same_named es ≡ None → keeps_name (entry_at es e.uuid) e ≡ true → is_changed changes e.uuid ≡ true
    → has_free_name es changes e ≡ true
kept_free es changes e asc apart keeps hit = from (entry_at es e.uuid) refl keeps
  where
    by : (was : Entry) → entry_at es was.uuid ≡ Some was → was.uuid ≡ e.uuid → same_name was.dn e.dn ≡ true → (found : Option Entry) → entry_named es e.dn ≡ found → is_free changes found ≡ true
    by was at own same None none = absurd (false≢true (sym (fails_where_none (is_named e.dn) es was.uuid was at none) ∙ same))
    by was at own same (Some holder) found =
        let there : entry_at es holder.uuid ≡ Some holder = held_where_found (is_named e.dn) es holder asc found in
        let named : same_name holder.dn e.dn ≡ true = found_passes (is_named e.dn) es holder found in
        let alike : same_name was.dn holder.dn ≡ true = name_trans was.dn e.dn holder.dn same (name_sym holder.dn e.dn named) in
        ap (is_changed changes) (distinct_where_none es apart holder was there at alike ∙ own) ∙ hit

    from : (was : Option Entry) → entry_at es e.uuid ≡ was → keeps_name was e ≡ true → has_free_name es changes e ≡ true
    from None none same = absurd (false≢true same)
    from (Some was) found same =
        let own : was.uuid ≡ e.uuid = own_uuid es e.uuid was found in
        by was (ap (entry_at es) own ∙ found) own same (entry_named es e.dn) refl
