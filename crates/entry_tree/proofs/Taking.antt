-- The entries of some identities, which are those that pass a test.
use Rattle.std.proofs.Common.{◌≡◌, ◌<◌, ◌+◌, ℕ, suc, Bool, true, false, not, ◌&&◌, ◌||◌, cond, nat_eq, List, [], ◌∷◌, ◌++◌, length, take, get_or, zip, Option, Some, None, sym, ap, refl, ◌∙◌, subst, arith}
use Rattle.std.specs.Prelude.{is_some, All}
use Rattle.std.specs.List.{cons_option, filter, filter_map, list_all, list_any}
use Rattle.std.specs.Result.{result_ok}
use Rattle.std.proofs.Math.Bool.{or-false}
use Rattle.std.proofs.lemmas.Bool.{and_parts, eqb-true, eq-eqb, or_left, or_right, false≢true}
use Rattle.std.proofs.lemmas.List.{take_more}
use Rattle.std.proofs.lemmas.List.Elements.{All-filter, filter_map-append}
use Rattle.std.proofs.lemmas.List.Folds.{list_any_none}
use Rattle.std.proofs.lemmas.Map.Entries.{option_filter}
use Rattle.dn_names.specs.Names.{TypeAndValue, same_name, same_rdn}
use Rattle.dn_names.specs.Paths.{path_key, HasPath}
use Rattle.dn_names.specs.Reading.{limited}
use Rattle.dn_names.specs.Sound.{most_rdns}
use Rattle.dn_names.proofs.PathKeys.{equal_is_same}
use Rattle.entry_writes.specs.declared.entry.Entry.{Entry}
use Rattle.entry_writes.specs.State.{ascends, entry_at, is_identified, is_named}
use Rattle.entry_writes.specs.Touched.{identities, joined, rises}
use Rattle.entry_writes.proofs.Identities.{at_each}
use Rattle.entry_tree.specs.NameIndex.{Names, ids_at, has_path, has_path_key, IsIndex, HasPathKey}
use Rattle.entry_tree.proofs.Changing.{own_uuid}
use Rattle.entry_tree.proofs.Committing.{rises-identities}
use Rattle.entry_tree.proofs.Directory.{ascends_filter}
use Rattle.entry_tree.proofs.Finding.{passes}
use Rattle.entry_tree.proofs.Moving.{any_where_held, long_where_none}
use Rattle.entry_tree.proofs.Order.{entry_at-filter}
use Rattle.entry_tree.proofs.Rising.{among, among-joined, rises-joined, same_numbers}

-- ---- identities whose entries pass

-- an identity that some entry has
pub among_identities : (es : List Entry) (u : ℕ) → among u (identities es) ≡ is_some (entry_at es u)
among_identities [] u = refl
among_identities (e ∷ es) u = by (nat_eq u e.uuid) refl (among_identities es u)
  where
    by : (b : Bool) → nat_eq u e.uuid ≡ b → among u (identities es) ≡ is_some (entry_at es u) → (b || among u (identities es)) ≡ is_some (cond (nat_eq e.uuid u) (Some e) (entry_at es u))
    by true hit rest = sym (ap (λ b. is_some (cond b (Some e) (entry_at es u))) (eq-eqb e.uuid u (sym (eqb-true u e.uuid hit))))
    by false miss rest = rest ∙ other (nat_eq e.uuid u) refl
      where
        other : (c : Bool) → nat_eq e.uuid u ≡ c → is_some (entry_at es u) ≡ is_some (cond c (Some e) (entry_at es u))
        other false differ = refl
        other true same = absurd (false≢true (sym miss ∙ eq-eqb u e.uuid (sym (eqb-true e.uuid u same))))

some_passes : (test : Entry → Bool) (found : Option Entry) → is_some (option_filter test found) ≡ passes test found
some_passes test None = refl
some_passes test (Some e) = by (test e)
  where
    by : (b : Bool) → is_some (cond b (Some e) None) ≡ b
    by true = refl
    by false = refl

-- the entries of the identities of entries are these
entries_again : (es xs : List Entry) → All (λ e. entry_at es e.uuid ≡ Some e) xs → filter_map (entry_at es) (identities xs) ≡ xs
entries_again es [] all = refl
entries_again es (x ∷ xs) all =
    ap (λ found. cons_option found (filter_map (entry_at es) (identities xs))) (all 0 x (omega arith))
    ∙ ap (λ ys. x ∷ ys) (entries_again es xs (λ k d within. all (suc k) d (omega arith)))

-- the entries of all identities whose entries pass, in their order, are the entries that pass
pub taken_entries : (test : Entry → Bool) (es : List Entry) (us : List ℕ) → ascends es ≡ true → rises us ≡ true → ((u : ℕ) → among u us ≡ passes test (entry_at es u))
    → filter_map (entry_at es) us ≡ filter test es
taken_entries test es us asc up are =
    ap (filter_map (entry_at es)) same
    ∙ entries_again es (filter test es) (All-filter test (λ e. entry_at es e.uuid ≡ Some e) es (at_each es asc))
  where
    same : us ≡ identities (filter test es)
    same =
        same_numbers us (identities (filter test es)) up (rises-identities (filter test es) ∙ ascends_filter test es asc)
        (λ u. are u ∙ sym (among_identities (filter test es) u ∙ ap is_some (entry_at-filter test es u asc) ∙ some_passes test (entry_at es u)))

-- one more identity is looked at
pub taken_more : (es : List Entry) (us : List ℕ) (i : ℕ) → i < length us → filter_map (entry_at es) (take (i + 1) us) ≡ filter_map (entry_at es) (take i us) ++ cons_option (entry_at es (get_or us i 0)) []
taken_more es us i low = ap (filter_map (entry_at es)) (take_more us i 0 low) ∙ filter_map-append (entry_at es) (take i us) (get_or us i 0 ∷ [])

-- ---- entries of one path key

path_is : (path : List ℕ) (found : Option Entry) → has_path path found ≡ passes (has_path_key path) found
path_is path None = refl
path_is path (Some e) = refl

-- the entries of what stands at a path key are those whose names have it
pub at_path_is : (path : List ℕ) (es : List Entry) (names : Names) → ascends es ≡ true → IsIndex names es → filter_map (entry_at es) (joined [] (ids_at names path)) ≡ filter (has_path_key path) es
at_path_is path es names asc index =
    taken_entries (has_path_key path) es (joined [] (ids_at names path)) asc (rises-joined [] (ids_at names path) refl)
    (λ u. among-joined u [] (ids_at names path) ∙ or-false (among u (ids_at names path)) ∙ index.exact path u ∙ path_is path (entry_at es u))

-- ---- entries of one name

-- an entry that has a path key has its name
named_is : (name : List (List TypeAndValue)) (found : Option Entry) → HasPathKey found → HasPath name → has_path (path_key name) found ≡ passes (is_named name) found
named_is name None sound has = refl
named_is name (Some e) sound has = equal_is_same e.dn name sound has

module _ (name : List (List TypeAndValue)) (es : List Entry) (names : Names) (path : List ℕ) (asc : ascends es ≡ true) (index : IsIndex names es) (has : HasPath name) (is : path ≡ path_key name) where
  -- what stands at the path key of a name has an entry of that name
  stands_named : (u : ℕ) → among u (ids_at names path) ≡ passes (is_named name) (entry_at es u)
  stands_named u = index.exact path u ∙ ap (λ text. has_path text (entry_at es u)) is ∙ named_is name (entry_at es u) (index.named u) has

  -- the entries of what stands there are the entries of the name
  pub at_name_is : filter_map (entry_at es) (joined [] (ids_at names path)) ≡ filter (is_named name) es
  at_name_is =
      taken_entries (is_named name) es (joined [] (ids_at names path)) asc (rises-joined [] (ids_at names path) refl)
      (λ u. among-joined u [] (ids_at names path) ∙ or-false (among u (ids_at names path)) ∙ stands_named u)

  -- ---- another entry of the name

  abbrev another : ℕ → Entry → Bool
  another t e = is_named name e && not (is_identified t e)

  some_other : (t : ℕ) (us : List ℕ) → list_any (λ id. not (nat_eq id t)) us ≡ true → (u : ℕ) × (among u us ≡ true) × (nat_eq u t ≡ false)
  some_other t [] off = absurd (false≢true off)
  some_other t (u ∷ us) there = by (nat_eq u t) refl (some_other t us) there
    where
      by : (b : Bool) → nat_eq u t ≡ b → (list_any (λ id. not (nat_eq id t)) us ≡ true → (v : ℕ) × (among v us ≡ true) × (nat_eq v t ≡ false))
          → (not b || list_any (λ id. not (nat_eq id t)) us) ≡ true → (v : ℕ) × (among v (u ∷ us) ≡ true) × (nat_eq v t ≡ false)
      by true same rest here = let later = rest here in (later.0, or_right (nat_eq later.0 u) (among later.0 us) later.1, later.2)
      by false other rest here = (u, or_left (nat_eq u u) (among u us) (eq-eqb u u refl), other)

  other_there : (t : ℕ) (us : List ℕ) (u : ℕ) → among u us ≡ true → nat_eq u t ≡ false → list_any (λ id. not (nat_eq id t)) us ≡ true
  other_there t [] u off other = absurd (false≢true off)
  other_there t (v ∷ us) u there other = by (nat_eq u v) refl there (other_there t us u)
    where
      by : (b : Bool) → nat_eq u v ≡ b → (b || among u us) ≡ true → (among u us ≡ true → nat_eq u t ≡ false → list_any (λ id. not (nat_eq id t)) us ≡ true)
          → (not (nat_eq v t) || list_any (λ id. not (nat_eq id t)) us) ≡ true
      by true same here rest = or_left (not (nat_eq v t)) (list_any (λ id. not (nat_eq id t)) us) (ap not (ap (λ n. nat_eq n t) (sym (eqb-true u v same)) ∙ other))
      by false differ here rest = or_right (not (nat_eq v t)) (list_any (λ id. not (nat_eq id t)) us) (rest here other)

  -- another entry has the name where another identity stands at its path key
  pub taken_by_index : (t : ℕ) → list_any (λ id. not (nat_eq id t)) (ids_at names path) ≡ list_any (λ other. is_named name other && not (is_identified t other)) es
  taken_by_index t = by (list_any (λ id. not (nat_eq id t)) (ids_at names path)) refl
    where
      one : (u : ℕ) → nat_eq u t ≡ false → (found : Option Entry) → entry_at es u ≡ found → passes (is_named name) found ≡ true → list_any (another t) es ≡ true
      one u other None off never = absurd (false≢true never)
      one u other (Some e) found named =
          any_where_held (is_identified u) (another t) es e found
          (ap (λ b. b && not (nat_eq e.uuid t)) named ∙ ap (λ n. not (nat_eq n t)) (own_uuid es u e found) ∙ ap not other)

      each : list_any (λ id. not (nat_eq id t)) (ids_at names path) ≡ false → (e : Entry) → entry_at es e.uuid ≡ Some e → another t e ≡ false
      each none e at = split (is_named name e) refl (nat_eq e.uuid t) refl
        where
          split : (b : Bool) → is_named name e ≡ b → (c : Bool) → nat_eq e.uuid t ≡ c → (b && not c) ≡ false
          split false off c same = refl
          split true named true same = refl
          split true named false other =
              let there : among e.uuid (ids_at names path) ≡ true = stands_named e.uuid ∙ ap (passes (is_named name)) at ∙ named in
              absurd (false≢true (sym none ∙ other_there t (ids_at names path) e.uuid there other))

      by : (b : Bool) → list_any (λ id. not (nat_eq id t)) (ids_at names path) ≡ b → b ≡ list_any (another t) es
      by true there =
          let u = some_other t (ids_at names path) there in
          sym (one u.0 u.2 (entry_at es u.0) refl (sym (stands_named u.0) ∙ u.1))
      by false none = sym (list_any_none (another t) es (λ k d within. each none (get_or es k d) (at_each es asc k d within)))

-- ---- a name that is too long

-- no name that has a path key is as long as one that is too long
longer_name : (name : List (List TypeAndValue)) (e : Entry) → HasPath e.dn → most_rdns < length name → same_name e.dn name ≡ false
longer_name name e own long = by (same_name e.dn name) refl
  where
    by : (b : Bool) → same_name e.dn name ≡ b → b ≡ false
    by false differ = refl
    by true same =
        let parts = and_parts (nat_eq (length e.dn) (length name)) (list_all (λ rdns. same_rdn rdns.0 rdns.1) (zip e.dn name)) same in
        let equal : length e.dn ≡ length name = eqb-true (length e.dn) (length name) parts.0 in
        let few = own.sound.few in
        absurd (omega (arith, few, long, equal))

-- no entry has a name that is too long
pub taken_by_none : (name : List (List TypeAndValue)) (t : ℕ) (es : List Entry) (names : Names) → ascends es ≡ true → IsIndex names es → result_ok (limited name) ≡ None
    → false ≡ list_any (λ other. is_named name other && not (is_identified t other)) es
taken_by_none name t es names asc index none =
    sym (list_any_none (λ e. is_named name e && not (is_identified t e)) es
    (λ k d within. ap (λ b. b && not (is_identified t (get_or es k d))) (each (get_or es k d) (at_each es asc k d within))))
  where
    each : (e : Entry) → entry_at es e.uuid ≡ Some e → same_name e.dn name ≡ false
    each e at = longer_name name e (subst HasPathKey at (index.named e.uuid)) (long_where_none name none)
