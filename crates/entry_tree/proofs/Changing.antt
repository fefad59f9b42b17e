-- The entries after the changes of a write: where these are what differs, they are the entries that the write leaves.
use Rattle.std.proofs.Common.{◌≡◌, ℕ, Bool, true, false, not, ◌&&◌, ◌||◌, cond, nat_eq, List, [], ◌∷◌, map, reverse, Option, Some, None, ap, sym, ◌∙◌, refl, subst}
use Rattle.std.specs.Prelude.{is_none}
use Rattle.std.specs.List.{filter, cons_option}
use Rattle.std.specs.Option.{option_or}
use Rattle.std.proofs.Math.Bool.{and-false}
use Rattle.std.proofs.lemmas.Bool.{eqb-true, eq-eqb, or_parts, false≢true, ne_eqb}
use Rattle.std.proofs.lemmas.List.{reverse-append}
use Rattle.std.proofs.lemmas.List.Folds.{find-append}
use Rattle.entry_writes.specs.declared.entry.Entry.{Entry}
use Rattle.entry_writes.specs.declared.touched.EntryChange.{EntryChange}
use Rattle.entry_writes.specs.Bytes.{is_one_found}
use Rattle.entry_writes.specs.State.{ascends, entry_at, total_weight, IsDirectory}
use Rattle.entry_writes.specs.Touched.{identities, joined, change_at, is_change, touched, puts_of, drops_of, with_changes, CanBeMade, IsPlan}
use Rattle.entry_writes.proofs.Same.{one_found-true}
use Rattle.entry_tree.proofs.Committing.{ascends_committed, entry_at_committed, changes_at, nowhere}
use Rattle.entry_tree.proofs.Order.{same_entries}
use Rattle.entry_tree.proofs.Rising.{among, among-filter, among-joined}

-- ---- what an identity has after the changes at some identities

-- what is found at an identity has it
pub own_uuid : (es : List Entry) (u : ℕ) (e : Entry) → entry_at es u ≡ Some e → e.uuid ≡ u
own_uuid [] u e found = absurd (cc)
own_uuid (x ∷ es) u e found = by (nat_eq x.uuid u) refl (own_uuid es u e) found
  where
    by : (b : Bool) → nat_eq x.uuid u ≡ b → (entry_at es u ≡ Some e → e.uuid ≡ u) → cond b (Some x) (entry_at es u) ≡ Some e → e.uuid ≡ u
    by true hit rest here = let same : x ≡ e = cc in ap (λ (y : Entry). y.uuid) (sym same) ∙ eqb-true x.uuid u hit
    by false miss rest there = rest there

same_number : (u v : ℕ) (b : Bool) → nat_eq u v ≡ b → nat_eq v u ≡ b
same_number u v true hit = eq-eqb v u (sym (eqb-true u v hit))
same_number u v false miss = ne_eqb v u (λ same. false≢true (sym miss ∙ eq-eqb u v (sym same)))

either_way : (b : Bool) (e : Entry) → option_or (cond b (Some e) None) (Some e) ≡ Some e
either_way true e = refl
either_way false e = refl

-- what is found is all there is where nothing else is
pub or_none : (found : Option Entry) → option_or found None ≡ found
or_none None = refl
or_none (Some e) = refl

module _ (old new : List Entry) where
  abbrev changes : List ℕ → List EntryChange
  changes us = map (change_at old new) us

  -- the entry there is after one more change, whose entry is `found`
  one_more : (u v : ℕ) (us : List ℕ) (found : Option Entry) → entry_at new v ≡ found
      → entry_at (reverse (puts_of (changes us))) u ≡ cond (among u us) (entry_at new u) None
      → entry_at (reverse (cons_option found (puts_of (changes us)))) u ≡ cond (nat_eq u v || among u us) (entry_at new u) None
  one_more u v us None none rest = rest ∙ by (nat_eq u v) refl (among u us)
    where
      by : (b : Bool) → nat_eq u v ≡ b → (c : Bool) → cond c (entry_at new u) None ≡ cond (b || c) (entry_at new u) None
      by false miss c = refl
      by true hit true = refl
      by true hit false = sym (ap (entry_at new) (eqb-true u v hit) ∙ none)
  one_more u v us (Some e) some rest =
      ap (λ xs. entry_at xs u) (reverse-append (e ∷ []) (puts_of (changes us)))
      ∙ find-append (λ x. nat_eq x.uuid u) (reverse (puts_of (changes us))) (e ∷ [])
      ∙ ap (λ found. option_or found (cond (nat_eq e.uuid u) (Some e) None)) rest
      ∙ by (nat_eq u v) refl (among u us) (entry_at new u) refl
    where
      is : e.uuid ≡ v
      is = own_uuid new v e some

      by : (b : Bool) → nat_eq u v ≡ b → (c : Bool) → (now : Option Entry) → entry_at new u ≡ now
          → option_or (cond c now None) (cond (nat_eq e.uuid u) (Some e) None) ≡ cond (b || c) now None
      by true hit c now at =
          let here : now ≡ Some e = sym at ∙ ap (entry_at new) (eqb-true u v hit) ∙ some in
          let mine : nat_eq e.uuid u ≡ true = ap (λ n. nat_eq n u) is ∙ same_number u v true hit in
          ap (λ b. option_or (cond c now None) (cond b (Some e) None)) mine ∙ ap (λ o. option_or (cond c o None) (Some e)) here ∙ either_way c e ∙ sym here
      by false miss c now at =
          let other : nat_eq e.uuid u ≡ false = ap (λ n. nat_eq n u) is ∙ same_number u v false miss in
          ap (λ b. option_or (cond c now None) (cond b (Some e) None)) other ∙ or_none (cond c now None)

  put_at : (us : List ℕ) (u : ℕ) → entry_at (reverse (puts_of (changes us))) u ≡ cond (among u us) (entry_at new u) None
  put_at [] u = refl
  put_at (v ∷ us) u = one_more u v us (entry_at new v) refl (put_at us u)

  dropped_at : (us : List ℕ) (u : ℕ) → among u (drops_of (changes us)) ≡ (among u us && is_none (entry_at new u))
  dropped_at [] u = refl
  dropped_at (v ∷ us) u = by (entry_at new v) refl (nat_eq u v) refl (dropped_at us u)
    where
      by : (found : Option Entry) → entry_at new v ≡ found → (b : Bool) → nat_eq u v ≡ b → among u (drops_of (changes us)) ≡ (among u us && is_none (entry_at new u))
          → among u (map (λ (c : EntryChange). c.uuid) (cond (is_none found) (change_at old new v ∷ filter (λ c. is_none c.after) (changes us)) (filter (λ c. is_none c.after) (changes us))))
          ≡ ((b || among u us) && is_none (entry_at new u))
      by None none true hit rest = ap (λ b. b || among u (drops_of (changes us))) hit ∙ sym (ap is_none (ap (entry_at new) (eqb-true u v hit) ∙ none))
      by None none false miss rest = ap (λ b. b || among u (drops_of (changes us))) miss ∙ rest
      by (Some e) some true hit rest =
          let held : is_none (entry_at new u) ≡ false = ap is_none (ap (entry_at new) (eqb-true u v hit) ∙ some) in
          rest ∙ ap (λ b. among u us && b) held ∙ and-false (among u us) ∙ sym held
      by (Some e) some false miss rest = rest

  -- what was there is replaced at these identities alone
  there : (us : List ℕ) (u : ℕ) → ascends old ≡ true → entry_at (with_changes old (changes us)) u ≡ cond (among u us) (entry_at new u) (entry_at old u)
  there us u asc =
      entry_at_committed old (puts_of (changes us)) (drops_of (changes us)) u asc
      ∙ ap (λ found. option_or found (cond (among u (drops_of (changes us))) None (entry_at old u))) (put_at us u)
      ∙ ap (λ b. option_or (cond (among u us) (entry_at new u) None) (cond b None (entry_at old u))) (dropped_at us u)
      ∙ by (among u us) (entry_at new u)
    where
      by : (b : Bool) (now : Option Entry) → option_or (cond b now None) (cond (b && is_none now) None (entry_at old u)) ≡ cond b now (entry_at old u)
      by true None = refl
      by true (Some e) = refl
      by false now = refl

  -- ---- what differs

  abbrev pub differs : ℕ → Bool
  differs u = is_change (change_at old new u)

  -- the identities of both lists
  abbrev pub both : List ℕ
  both = joined (identities old) (identities new)

  -- an identity that does not differ has the same in both
  pub same_where : (u : ℕ) → differs u ≡ false → entry_at old u ≡ entry_at new u
  same_where u same = one_found-true (entry_at old u) (entry_at new u) (by (is_one_found (entry_at old u) (entry_at new u)) same)
    where
      by : (b : Bool) → not b ≡ false → b ≡ true
      by true h = refl
      by false h = sym h

  -- an identity of neither list has no entry in them
  pub none_outside : (u : ℕ) → among u both ≡ false → (entry_at old u ≡ None) × (entry_at new u ≡ None)
  none_outside u off =
      let p = or_parts (among u (identities new)) (among u (identities old)) (sym (among-joined u (identities old) (identities new)) ∙ off) in
      (nowhere old u p.1, nowhere new u p.0)

  -- the changes are those at the identities that differ
  pub touched_at : touched old new ≡ map (change_at old new) (filter differs both)
  touched_at = changes_at (change_at old new) both

  -- the entries after what differs are those that it leads to
  pub with_touched : ascends old ≡ true → ascends new ≡ true → with_changes old (touched old new) ≡ new
  with_touched asc up =
      ap (with_changes old) touched_at
      ∙ same_entries (with_changes old (changes us)) new (ascends_committed old (puts_of (changes us)) (drops_of (changes us)) asc) up
      (λ u. there us u asc ∙ ap (λ b. cond b (entry_at new u) (entry_at old u)) (among-filter differs u both) ∙ by u (differs u) refl (among u both) refl)
    where
      us : List ℕ
      us = filter differs both

      by : (u : ℕ) (d : Bool) → differs u ≡ d → (b : Bool) → among u both ≡ b → cond (d && b) (entry_at new u) (entry_at old u) ≡ entry_at new u
      by u true differ true in_both = refl
      by u true differ false off = let p = none_outside u off in p.0 ∙ sym p.1
      by u false same b in_both = same_where u same

  -- ---- plans

  -- a plan leads to the entries of its write
  pub plan_leads : (cs : List EntryChange) → IsPlan old new cs → with_changes old cs ≡ new
  plan_leads cs plan = ap (with_changes old) plan.exact ∙ with_touched plan.ordered plan.directory.ascends

  -- a plan can be put in place
  pub plan_fits : (cs : List EntryChange) → IsPlan old new cs → CanBeMade old cs
  plan_fits cs plan =
      let made : with_changes old cs ≡ new = plan_leads cs plan in
      record {
        exact = plan.exact ∙ ap (touched old) (sym made);
        directory = subst (λ es. IsDirectory es (total_weight es)) (sym made) plan.directory;
      }
