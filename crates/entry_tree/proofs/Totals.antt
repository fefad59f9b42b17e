-- What a measure of entries adds up to after changes, by what these take away and bring.
use Rattle.std.proofs.Common.{◌≡◌, ◌<◌, ◌≤◌, ◌+◌, ℕ, Bool, true, false, not, ◌||◌, cond, nat_eq, nat_lt, List, [], ◌∷◌, length, map, Option, Some, None, ap, sym, ◌∙◌, refl, arith}
use Rattle.std.specs.Prelude.{option_map, unwrap_or}
use Rattle.std.specs.List.{cons_option, filter, filter_map, sum_by}
use Rattle.std.proofs.lemmas.Bool.{eqb-true, eq-eqb, ne_eqb, ltb-true, and_parts, false≢true}
use Rattle.std.proofs.lemmas.List.Filters.{sum_by-filter_both}
use Rattle.std.proofs.lemmas.List.Sums.{sum_by-cons}
use Rattle.entry_writes.specs.declared.entry.Entry.{Entry}
use Rattle.entry_writes.specs.declared.touched.EntryChange.{EntryChange}
use Rattle.entry_writes.specs.State.{ascends, entry_at}
use Rattle.entry_writes.specs.Touched.{identities, joined, change_at, is_change, touched, rises}
use Rattle.entry_writes.proofs.Identities.{above, none_at}
use Rattle.entry_tree.proofs.Changing.{same_where, none_outside, touched_at}
use Rattle.entry_tree.proofs.Committing.{rises-identities}
use Rattle.entry_tree.proofs.Rising.{among, below_all, rises-joined}

-- ---- sums

sum_map : {X Y : Type 0} (f : Y → ℕ) (t : X → Y) (xs : List X) → sum_by f (map t xs) ≡ sum_by (λ x. f (t x)) xs
sum_map f t [] = refl
sum_map f t (x ∷ xs) = sum_by-cons f (t x) (map t xs) ∙ ap (λ n. f (t x) + n) (sum_map f t xs) ∙ sym (sum_by-cons (λ y. f (t y)) x xs)

sum_none : (us : List ℕ) → sum_by (λ (u : ℕ). 0) us ≡ 0
sum_none [] = refl
sum_none (u ∷ us) = omega (arith, sum_by-cons (λ (v : ℕ). 0) u us, sum_none us)

sum_same : (p : ℕ → Bool) (f g : ℕ → ℕ) → ((u : ℕ) → p u ≡ false → f u ≡ g u) → (us : List ℕ) → sum_by f (filter (λ u. not (p u)) us) ≡ sum_by g (filter (λ u. not (p u)) us)
sum_same p f g same [] = refl
sum_same p f g same (u ∷ us) = by (p u) refl (sum_same p f g same us)
  where
    left : List ℕ
    left = filter (λ v. not (p v)) us

    by : (b : Bool) → p u ≡ b → sum_by f left ≡ sum_by g left → sum_by f (cond (not b) (u ∷ left) left) ≡ sum_by g (cond (not b) (u ∷ left) left)
    by true differs rest = rest
    by false stays rest = sum_by-cons f u left ∙ (λ i. same u stays i + rest i) ∙ sym (sum_by-cons g u left)

-- one number counts so much, each other what `g` gives it
abbrev with_one : ℕ → ℕ → (ℕ → ℕ) → ℕ → ℕ
with_one k w g u = cond (nat_eq k u) w (g u)

sum_off : (k w : ℕ) (g : ℕ → ℕ) (us : List ℕ) → below_all k us ≡ true → sum_by (with_one k w g) us ≡ sum_by g us
sum_off k w g [] below = refl
sum_off k w g (u ∷ us) below =
    let p = and_parts (nat_lt k u) (below_all k us) below in
    let far : k < u = ltb-true k u p.0 in
    let off : with_one k w g u ≡ g u = ap (λ b. cond b w (g u)) (ne_eqb k u (λ same. omega (arith, far, same))) in
    sum_by-cons (with_one k w g) u us ∙ (λ i. off i + sum_off k w g us p.1 i) ∙ sym (sum_by-cons g u us)

sum_one : (k w : ℕ) (g : ℕ → ℕ) (us : List ℕ) → rises us ≡ true → among k us ≡ true → g k ≡ 0 → sum_by (with_one k w g) us ≡ w + sum_by g us
sum_one k w g [] up here none = absurd (false≢true here)
sum_one k w g (u ∷ us) up here none =
    let p = and_parts (below_all u us) (rises us) up in
    by p.0 (sum_one k w g us p.1) (nat_eq k u) refl here
  where
    by : below_all u us ≡ true → (among k us ≡ true → g k ≡ 0 → sum_by (with_one k w g) us ≡ w + sum_by g us) → (b : Bool) → nat_eq k u ≡ b → (b || among k us) ≡ true
        → sum_by (with_one k w g) (u ∷ us) ≡ w + sum_by g (u ∷ us)
    by below rest true hit there =
        let same : k ≡ u = eqb-true k u hit in
        let first : with_one k w g u ≡ w = ap (λ b. cond b w (g u)) hit in
        let zero : g u ≡ 0 = ap g (sym same) ∙ none in
        let others = sum_off k w g us (ap (λ n. below_all n us) same ∙ below) in
        omega (arith, first, zero, others, sum_by-cons (with_one k w g) u us, sum_by-cons g u us)
    by below rest false miss there =
        let first : with_one k w g u ≡ g u = ap (λ b. cond b w (g u)) miss in
        let others = rest there none in
        omega (arith, first, others, sum_by-cons (with_one k w g) u us, sum_by-cons g u us)

-- ---- a measure, by identities

-- what it gives for an entry that is found, or 0
abbrev pub found_by : (Entry → ℕ) → Option Entry → ℕ
found_by f found = unwrap_or (option_map f found) 0

-- what both states add up to, by the changes between them
pub record Adds (f : Entry → ℕ) (old new : List Entry) (changes : List EntryChange) : Type 0 where
  pub before : sum_by (λ change. found_by f change.before) changes ≤ sum_by f old
  pub after : sum_by (λ change. found_by f change.after) changes ≤ sum_by f new
  pub both : sum_by f new + sum_by (λ change. found_by f change.before) changes ≡ sum_by f old + sum_by (λ change. found_by f change.after) changes

module _ (f : Entry → ℕ) where
  found_first : (b : Bool) (e : Entry) (found : Option Entry) → found_by f (cond b (Some e) found) ≡ cond b (f e) (found_by f found)
  found_first true e found = refl
  found_first false e found = refl

  -- entries add up to what is found at identities among which theirs are
  adds_by : (es : List Entry) (us : List ℕ) → ascends es ≡ true → rises us ≡ true → ((u : ℕ) → among u us ≡ false → entry_at es u ≡ None)
      → sum_by (λ u. found_by f (entry_at es u)) us ≡ sum_by f es
  adds_by [] us asc up all = sum_none us
  adds_by (e ∷ es) us asc up all =
      let p = and_parts (above e.uuid es) (ascends es) asc in
      let none : found_by f (entry_at es e.uuid) ≡ 0 = ap (found_by f) (none_at es e.uuid p.0) in
      (λ i. sum_by (λ u. found_first (nat_eq e.uuid u) e (entry_at es u) i) us)
      ∙ sum_one e.uuid (f e) (λ u. found_by f (entry_at es u)) us up (here (among e.uuid us) refl) none
      ∙ ap (λ n. f e + n) (adds_by es us p.1 up (λ u off. later u off (nat_eq e.uuid u) refl))
      ∙ sym (sum_by-cons f e es)
    where
      never : {A : Type 0} (x : A) (found : Option A) → found ≡ Some x → found ≡ None → ⊥
      never x found some none = cc

      here : (b : Bool) → among e.uuid us ≡ b → b ≡ true
      here true at = refl
      here false off = absurd (never e (entry_at (e ∷ es) e.uuid) (ap (λ b. cond b (Some e) (entry_at es e.uuid)) (eq-eqb e.uuid e.uuid refl)) (all e.uuid off))

      later : (u : ℕ) → among u us ≡ false → (b : Bool) → nat_eq e.uuid u ≡ b → entry_at es u ≡ None
      later u off true hit = absurd (never e (entry_at (e ∷ es) u) (ap (λ b. cond b (Some e) (entry_at es u)) hit) (all u off))
      later u off false miss = sym (ap (λ b. cond b (Some e) (entry_at es u)) miss) ∙ all u off

  -- the changes between two states account for what they add up to
  pub adds_touched : (old new : List Entry) → ascends old ≡ true → ascends new ≡ true → Adds f old new (touched old new)
  adds_touched old new asc up =
      let parts_was = sum_by-filter_both differs (λ u. not (differs u)) (λ u. refl) was both in
      let parts_now = sum_by-filter_both differs (λ u. not (differs u)) (λ u. refl) now both in
      let stays = sum_same differs was now (λ u same. ap (found_by f) (same_where old new u same)) both in
      let total_was = adds_by old both asc both_rise (λ u off. (none_outside old new u off).0) in
      let total_now = adds_by new both up both_rise (λ u off. (none_outside old new u off).1) in
      let before : sum_by (λ (c : EntryChange). found_by f c.before) (touched old new) ≡ sum_by was us = ap (sum_by (λ (c : EntryChange). found_by f c.before)) (touched_at old new) ∙ sum_map (λ (c : EntryChange). found_by f c.before) (change_at old new) us in
      let after : sum_by (λ (c : EntryChange). found_by f c.after) (touched old new) ≡ sum_by now us = ap (sum_by (λ (c : EntryChange). found_by f c.after)) (touched_at old new) ∙ sum_map (λ (c : EntryChange). found_by f c.after) (change_at old new) us in
      record {
        before = omega (arith, parts_was, total_was, before);
        after = omega (arith, parts_now, total_now, after);
        both = omega (arith, parts_was, parts_now, stays, total_was, total_now, before, after);
      }
    where
      differs : ℕ → Bool
      differs u = is_change (change_at old new u)

      was : ℕ → ℕ
      was u = found_by f (entry_at old u)

      now : ℕ → ℕ
      now u = found_by f (entry_at new u)

      both : List ℕ
      both = joined (identities old) (identities new)

      us : List ℕ
      us = filter differs both

      both_rise : rises both ≡ true
      both_rise = rises-joined (identities old) (identities new) (rises-identities old ∙ asc)

-- ---- the entries before changes, and after them

-- a measure of the entries that are found adds up to what it gives for each that is
pub sum_found : {X : Type 0} (f : Entry → ℕ) (g : X → Option Entry) (xs : List X) → sum_by f (filter_map g xs) ≡ sum_by (λ x. found_by f (g x)) xs
sum_found f g [] = refl
sum_found f g (x ∷ xs) = by (g x) (sum_found f g xs) ∙ sym (sum_by-cons (λ y. found_by f (g y)) x xs)
  where
    by : (found : Option Entry) → sum_by f (filter_map g xs) ≡ sum_by (λ y. found_by f (g y)) xs
        → sum_by f (cons_option found (filter_map g xs)) ≡ found_by f found + sum_by (λ y. found_by f (g y)) xs
    by None rest =
        let none : sum_by (λ y. found_by f (g y)) xs ≡ 0 + sum_by (λ y. found_by f (g y)) xs = omega arith in
        rest ∙ none
    by (Some e) rest = sum_by-cons f e (filter_map g xs) ∙ ap (λ n. f e + n) rest

-- entries that count one each add up to their number
pub sum_ones : (es : List Entry) → sum_by (λ (e : Entry). 1) es ≡ length es
sum_ones [] = refl
sum_ones (e ∷ es) = omega (arith, sum_by-cons (λ (x : Entry). 1) e es, sum_ones es)
