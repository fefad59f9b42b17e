-- The entries up to an identity.
use Rattle.std.proofs.Common.{◌≡◌, ◌<◌, ◌≤◌, ◌-◌, ℕ, zero, suc, true, not, cond, nat_lt, nat_le, List, [], ◌∷◌, ◌++◌, length, Some, None, subst, refl, ap, ◌∙◌, arith}
use Rattle.std.specs.List.{filter, list_all, slice_get}
use Rattle.std.proofs.lemmas.Bool.{and_parts, ltb-true, le-leb}
use Rattle.std.proofs.lemmas.Bool.Decides.{nat_tests}
use Rattle.std.proofs.lemmas.List.{append-nil}
use Rattle.std.proofs.lemmas.List.Elements.{filter-append}
use Rattle.entry_tree.specs.declared.entry.Entry.{Entry}
use Rattle.entry_tree.specs.State.{ascends, put, is_identified}
use Rattle.entry_tree.proofs.Identities.{above, above_lower}
use Rattle.entry_tree.proofs.Putting.{all_higher, lower}
use Rattle.sync_model.specs.Copy.{Stage, puts_of, drops_of, effected}
use Rattle.sync_consumer.specs.Staging.{higher, up_to}

module _ (u : ℕ) where
  -- ---- what changes above the identity leave

  lower_prefix : (k : ℕ) (es : List Entry) → u < k → up_to u (lower k es) ≡ up_to u es
  lower_prefix k [] less = refl
  lower_prefix k (x ∷ es) less = grind (arith, nat_tests, lower_prefix k es less)

  higher_prefix : (k : ℕ) (es : List Entry) → u < k → up_to u (higher k es) ≡ []
  higher_prefix k [] less = refl
  higher_prefix k (x ∷ es) less = grind (arith, nat_tests, higher_prefix k es less)

  first_prefix : (x : Entry) (es : List Entry) → u < x.uuid → up_to u (x ∷ es) ≡ up_to u es
  first_prefix x es less = grind (arith, nat_tests)

  put_prefix : (e : Entry) (es : List Entry) → u < e.uuid → up_to u (put e es) ≡ up_to u es
  put_prefix e es less =
      filter-append (λ (entry : Entry). nat_le entry.uuid u) (lower e.uuid es) (e ∷ higher e.uuid es)
      ∙ (λ i. lower_prefix e.uuid es less i ++ (first_prefix e (higher e.uuid es) less ∙ higher_prefix e.uuid es less) i)
      ∙ append-nil (up_to u es)

  drop_prefix : (k : ℕ) (es : List Entry) → u < k → up_to u (filter (λ entry. not (is_identified k entry)) es) ≡ up_to u es
  drop_prefix k [] less = refl
  drop_prefix k (x ∷ es) less = grind (arith, nat_tests, drop_prefix k es less)

  -- a stage leaves the entries up to an identity that all of its changes are above
  pub prefix_effected : (stage : Stage) (held : List Entry) → above u (puts_of stage) ≡ true → list_all (nat_lt u) (drops_of stage) ≡ true
      → up_to u (effected held stage) ≡ up_to u held
  prefix_effected [] held puts drops = refl
  prefix_effected ((k, Some e) ∷ stage) held puts drops =
      let p = and_parts (nat_lt u e.uuid) (above u (puts_of stage)) puts in
      put_prefix e (effected held stage) (ltb-true u e.uuid p.0) ∙ prefix_effected stage held p.1 drops
  prefix_effected ((k, None) ∷ stage) held puts drops =
      let d = and_parts (nat_lt u k) (list_all (nat_lt u) (drops_of stage)) drops in
      drop_prefix k (effected held stage) (ltb-true u k d.0) ∙ prefix_effected stage held puts d.1

  -- an entry that is not above an identity is among those up to it
  pub kept : (x : Entry) (es : List Entry) → x.uuid ≤ u → up_to u (x ∷ es) ≡ x ∷ up_to u es
  kept x es le = ap (λ b. cond b (x ∷ up_to u es) (up_to u es)) (le-leb x.uuid u le)

  -- ---- both sides of an identity

  none_prefix : (es : List Entry) → above u es ≡ true → up_to u es ≡ []
  none_prefix [] far = refl
  none_prefix (x ∷ es) far = grind (arith, nat_tests, far, none_prefix es)

  -- the entries up to an identity and those above it are all of them
  pub both_sides : (es : List Entry) → ascends es ≡ true → up_to u es ++ higher u es ≡ es
  both_sides [] up = refl
  both_sides (x ∷ es) up =
      let p = and_parts (above x.uuid es) (ascends es) up in
      grind (arith, nat_tests, p.0, both_sides es p.1, none_prefix es, all_higher u es, above_lower es u x.uuid)

-- ---- the last entry

above_get : (u : ℕ) (es : List Entry) (k : ℕ) (e : Entry) → above u es ≡ true → slice_get es k ≡ Some e → u < e.uuid
above_get u [] k e far is = absurd (cc)
above_get u (x ∷ es) zero e far is =
    let same : x ≡ e = cc in
    subst (λ (y : Entry). u < y.uuid) same (ltb-true u x.uuid (and_parts (nat_lt u x.uuid) (above u es) far).0)
above_get u (x ∷ es) (suc k) e far is = above_get u es k e (and_parts (nat_lt u x.uuid) (above u es) far).1 is

-- all entries are up to the last one
pub all_prefix : (es : List Entry) (last : Entry) → ascends es ≡ true → slice_get es (length es - 1) ≡ Some last → up_to last.uuid es ≡ es
all_prefix [] last up is = refl
all_prefix (x ∷ []) last up is =
    let same : x ≡ last = cc in
    subst (λ (y : Entry). up_to y.uuid (x ∷ []) ≡ x ∷ []) same (kept x.uuid x [] (omega arith))
all_prefix (x ∷ y ∷ es) last up is =
    let p = and_parts (above x.uuid (y ∷ es)) (ascends (y ∷ es)) up in
    let place : length (x ∷ y ∷ es) - 1 ≡ suc (length es) = omega arith in
    let there : slice_get (y ∷ es) (length es) ≡ Some last = subst (λ k. slice_get (x ∷ y ∷ es) k ≡ Some last) place is in
    let rest : length es ≡ length (y ∷ es) - 1 = omega arith in
    let later : x.uuid < last.uuid = above_get x.uuid (y ∷ es) (length es) last p.0 there in
    kept last.uuid x (y ∷ es) (omega (arith, later))
    ∙ ap (λ es. x ∷ es) (all_prefix (y ∷ es) last p.1 (subst (λ k. slice_get (y ∷ es) k ≡ Some last) rest there))
