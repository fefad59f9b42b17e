-- Entries in ascending order: equal where what they have at each identity is.
use Rattle.std.proofs.Common.{◌≡◌, ℕ, ◌<◌, Bool, true, false, cond, nat_eq, List, [], ◌∷◌, refl, sym, ap, ◌∙◌, Some, None, Option, ◌⊎◌, inl, inr}
use Rattle.std.specs.Prelude.{filter}
use Rattle.std.proofs.lemmas.Bool.{eqb-true, eq-eqb, ne_eqb, cases_order, cases_eq, cond-false, cond-true, and_parts}
use Rattle.std.proofs.lemmas.Map.Entries.{option_filter}
use Rattle.entry_writes.specs.declared.entry.Entry.{Entry}
use Rattle.entry_writes.specs.State.{ascends, entry_at}
use Rattle.entry_writes.proofs.Identities.{above, above_all, none_at}

-- what passes a test is, at one identity, what is there if that passes
pub entry_at-filter : (test : Entry → Bool) (entries : List Entry) (u : ℕ) → ascends entries ≡ true → entry_at (filter test entries) u ≡ option_filter test (entry_at entries u)
entry_at-filter test [] u asc = refl
entry_at-filter test (e ∷ entries) u asc =
    let p = and_parts (above e.uuid entries) (ascends entries) asc in
    step p.0 (entry_at-filter test entries u p.1) _ _ refl refl
  where
    step : above e.uuid entries ≡ true → entry_at (filter test entries) u ≡ option_filter test (entry_at entries u) → (here keep : Bool) → nat_eq e.uuid u ≡ here → test e ≡ keep
        → entry_at (cond keep (e ∷ filter test entries) (filter test entries)) u ≡ option_filter test (cond here (Some e) (entry_at entries u))
    step later ih true true p q = cond-true _ _ _ p ∙ sym (ap (λ b. cond b (Some e) None) q)
    step later ih true false p q =
        let far : above u entries ≡ true = ap (λ n. above n entries) (sym (eqb-true e.uuid u p)) ∙ later in
        ih ∙ ap (option_filter test) (none_at entries u far) ∙ sym (ap (λ b. cond b (Some e) None) q)
    step later ih false true p q = cond-false _ _ _ p ∙ ih
    step later ih false false p q = ih

-- the first entry is the one at its identity
pub at_head : (e : Entry) (entries : List Entry) → entry_at (e ∷ entries) e.uuid ≡ Some e
at_head e entries = cond-true _ _ _ (eq-eqb e.uuid e.uuid refl)

differ : {X : Type 0} (x : X) (found other : Option X) → found ≡ Some x → other ≡ None → found ≡ other → ⊥
differ x found other p q r = cc

-- entries in ascending order with the same at each identity are the same
pub same_entries : (one other : List Entry) → ascends one ≡ true → ascends other ≡ true → ((u : ℕ) → entry_at one u ≡ entry_at other u) → one ≡ other
same_entries [] [] a b h = refl
same_entries [] (e ∷ es) a b h = absurd (differ e (entry_at (e ∷ es) e.uuid) None (at_head e es) refl (sym (h e.uuid)))
same_entries (e ∷ es) [] a b h = absurd (differ e (entry_at (e ∷ es) e.uuid) None (at_head e es) refl (h e.uuid))
same_entries (d ∷ ds) (e ∷ es) a b h =
    let p = and_parts (above d.uuid ds) (ascends ds) a in
    let q = and_parts (above e.uuid es) (ascends es) b in
    by p.0 q.0 (λ k. same_entries ds es p.1 q.1 k) (cases_order d.uuid e.uuid)
  where
    rest : above d.uuid ds ≡ true → above e.uuid es ≡ true → d.uuid ≡ e.uuid → (u : ℕ) → entry_at ds u ≡ entry_at es u
    rest low high same u = elim (cases_eq d.uuid u) [
      | inl here ↦ none_at ds u (ap (λ n. above n ds) (sym here) ∙ low) ∙ sym (none_at es u (ap (λ n. above n es) (sym (sym same ∙ here)) ∙ high))
      | inr off ↦ sym (cond-false _ _ _ (ne_eqb d.uuid u off)) ∙ h u ∙ cond-false _ _ _ (ne_eqb e.uuid u (λ r. off (same ∙ r)))
    ]

    inside : Some d ≡ Some e → d ≡ e
    inside q = cc

    by : above d.uuid ds ≡ true → above e.uuid es ≡ true → (((u : ℕ) → entry_at ds u ≡ entry_at es u) → ds ≡ es) → (d.uuid ≡ e.uuid) ⊎ ((d.uuid < e.uuid) ⊎ (e.uuid < d.uuid)) → d ∷ ds ≡ e ∷ es
    by low high tails (inl same) =
        let first : d ≡ e = inside (sym (at_head d ds) ∙ h d.uuid ∙ ap (entry_at (e ∷ es)) same ∙ at_head e es) in
        let more : ds ≡ es = tails (rest low high same) in
        λ i. first i ∷ more i
    by low high tails (inr (inl less)) =
        absurd (differ d (entry_at (d ∷ ds) d.uuid) (entry_at (e ∷ es) d.uuid) (at_head d ds) (none_at (e ∷ es) d.uuid (above_all d.uuid e es less high)) (h d.uuid))
    by low high tails (inr (inr more)) =
        absurd (differ e (entry_at (e ∷ es) e.uuid) (entry_at (d ∷ ds) e.uuid) (at_head e es) (none_at (d ∷ ds) e.uuid (above_all e.uuid d ds more low)) (sym (h e.uuid)))
