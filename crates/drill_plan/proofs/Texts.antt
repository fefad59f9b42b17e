-- What is printed of entries does not depend on the order in which they come.
use Rattle.std.proofs.Common.{◌≡◌, ◌⊎◌, ℕ, zero, suc, ◌<◌, ◌==◌, List, [], ◌∷◌, map, fold, length, get_or, inl, inr, refl, sym, ap, subst, arith}
use Rattle.std.specs.BTreeSet.{insert_key}
use Rattle.std.specs.Cmp.Lexicographic.{slice_cmp}
use Rattle.std.specs.List.{Contains, after_first, flat_map}
use Rattle.std.specs.List.Sorted.{IsPermutation}
use Rattle.std.specs.Ordering.{nat_cmp}
use Rattle.std.proofs.lemmas.Cmp.{nat_list_cmp_total}
use Rattle.std.proofs.lemmas.List.Sorted.{IsPermutation-map, IsPermutation-sym, Contains-permutation}
use Rattle.std.proofs.lemmas.Map.Lookups.{exact_bytes}
use Rattle.dn_names.proofs.SortedLists.{In, Sorted, sorted-insert, new_or_old, new_is_in, old_is_in, same_members}
use Rattle.drill_plan.specs.Plain.{PlainEntry}
use Rattle.drill_plan.specs.Summary.{named_text, in_order, text_of}

-- ---- members

module _ {X : Type 0} where
  in_at : (xs : List X) (k : ℕ) (d : X) → k < length xs → In (get_or xs k d) xs
  in_at [] k d low = absurd (omega (arith, low))
  in_at (x ∷ xs) zero d low = inl refl
  in_at (x ∷ xs) (suc k) d low = inr (in_at xs k d (omega (arith, low)))

  in_where_contained : (xs : List X) (x : X) → Contains xs x → In x xs
  in_where_contained xs x there = subst (λ y. In y xs) there.2 (in_at xs there.0 x there.1)

  contained_where_in : (xs : List X) (x : X) → In x xs → Contains xs x
  contained_where_in [] x member = absurd member
  contained_where_in (y ∷ ys) x (inl same) = (zero, omega arith, sym same)
  contained_where_in (y ∷ ys) x (inr rest) =
      let there = contained_where_in ys x rest in (suc there.0, let low : there.0 < length ys = there.1 in omega (arith, low), there.2)

-- ---- texts as a set

abbrev Texts : Type 0
Texts = List (List ℕ)

abbrev with_each : Texts → Texts → Texts
with_each set texts = fold (insert_key (slice_cmp nat_cmp)) set texts

old_or_put : (texts set : Texts) (m : List ℕ) → In m (with_each set texts) → In m set ⊎ In m texts
old_or_put [] set m member = inl member
old_or_put (k ∷ ks) set m member =
    elim (old_or_put ks (insert_key (slice_cmp nat_cmp) set k) m member) [
      | inl early ↦ elim (new_or_old nat_list_cmp_total exact_bytes m k set early) [ inl new ↦ inr (inl new) | inr old ↦ inl old ]
      | inr late ↦ inr (inr late)
    ]

put_or_old : (texts set : Texts) (m : List ℕ) → In m set ⊎ In m texts → In m (with_each set texts)
put_or_old [] set m (inl early) = early
put_or_old [] set m (inr late) = absurd late
put_or_old (k ∷ ks) set m (inl early) =
    put_or_old ks (insert_key (slice_cmp nat_cmp) set k) m (inl (old_is_in nat_list_cmp_total exact_bytes m k set early))
put_or_old (k ∷ ks) set m (inr (inl first)) =
    put_or_old ks (insert_key (slice_cmp nat_cmp) set k) m (inl (rw first (new_is_in nat_list_cmp_total exact_bytes k set)))
put_or_old (k ∷ ks) set m (inr (inr rest)) = put_or_old ks (insert_key (slice_cmp nat_cmp) set k) m (inr rest)

sorted_each : (texts set : Texts) → Sorted (slice_cmp nat_cmp) set → Sorted (slice_cmp nat_cmp) (with_each set texts)
sorted_each [] set sorted = sorted
sorted_each (k ∷ ks) set sorted =
    sorted_each ks (insert_key (slice_cmp nat_cmp) set k) (sorted-insert nat_list_cmp_total exact_bytes set k sorted)

-- a text that the one list has, the set of the other has
moves_on : (xs ys : Texts) → IsPermutation xs ys → (m : List ℕ) → In m (with_each [] xs) → In m (with_each [] ys)
moves_on xs ys permuted m member =
    elim (old_or_put xs [] m member) [
      | inl none ↦ absurd none
      | inr there ↦ put_or_old ys [] m
          (inr (in_where_contained ys m (Contains-permutation xs ys m permuted (contained_where_in xs m there))))
    ]

-- ---- what is printed

same_order : (xs ys : List PlainEntry) → IsPermutation xs ys → in_order xs ≡ in_order ys
same_order xs ys permuted =
    let one = map named_text xs in
    let other = map named_text ys in
    let texts : IsPermutation one other = IsPermutation-map named_text xs ys permuted in
    same_members nat_list_cmp_total exact_bytes (with_each [] one) (with_each [] other) (sorted_each one [] tt) (sorted_each other [] tt)
    (moves_on one other texts) (moves_on other one (IsPermutation-sym one other texts))

-- a permutation of entries has the same text
pub same_text : (xs ys : List PlainEntry) → IsPermutation xs ys → text_of xs ≡ text_of ys
same_text xs ys permuted = ap (flat_map (after_first (λ byte. byte == 0))) (same_order xs ys permuted)
