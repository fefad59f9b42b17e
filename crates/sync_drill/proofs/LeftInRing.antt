-- The items that are left in a ring are taken one by one.
use Rattle.std.proofs.Common.{◌≡◌, ◌<◌, ◌-◌, ℕ, List, [], ◌∷◌, ◌++◌, length, refl, sym, ap, ◌∙◌, subst, arith, append_assoc, append-nil}
use mathlib.Core.List.{IsPrefix}
use Rattle.link_rings.specs.Ends.{known_items, taken}
use Rattle.link_rings.specs.declared.ends.RingConsumer.{RingConsumer}
use Rattle.sync_drill.specs.Handing.{TakesKnown}

-- n items are left of these, and the end knows of them
pub record HasLeft (count : ℕ) (end : RingConsumer) (items : List (List ℕ)) : Type 0 where
  pub rest : List (List ℕ)
  pub counted : length rest ≡ count
  pub known : IsPrefix rest (known_items end)
  pub whole : taken end ++ rest ≡ items

-- it knows of all of them
pub left_begun : (count : ℕ) (end : RingConsumer) (items : List (List ℕ)) → count ≡ length (known_items end) → taken end ++ known_items end ≡ items
    → HasLeft count end items
left_begun count end items counted whole = record {
  rest = known_items end;
  counted = sym counted;
  known = ([], append-nil (known_items end));
  whole = whole;
}

-- one of them is taken
pub left_next : (count : ℕ) (old new : RingConsumer) (items : List (List ℕ)) → 0 < count → HasLeft count old items
    → ((item : List ℕ) (rest : List (List ℕ)) → IsPrefix (item ∷ rest) (known_items old) → TakesKnown old new item rest)
    → HasLeft (count - 1) new items
left_next count old new items some left takes = by left.rest refl
  where
    by : (rest : List (List ℕ)) → left.rest ≡ rest → HasLeft (count - 1) new items
    by [] none = absurd (omega (arith, some, left.counted, ap length none))
    by (item ∷ rest) is =
        let one : TakesKnown old new item rest = takes item rest (subst (λ items. IsPrefix items (known_items old)) is left.known) in
        record {
          rest = rest;
          counted = omega (arith, left.counted, ap length is);
          known = one.known;
          whole = ap (λ items. items ++ rest) one.taken_is
              ∙ append_assoc (taken old) (item ∷ []) rest
              ∙ ap (λ items. taken old ++ items) (sym is)
              ∙ left.whole;
        }

-- all were taken
pub left_none : (end : RingConsumer) (items : List (List ℕ)) → HasLeft 0 end items → taken end ≡ items
left_none end items left = by left.rest refl
  where
    by : (rest : List (List ℕ)) → left.rest ≡ rest → taken end ≡ items
    by [] none = sym (append-nil (taken end)) ∙ ap (λ items. taken end ++ items) (sym none) ∙ left.whole
    by (item ∷ rest) is = absurd (omega (arith, left.counted, ap length is))
