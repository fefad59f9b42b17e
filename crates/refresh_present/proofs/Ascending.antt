-- A selection of items in ascending order is in ascending order.
use Rattle.std.proofs.Common.{◌≡◌, ℕ, Bool, true, false, cond, List, [], ◌∷◌}
use Rattle.std.specs.Prelude.{filter}
use Rattle.std.specs.List.{AllByRecursion}
use Rattle.std.specs.List.Sorted.{IsStrictlySortedBy}
use Rattle.std.specs.Ordering.{nat_cmp}
use Rattle.std.specs.declared.cmp.Ordering.TheVariants.{Less}
use Rattle.refresh_present.specs.declared.item.Item.{Item}
use Rattle.refresh_present.specs.Item.{identities}

all-filter : (P : ℕ → Type 0) (p : Item → Bool) (items : List Item) → AllByRecursion P (identities items)
    → AllByRecursion P (identities (filter p items))
all-filter P p [] all = tt
all-filter P p (item ∷ items) all = step (p item) (all-filter P p items all.1) where
  step : (b : Bool) → AllByRecursion P (identities (filter p items))
      → AllByRecursion P (identities (cond b (item ∷ filter p items) (filter p items)))
  step true rest = (all.0, rest)
  step false rest = rest

-- some of the items in ascending order are in ascending order
pub ascends-filter : (p : Item → Bool) (items : List Item) → IsStrictlySortedBy nat_cmp (identities items)
    → IsStrictlySortedBy nat_cmp (identities (filter p items))
unfolding IsStrictlySortedBy
ascends-filter p [] ascends = tt
ascends-filter p (item ∷ items) ascends =
    step (p item) (all-filter (λ y. nat_cmp item.uuid y ≡ Less) p items ascends.0) (ascends-filter p items ascends.1)
  where
    step : (b : Bool) → AllByRecursion (λ y. nat_cmp item.uuid y ≡ Less) (identities (filter p items))
        → IsStrictlySortedBy nat_cmp (identities (filter p items))
        → IsStrictlySortedBy nat_cmp (identities (cond b (item ∷ filter p items) (filter p items)))
    step true above rest = (above, rest)
    step false above rest = rest
