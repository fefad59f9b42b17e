-- What a search has pending, and when that is too much.
use Rattle.std.specs.Prelude.{◌≡◌, ℕ, ◌<◌, ◌⊎◌, List, length, sum_by, refl}
use Rattle.std.specs.Coded.{Coded, code_by, coded×, coded_list, coded_ℕ}
use Rattle.persist_queues.specs.declared.weight.TheConstants.{MOST_WEIGHT}

-- the pending items, the one that went in first at the start; how many there may be; and, beside
-- these, the number of further items for which room is made
pub record Pending (X : Type 0) : Type 0 where
  pub items : List X
  pub limit : ℕ
  pub spare : ℕ

module _ {X : Type 0} where
  abbrev pub pending_code : Coded X → Coded (Pending X)
  pending_code c =
      code_by (List X × (ℕ × ℕ)) (coded× (coded_list c) (coded× coded_ℕ coded_ℕ))
      (λ p. (p.items, (p.limit, p.spare)))
      (λ t. record { items = t.0; limit = t.1.0; spare = t.1.1 }) (λ _. refl)

  -- these items are more than the limit, or weigh more than any search may have pending
  abbrev pub IsOver : (X → ℕ) → ℕ → List X → Type 0
  IsOver weight limit items = (limit < length items) ⊎ (MOST_WEIGHT < sum_by weight items)

  -- the items and the limit are as before; the room is not spoken of
  abbrev pub IsAsBefore : Pending X → Pending X → Type 0
  IsAsBefore old new = (new.items ≡ old.items) × (new.limit ≡ old.limit)
