-- What belongs place by place to two lists, one after the other.
use Rattle.std.proofs.Common.{◌≡◌, List, [], ◌∷◌, ◌++◌, refl, ap}
use Rattle.std.specs.List.{AllZip}

-- the items of the first and of the second
pub record IsParted {X Y : Type 0} (R : X → Y → Type 0) (now more : List X) (items : List Y) : Type 0 where
  pub first : List Y
  pub second : List Y
  pub is : items ≡ first ++ second
  pub begins : AllZip R now first
  pub ends : AllZip R more second

-- items that belong to two lists are those of the first and then those of the second
pub parted : {X Y : Type 0} (R : X → Y → Type 0) (now more : List X) (items : List Y) → AllZip R (now ++ more) items → IsParted R now more items
parted R [] more items each = record { first = []; second = items; is = refl; begins = tt; ends = each }
parted R (x ∷ now) more [] each = absurd each
parted R (x ∷ now) more (item ∷ items) each =
    let rest = parted R now more items each.1 in
    record {
      first = item ∷ rest.first;
      second = rest.second;
      is = ap (λ ys. item ∷ ys) rest.is;
      begins = (each.0, rest.begins);
      ends = rest.ends;
    }
