-- What stands for a key in a question.
use Rattle.std.specs.Prelude.{◌≡◌, ℕ, ◌<◌, ◌≤◌, Bool, if◌then◌else◌, List, length, get_or, take, Vec, IsTrue, nat_eq}
use Rattle.std.proofs.Common.{Global}
use Rattle.std.specs.Cmp.Lexicographic.{slice_cmp}
use Rattle.std.specs.Int.{from_be_bytes, w64}
use Rattle.std.specs.List.{starts_with}
use Rattle.std.specs.Ordering.{nat_cmp, is_le, is_lt}
use Rattle.std.specs.declared.cmp.Ordering.{Ordering}
use Rattle.std.specs.declared.cmp.Ordering.TheVariants.{Less, Equal, Greater}

-- compare says of each key on which side of one key it stands, whether or not a map has that key
pub record IsQuery {K : Type 0} (cmp : K → K → Ordering) (compare : K → Ordering) : Type 0 where
  pub respects : (x y : K) → compare x ≡ Equal → compare y ≡ cmp x y
  pub below_greater : (x y : K) → IsTrue (is_le (compare x)) → cmp x y ≡ Less → compare y ≡ Less

-- the octets begin with eight that are this number, the first the highest
pub record BeginsWith (octets : List ℕ) (number : ℕ) : Type 0 where
  pub enough : 8 ≤ length octets
  pub is : number ≡ from_be_bytes w64 (take 8 octets)
  pub small : (i : ℕ) → get_or octets i 0 < 256

-- ---- keys that are lists of octets

-- their order
abbrev pub octets_cmp : Vec ℕ Global → Vec ℕ Global → Ordering
octets_cmp one other = slice_cmp nat_cmp one.items other.items

-- the key begins with these octets
abbrev pub begins : List ℕ → Vec ℕ Global → Bool
begins octets key = starts_with nat_eq key.items octets

-- on which side of a key those stand that begin with these octets, where it is none of them
abbrev pub place_at : List ℕ → Vec ℕ Global → Ordering
place_at octets key =
    if begins octets key then Equal
    else (if is_lt (slice_cmp nat_cmp octets key.items) then Less else Greater)
