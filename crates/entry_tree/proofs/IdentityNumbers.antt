-- Identities by the numbers of their writes.
use Rattle.std.proofs.Common.{◌≡◌, ℕ, ◌+◌, ◌*◌, ◌%◌, ◌^◌, ◌<◌, arith}
use Rattle.std.proofs.Math.Nat.{mod-eq_of_lt}
use Rattle.entry_tree.specs.History.{identity}

sum_rises : (prefix a b : ℕ) → a < b → prefix + a < prefix + b
sum_rises prefix a b less = omega (arith, less)

-- the identity of the next write is above
pub identity_rises : (history n : ℕ) → n + 1 < 2 ^ 62 → identity history n < identity history (n + 1)
identity_rises history n low =
    let here : n % 2 ^ 62 ≡ n = mod-eq_of_lt (omega (arith, low)) in
    let later : (n + 1) % 2 ^ 62 ≡ n + 1 = mod-eq_of_lt low in
    let less : n % 2 ^ 62 < (n + 1) % 2 ^ 62 = omega (arith, here, later) in
    sum_rises ((history % 2 ^ 48) * 2 ^ 80 + 8 * 2 ^ 76 + 2 * 2 ^ 62) (n % 2 ^ 62) ((n + 1) % 2 ^ 62) less
