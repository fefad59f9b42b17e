-- Numbers in base 256.
use Rattle.std.proofs.Common.{ℕ, zero, suc, ◌<◌, ◌^◌, arith}

-- a number below a power of 256 of at most three is below the third
pub four_digits : (n i : ℕ) → n < 256 ^ i → i < 4 → n < 256 ^ 3
four_digits n zero small within = omega arith
four_digits n (suc zero) small within = omega arith
four_digits n (suc (suc zero)) small within = omega arith
four_digits n (suc (suc (suc zero))) small within = small
four_digits n (suc (suc (suc (suc i)))) small within = omega arith
