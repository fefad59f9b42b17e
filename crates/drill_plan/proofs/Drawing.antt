-- The numbers that are drawn, modulo 2^64 at each step and at the end alone.
use Rattle.std.proofs.Common.{◌≡◌, ℕ, ◌+◌, ◌*◌, ◌%◌, ◌^◌, ap, ◌∙◌, arith}
use Rattle.std.proofs.Math.Nat.{mod-add-mod}

-- the first number of a writer
pub first_drawn : (seed writer : ℕ) → ((seed * 16) % 2 ^ 64 + writer) % 2 ^ 64 ≡ (16 * seed + writer) % 2 ^ 64
first_drawn seed writer =
    let turned : seed * 16 ≡ 16 * seed = omega arith in
    mod-add-mod (seed * 16) (2 ^ 64) writer ∙ ap (λ n. (n + writer) % 2 ^ 64) turned

-- the next number
pub next_drawn : (number factor summand : ℕ) → ((number * factor) % 2 ^ 64 + summand) % 2 ^ 64 ≡ (number * factor + summand) % 2 ^ 64
next_drawn number factor summand = mod-add-mod (number * factor) (2 ^ 64) summand
