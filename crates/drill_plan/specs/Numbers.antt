-- The numbers that a writer draws, each from the one before it, modulo 2^64 (a linear congruential
-- generator). Of a number the top 16 bits count.
use Rattle.std.specs.Prelude.{ℕ, ◌+◌, ◌*◌, ◌/◌, ◌%◌, ◌^◌}

-- the number that a writer begins with
abbrev pub first_number : (seed writer : ℕ) → ℕ
first_number seed writer = (16 * seed + writer) % 2 ^ 64

abbrev pub next_number : ℕ → ℕ
next_number number = (number * 6364136223846793005 + 1442695040888963407) % 2 ^ 64

abbrev pub top_bits : ℕ → ℕ
top_bits number = number / 2 ^ 48

-- which entry below its unit the writer takes up
abbrev pub slot_of : ℕ → ℕ
slot_of number = top_bits number % 64

-- what is done to it, where it is there: 0 to 3
abbrev pub kind_of : ℕ → ℕ
kind_of number = (top_bits number / 64) % 4
