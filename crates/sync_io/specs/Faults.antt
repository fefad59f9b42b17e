-- Counts of faults.
use Rattle.std.specs.Prelude.{ℕ, ◌+◌, ◌-◌, ◌^◌, ◌≤◌, min}

-- the count after one more fault: it stops at the greatest number of its type
abbrev pub one_more : ℕ → ℕ
one_more faults = min (faults + 1) (2 ^ 64 - 1)

-- the count has risen, or stands at the greatest number of its type
abbrev pub CountHasRisen : ℕ → ℕ → Type 0
CountHasRisen before now = one_more before ≤ now
