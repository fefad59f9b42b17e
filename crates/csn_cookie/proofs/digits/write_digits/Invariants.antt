-- The digits that are left to write, and those that are written, are all digits of the number.
use Rattle.std.proofs.Common.{◌≡◌, ◌++◌, drop, length}
use Rattle.csn_cookie.proofs.digits.write_digits.Given as goal
use Rattle.csn_cookie.specs.Digits.{field}

abbrev pub invariant-loop-place : goal.invariant-loop-place
invariant-loop-place l = field l.radix (length l.fn.text) l.number ≡ field l.radix l.place l.left ++ drop l.place l.text
