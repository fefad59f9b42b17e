-- A number of three digits in base 256 has room for one more.
use Rattle.std.proofs.Common.{arith}
use Rattle.dn_names.proofs.Sums.{four_digits}
use Rattle.dn_names.proofs.values.length_of.Goals as goal

pub overflow_mul-sum : goal.overflow_mul-sum
overflow_mul-sum c = omega (arith, four_digits c.loop-octet.sum c.loop-octet.octet-index c.loop-octet.invariant.small (omega arith))
