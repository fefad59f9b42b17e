-- The number stays within the digits so far.
use Rattle.std.proofs.Common.{◌+◌, ◌<◌, arith}
use Rattle.csn_cookie.proofs.digits.number_of.Goals as goal
use Rattle.csn_cookie.proofs.DigitsLemmas.{next_below, pow_small}

pub overflow_add-number : goal.overflow_add-number
overflow_add-number c =
    let digit : c.from-in-loop-byte-3.result < c.args.radix = omega (arith, c.in_ok-digit.ensures.value.0, c.in_ok-digit.ensures.value.1) in
    let below = next_below c.args.radix c.loop-byte.number c.from-in-loop-byte-3.result c.loop-byte.byte-index c.loop-byte.invariant.below digit in
    let small = pow_small c.args.radix (c.loop-byte.byte-index + 1) (omega arith) c.requires.high (omega arith) in
    rw c.from-in-loop-byte-2.ensures (omega (arith, below, small))

pub overflow_mul-number : goal.overflow_mul-number
overflow_mul-number c =
    let below = next_below c.args.radix c.loop-byte.number 0 c.loop-byte.byte-index c.loop-byte.invariant.below (omega arith) in
    let small = pow_small c.args.radix (c.loop-byte.byte-index + 1) (omega arith) c.requires.high (omega arith) in
    rw c.from-in-loop-byte-2.ensures (omega (arith, below, small))
