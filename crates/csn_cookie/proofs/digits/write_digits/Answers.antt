use Rattle.std.proofs.Common.{arith, sym, ◌∙◌}
use Rattle.csn_cookie.proofs.digits.write_digits.Goals as goal
use Rattle.csn_cookie.proofs.DigitsLemmas.{field_more, field_done}

pub loop-place-preserved : goal.loop-place-preserved
loop-place-preserved c =
    c.loop-place.invariant ∙ rw c.from-left.ensures (field_more c.args.radix c.loop-place.place c.loop-place.left c.digit_of.result c.loop-place.text
    c.loop-place-test.true (omega arith) (rw (← c.from.ensures) c.digit_of.ensures))

pub returns : goal.returns
returns c =
    sym (c.loop-place.invariant ∙ field_done c.args.radix c.loop-place.place c.loop-place.left c.loop-place.text c.loop-place-test.false)
