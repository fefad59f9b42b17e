use Rattle.std.proofs.Common.{arith}
use Rattle.std.proofs.lemmas.Int.{ints}
use Rattle.text_keys.proofs.Numbers.{number_at-two, number_at-two-lt}
use Rattle.text_keys.proofs.time.two_digits.Goals as goal

pub returns-clause-value : goal.returns-clause-value
returns-clause-value c =
    let value = number_at-two c.args.digits.now c.args.at c.requires.long c.requires.digits in
    let small = number_at-two-lt c.args.digits.now c.args.at c.requires.long c.requires.digits in
    omega (arith, ints)

pub returns-clause-small : goal.returns-clause-small
returns-clause-small c = number_at-two-lt c.args.digits.now c.args.at c.requires.long c.requires.digits
