use Rattle.std.proofs.Common.{arith}
use Rattle.std.proofs.lemmas.Int.{ints}
use Rattle.text_keys.proofs.Numbers.{number_at-four}
use Rattle.text_keys.proofs.time.year_of.Goals as goal

pub returns-clause-value : goal.returns-clause-value
returns-clause-value c =
    let value = number_at-four c.args.digits.now c.requires.long in
    omega (arith, ints)

pub returns-clause-small : goal.returns-clause-small
returns-clause-small c =
    let value = number_at-four c.args.digits.now c.requires.long in
    omega arith
