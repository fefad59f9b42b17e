use Rattle.std.proofs.Common.{◌+◌, ◌<◌, take, arith}
use Rattle.std.proofs.lemmas.Grind.{common_steps}
use Rattle.cascade_script.specs.Words.{value_of}
use Rattle.cascade_script.proofs.Digits.{none_above}
use Rattle.cascade_script.proofs.words.value_up_to.Goals as goal

pub returns-then-value-most : goal.returns-then-value-most
returns-then-value-most c =
    let above : c.args.most < value_of (take (c.loop-digit.digit-index + 1) c.args.digits.now) = grind (arith, common_steps) in
    none_above c.args.digits.now (c.loop-digit.digit-index + 1) c.args.most above
