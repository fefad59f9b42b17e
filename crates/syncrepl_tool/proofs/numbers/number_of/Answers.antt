use Rattle.std.proofs.Common.{arith}
use Rattle.syncrepl_tool.proofs.NumberWords.{not_number, number_read}
use Rattle.syncrepl_tool.proofs.numbers.number_of.Goals as goal

pub returns-in_default-clause-none : goal.returns-in_default-clause-none
returns-in_default-clause-none c =
    λ n number. c.in_default.not-Ok n (number_read _ _ n (omega (arith, number.1, c.ranges.most)) number.2 c.parse.ensures.value.0)

pub returns-clause-none : goal.returns-clause-none
returns-clause-none c =
    not_number _ c.args.least c.args.most _ c.in-Ok.number c.is_number.result (omega (arith, c.ranges.most)) c.in-Ok.is c.parse.ensures.value.0 c.is_number.ensures.1
    c.if-is_number.false
