-- Of a value in ASCII that begins with another character than a space something is left.
use Rattle.std.proofs.Common.{◌<◌, length, arith}
use Rattle.std.proofs.lemmas.Bool.Decides.{nat_tests}
use Rattle.text_keys.proofs.Ascii.{ascii_where, plain_ignoring, plain_exact}
use Rattle.text_keys.proofs.text.is_plain.Goals as goal

pub returns-clause-ignoring : goal.returns-clause-ignoring
returns-clause-ignoring c = λ passes.
    let some : 0 < length c.args.value.now = grind (arith, nat_tests) in
    plain_ignoring c.args.value.now some c.if-value-eq32.false (ascii_where c.args.value.now c.is_ascii.result c.is_ascii.ensures.cases passes)

pub returns-clause-exact : goal.returns-clause-exact
returns-clause-exact c = λ passes.
    let some : 0 < length c.args.value.now = grind (arith, nat_tests) in
    plain_exact c.args.value.now some c.if-value-eq32.false (ascii_where c.args.value.now c.is_ascii.result c.is_ascii.ensures.cases passes)

pub returns-clause-ascii : goal.returns-clause-ascii
returns-clause-ascii c = λ passes. ascii_where c.args.value.now c.is_ascii.result c.is_ascii.ensures.cases passes
