-- A value of settled characters, of which there is one at least, is its own key.
use Rattle.std.proofs.Common.{◌<◌, length, sym, ◌∙◌, arith}
use Rattle.std.proofs.lemmas.Bool.Decides.{nat_tests}
use Rattle.text_keys.proofs.OwnKeys.{own_ignoring, own_exact, settled_ascii}
use Rattle.text_keys.proofs.text.is_own_key.Goals as goal

pub returns-clause-ignoring : goal.returns-clause-ignoring
returns-clause-ignoring c = λ passes.
    let some : 0 < length c.args.value.now = grind (arith, nat_tests) in
    own_ignoring c.args.value.now some (sym c.are_settled.ensures ∙ passes)

pub returns-clause-exact : goal.returns-clause-exact
returns-clause-exact c = λ passes.
    let some : 0 < length c.args.value.now = grind (arith, nat_tests) in
    own_exact c.args.value.now some (sym c.are_settled.ensures ∙ passes)

pub returns-clause-ascii : goal.returns-clause-ascii
returns-clause-ascii c = λ passes. settled_ascii c.args.value.now (sym c.are_settled.ensures ∙ passes)
