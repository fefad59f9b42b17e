use Rattle.std.proofs.Common.{◌≡◌, length, arith}
use Rattle.std.proofs.lemmas.Bool.Decides.{nat_tests}
use Rattle.std.proofs.lemmas.Grind.{common_steps}
use Rattle.text_keys.proofs.Pieces.{whole_key_empty}
use Rattle.text_keys.proofs.text.whole_key.Goals as goal

pub returns-then-is_empty-clause-fault : goal.returns-then-is_empty-clause-fault
returns-then-is_empty-clause-fault c =
    let empty : length c.in_ok-key.key.items ≡ 0 = grind (arith, nat_tests, common_steps) in
    whole_key_empty c.args.value.now c.args.fold c.in_ok-key.key.items c.in_ok-key.ensures.key empty
