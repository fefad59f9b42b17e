use Rattle.std.proofs.Common.{◌∙◌}
use Rattle.text_keys.proofs.Integers.{parse_fits, IsUtf8-integer}
use Rattle.text_keys.proofs.integer.has_64_bits.Goals as goal

pub returns-in-Ok : goal.returns-in-Ok
returns-in-Ok c =
    c.is_ok.ensures.value
    ∙ parse_fits c.args.integer.now c.parse.result c.requires (rw c.in-Ok.ensures.cases.0 at c.parse.ensures.value.0)

pub returns-in-Err : goal.returns-in-Err
returns-in-Err c = absurd (c.in-Err.ensures.cases.0 (IsUtf8-integer c.args.integer.now c.requires))
