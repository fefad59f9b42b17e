-- The path begins with the other where the name is at or below it.
use Rattle.std.proofs.Common.{◌∙◌}
use Rattle.dn_names.proofs.PathKeys.{starts_is_below}
use Rattle.dn_names.proofs.dn.Dn.is_at_or_below.Goals as goal

pub returns : goal.returns
returns c =
    rw (c.path.ensures.value, c.path-2.ensures.value) at c.starts_with.ensures.value
    ∙ starts_is_below c.args.self.now c.args.other.now c.path.ensures.sound c.path-2.ensures.sound
