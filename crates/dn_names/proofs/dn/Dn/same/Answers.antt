-- The paths are the same where the names are equal.
use Rattle.std.proofs.Common.{◌∙◌}
use Rattle.dn_names.proofs.PathKeys.{equal_is_same}
use Rattle.dn_names.proofs.dn.Dn.same.Goals as goal

pub returns : goal.returns
returns c =
    rw (c.path.ensures.value, c.path-2.ensures.value) at c.eq.ensures
    ∙ equal_is_same c.args.self.now c.args.other.now c.path.ensures.sound c.path-2.ensures.sound
