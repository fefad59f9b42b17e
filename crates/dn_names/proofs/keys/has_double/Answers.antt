-- Fewer than two pairs differ.
use Rattle.std.proofs.Common.{sym}
use Rattle.dn_names.proofs.OnePair.{has_double-few}
use Rattle.dn_names.proofs.keys.has_double.Goals as goal

pub returns-then-pairs-lt2 : goal.returns-then-pairs-lt2
returns-then-pairs-lt2 c = sym (has_double-few c.args.pairs.now c.if-pairs-lt2.true)
