use Rattle.std.proofs.Common.{◌+◌, ◌*◌}
use Rattle.shared_map.proofs.taking_out.+taking.Given as goal

abbrev pub decreases-take_from : goal.decreases-take_from
decreases-take_from g l = 3 * l.levels

abbrev pub decreases-take_below : goal.decreases-take_below
decreases-take_below g l = 3 * l.levels + 1

abbrev pub decreases-take_from_node : goal.decreases-take_from_node
decreases-take_from_node g l = 3 * l.levels + 2
