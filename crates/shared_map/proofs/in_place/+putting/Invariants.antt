use Rattle.std.proofs.Common.{◌+◌, ◌*◌}
use Rattle.shared_map.proofs.in_place.+putting.Given as goal

abbrev pub decreases-put_into : goal.decreases-put_into
decreases-put_into g l = 3 * l.levels

abbrev pub decreases-put_below : goal.decreases-put_below
decreases-put_below g l = 3 * l.levels + 1

abbrev pub decreases-put_into_node : goal.decreases-put_into_node
decreases-put_into_node g l = 3 * l.levels + 2
