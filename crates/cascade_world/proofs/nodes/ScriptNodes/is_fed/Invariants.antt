use Rattle.std.proofs.Common.{◌≡◌}
use Rattle.cascade_nodes.specs.Nodes.{is_fed_within}
use Rattle.cascade_world.specs.World.{is_fed}
use Rattle.cascade_world.proofs.nodes.ScriptNodes.is_fed.Given as goal

-- what is left to climb answers for all
abbrev pub invariant-loop-left : goal.invariant-loop-left
invariant-loop-left l = is_fed_within l.left l.self.consumer_nodes l.other l.at ≡ is_fed l.self l.other l.name

abbrev pub decreases-loop-left : goal.decreases-loop-left
decreases-loop-left l = l.left
