use Rattle.std.proofs.Common.{◌≡◌}
use Rattle.cascade_nodes.specs.Nodes.{top_within}
use Rattle.cascade_world.specs.World.{top_of}
use Rattle.cascade_world.proofs.nodes.ScriptNodes.top_of.Given as goal

-- the top above what is left to climb is that of the whole
abbrev pub invariant-loop-left : goal.invariant-loop-left
invariant-loop-left l = top_within l.left l.self.consumer_nodes l.at ≡ top_of l.self l.name

abbrev pub decreases-loop-left : goal.decreases-loop-left
decreases-loop-left l = l.left
