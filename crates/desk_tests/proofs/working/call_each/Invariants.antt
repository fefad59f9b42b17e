use Rattle.std.proofs.Common.{◌≡◌}
use Rattle.desk_tests.proofs.working.call_each.Given as goal

-- it is a port of the same directory
abbrev pub invariant-loop-round : goal.invariant-loop-round
invariant-loop-round g l = g.P.Port.home l.port ≡ g.P.Port.home l.initial.port
