use Rattle.std.proofs.Common.{◌≡◌}
use Rattle.desk_tests.proofs.gathering.take_pending.Given as goal

-- it is a port of the same directory
abbrev pub invariant-loop : goal.invariant-loop
invariant-loop g l = g.P.Port.home l.port ≡ g.P.Port.home l.initial.port
