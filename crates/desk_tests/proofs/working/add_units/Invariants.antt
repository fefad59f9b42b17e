use Rattle.std.proofs.Common.{◌≡◌}
use Rattle.desk_tests.proofs.working.add_units.Given as goal

-- it is a port of the same directory
abbrev pub invariant-loop-unit : goal.invariant-loop-unit
invariant-loop-unit g l = g.P.Port.home l.port ≡ g.P.Port.home l.initial.port
