use Rattle.std.proofs.Common.{◌≡◌, ◌++◌}
use Rattle.std.specs.List.{AllZip}
use Rattle.desk_tests.proofs.sync_drill_tests.meeting_ports.Given as goal

-- the ports round those so far
abbrev pub invariant-loop-port : goal.invariant-loop-port
invariant-loop-port g l = record {
  rounds : AllZip (λ port round. (g.P.Port.home round.port ≡ g.P.Port.home port) × (g.P.Port.state round.port ≡ g.P.Port.state port)) l.yielded l.rounds.items;
  all : l.fn.ports.items ≡ l.yielded ++ l.port-iterator.rest.items;
}
