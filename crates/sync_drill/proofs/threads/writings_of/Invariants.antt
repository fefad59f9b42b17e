use Rattle.std.proofs.Common.{◌≡◌, ◌++◌, length}
use Rattle.sync_drill.specs.Writers.{writings_from}
use Rattle.sync_drill.proofs.threads.writings_of.Given as goal

-- the writers at the ports so far
abbrev pub invariant-loop-port : goal.invariant-loop-port
invariant-loop-port g l = record {
  place : l.place ≡ length l.yielded;
  writings : l.writings.items ≡ writings_from l.plan 0 l.yielded;
  all : l.fn.ports.items ≡ l.yielded ++ l.port-iterator.rest.items;
}
