use Rattle.std.proofs.Common.{◌≡◌, ◌++◌}
use Rattle.std.specs.List.{AllZip}
use Rattle.sync_drill.specs.Writers.{HasEnded}
use Rattle.sync_drill.proofs.threads.ports_of.Given as goal

-- the ports of the writers so far
abbrev pub invariant-loop-writing : goal.invariant-loop-writing
invariant-loop-writing g l = record {
  ended : AllZip HasEnded l.yielded l.ports.items;
  all : l.fn.writings.items ≡ l.yielded ++ l.writing-iterator.rest.items;
}
