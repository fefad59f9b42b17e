use Rattle.std.proofs.Common.{◌≡◌, ◌++◌}
use Rattle.std.specs.List.{AllZip}
use Rattle.shared_directory.specs.Passes.{port_of, view_or}
use Rattle.drill_directory.specs.Ports.{IsPortOf}
use Rattle.drill_directory.proofs.directory.desks_of.Given as goal

-- the desks of the passes so far
abbrev pub invariant-loop-pass : goal.invariant-loop-pass
invariant-loop-pass g l = record {
  desks : AllZip (IsPortOf (λ d. d.directory.now) (λ d. port_of (view_or d.pass)) l.directory) l.yielded l.desks.items;
  all : l.fn.passes.items ≡ l.yielded ++ l.pass-iterator.rest.items;
}
