-- A directory that is closed: its provider is the one that the ports know.
use Rattle.std.proofs.Common.{◌≡◌, sym}
use Rattle.turn_cell.proofs.Each.{every-both, every-weaker}
use Rattle.turn_cell.specs.Passes.{Continues, cell_id, cell_of, view_of}
use Rattle.sync_provider.specs.Ports.{IsLater}
use Rattle.shared_directory.specs.Desks.{port_in, entries_of, left_by}
use Rattle.shared_directory.specs.Passes.{port_of, IsPassOf}
use Rattle.shared_directory.proofs.Passing.{every-mapped, closed_port}
use Rattle.shared_directory.proofs.directory.SharedDirectory.close.Goals as goal

pub close-requires : goal.close-requires
close-requires c =
    let cell = cell_id c.args.self.cell in
    every-weaker (λ pass. IsPassOf cell pass) (λ pass. cell_of pass ≡ cell) c.args.passes.items (λ pass is. is.0) c.requires

pub returns-in-Ok-clause-given : goal.returns-in-Ok-clause-given
returns-in-Ok-clause-given c =
    let held = c.in-Ok.held in
    let passes = c.args.passes.items in
    record {
      last = held.now;
      provider = sym c.into_provider.ensures.provider;
      ports = every-mapped (λ view. IsLater (port_of view) (port_in view.number view.seats held.now)) view_of passes
          (every-both (λ pass. Continues (entries_of held) (left_by held (view_of pass).number) (view_of pass))
          (λ pass. IsPassOf (cell_id c.args.self.cell) pass)
          (λ pass. IsLater (port_of (view_of pass)) (port_in (view_of pass).number (view_of pass).seats held.now)) passes
          (λ pass continues is. closed_port (view_of pass) held continues is.1 c.into_provider.ensures.come) c.in-Ok.ensures.passes c.requires);
      numbers = c.in-Ok.ensures.numbers;
    }
