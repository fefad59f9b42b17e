use Rattle.link_rings.specs.Ends.{offered}
use Rattle.sync_drill.specs.Handing.{IsHanding}
use Rattle.sync_drill.specs.Halves.{HandingGoes}
use Rattle.sync_drill.proofs.handing_out.HandingOut.step_each.Given as goal

abbrev pub invariant-steps : goal.invariant-steps
invariant-steps g l = record {
  goes : HandingGoes g.P.Port.home g.P.Port.state l.fn.self l.self;
  handing : IsHanding l.self.consumer l.self.search (g.P.Port.state l.self.port) (offered l.self.producer);
}
