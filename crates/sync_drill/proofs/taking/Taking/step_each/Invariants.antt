use Rattle.link_rings.specs.Ends.{taken}
use Rattle.sync_drill.specs.Handing.{HasTaken}
use Rattle.sync_drill.specs.Halves.{TakingGoes}
use Rattle.sync_drill.proofs.taking.Taking.step_each.Given as goal

abbrev pub invariant-steps : goal.invariant-steps
invariant-steps g l = record {
  goes : TakingGoes l.fn.self l.self;
  has : HasTaken l.self.consumer l.self.copy (taken l.self.end);
}
