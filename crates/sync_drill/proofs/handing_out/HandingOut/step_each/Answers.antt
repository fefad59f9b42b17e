use Rattle.sync_drill.proofs.HandingSteps.{handing-stays, handing-twice}
use Rattle.sync_drill.proofs.handing_out.HandingOut.step_each.Goals as goal

pub steps-init : goal.steps-init
steps-init g c = record {
  goes = handing-stays g.P.Port.home g.P.Port.state c.args.self.now c.requires;
  handing = c.requires;
}

pub steps-preserved : goal.steps-preserved
steps-preserved g c = record {
  goes = handing-twice g.P.Port.home g.P.Port.state c.args.self.now c.steps.self c.step_or_wait.new.self
      c.steps.invariant.goes c.step_or_wait.ensures.goes;
  handing = c.step_or_wait.ensures.more c.if-not-step_or_wait.false;
}

pub returns-then-not-step_or_wait : goal.returns-then-not-step_or_wait
returns-then-not-step_or_wait g c =
    handing-twice g.P.Port.home g.P.Port.state c.args.self.now c.steps.self c.step_or_wait.new.self
    c.steps.invariant.goes c.step_or_wait.ensures.goes

pub returns : goal.returns
returns g c = c.steps.invariant.goes
