use Rattle.sync_drill.proofs.TakingSteps.{taking-stays, taking-twice}
use Rattle.sync_drill.proofs.taking.Taking.step_each.Goals as goal

pub steps-init : goal.steps-init
steps-init g c = record { goes = taking-stays c.args.self.now c.requires; has = c.requires }

pub steps-preserved : goal.steps-preserved
steps-preserved g c = record {
  goes = taking-twice c.args.self.now c.steps.self c.step_or_wait.new.self c.steps.invariant.goes c.step_or_wait.ensures.goes;
  has = c.step_or_wait.ensures.more c.if-not-step_or_wait.false;
}

pub returns-then-not-step_or_wait : goal.returns-then-not-step_or_wait
returns-then-not-step_or_wait g c =
    taking-twice c.args.self.now c.steps.self c.step_or_wait.new.self c.steps.invariant.goes c.step_or_wait.ensures.goes

pub returns : goal.returns
returns g c = c.steps.invariant.goes
