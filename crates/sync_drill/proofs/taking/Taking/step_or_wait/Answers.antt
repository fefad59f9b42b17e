use Rattle.std.proofs.lemmas.Bool.{not-true}
use Rattle.sync_drill.proofs.taking.Taking.step_or_wait.Goals as goal

pub returns-then-step-clause-more : goal.returns-then-step-clause-more
returns-then-step-clause-more g c = λ more. c.step.ensures.goes.copy (not-true c.step.new.self.failed more)

pub returns-then-more-clause-more : goal.returns-then-more-clause-more
returns-then-more-clause-more g c = λ more. c.step.ensures.none c.if-step.false

pub returns-else-more-clause-more : goal.returns-else-more-clause-more
returns-else-more-clause-more g c = λ more. c.step.ensures.none c.if-step.false
