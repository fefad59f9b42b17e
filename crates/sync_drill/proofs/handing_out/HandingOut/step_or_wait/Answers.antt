use Rattle.std.proofs.lemmas.Bool.{false≢true}
use Rattle.sync_drill.proofs.HandingSteps.{full_fine, nothing_fine, offered_fine}
use Rattle.sync_drill.proofs.handing_out.HandingOut.step_or_wait.Goals as goal

pub returns-in-Offered-clause-more : goal.returns-in-Offered-clause-more
returns-in-Offered-clause-more g c = λ more. c.step.ensures.handing (offered_fine c.step.result c.in-Offered.is)

pub returns-in-Full-clause-more : goal.returns-in-Full-clause-more
returns-in-Full-clause-more g c = λ more. c.step.ensures.handing (full_fine c.step.result c.in-Full.is)

pub returns-then-more-clause-more : goal.returns-then-more-clause-more
returns-then-more-clause-more g c = λ more. c.step.ensures.handing (nothing_fine c.step.result c.in-Nothing.is)

pub returns-else-more-clause-more : goal.returns-else-more-clause-more
returns-else-more-clause-more g c = λ more. c.step.ensures.handing (nothing_fine c.step.result c.in-Nothing.is)

pub returns-in-Failed-clause-more : goal.returns-in-Failed-clause-more
returns-in-Failed-clause-more g c = λ more. absurd (false≢true more)
