-- The notes stay.
use Rattle.std.proofs.Common.{subst, sym}
use Rattle.session_log.specs.Log.{NumbersRise}
use Rattle.session_log.proofs.log.SessionLog.reserve.Goals as goal

pub invariant_of-self : goal.invariant_of-self
invariant_of-self c = λ holds. subst NumbersRise (sym c.reserve.ensures.items) (c.self.invariant holds)
