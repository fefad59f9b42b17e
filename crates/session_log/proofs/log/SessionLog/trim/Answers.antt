-- The last notes are kept.
use Rattle.std.proofs.Common.{subst, sym}
use Rattle.session_log.specs.Log.{NumbersRise}
use Rattle.session_log.proofs.InOrder.{in_order-last}
use Rattle.session_log.proofs.log.SessionLog.trim.Goals as goal

pub invariant_of-self : goal.invariant_of-self
invariant_of-self c = λ holds.
    subst NumbersRise (sym c.keep_last-self-inside.ensures.kept)
    (in_order-last c.args.limit c.self.inside.notes.items (c.self.invariant holds))
