-- The same notes are in the same order.
use Rattle.std.proofs.Common.{rules, ◌≡◌, subst}
use Rattle.session_log.specs.Log.{NumbersRise}
use Rattle.session_log.proofs.log.SessionLog.copy.Goals as goal

pub invariant_of-result : goal.invariant_of-result
invariant_of-result c = λ holds.
    let same : c.self.inside.notes.items ≡ c.from.result.items = search rules in
    subst NumbersRise same (c.self.invariant holds)
