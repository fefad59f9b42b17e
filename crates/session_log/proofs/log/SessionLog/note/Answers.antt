-- Of the notes with the new one, the last are kept.
use Rattle.std.proofs.Common.{subst, sym}
use Rattle.session_log.specs.Log.{NumbersRise}
use Rattle.session_log.proofs.InOrder.{in_order-last}
use Rattle.session_log.proofs.log.SessionLog.note.Goals as goal

pub invariant_of-self : goal.invariant_of-self
invariant_of-self c = λ holds.
    let pushed : NumbersRise c.push_back_reserved.new.self.items =
    subst NumbersRise (sym c.push_back_reserved.ensures.items) (c.in_order_with-self-inside.ensures holds c.args.uuid) in
    subst NumbersRise (sym c.keep_last-self-inside.ensures.kept)
    (in_order-last c.self.inside.limit c.push_back_reserved.new.self.items pushed)
