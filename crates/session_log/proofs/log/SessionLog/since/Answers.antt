-- Both slices are in order where the notes are.
use Rattle.session_log.proofs.InOrder.{in_order-prefix, in_order-back}
use Rattle.session_log.proofs.log.SessionLog.since.Goals as goal

pub insert_later-requires : goal.insert_later-requires
insert_later-requires c = λ holds.
    in_order-prefix c.as_slices-slices.result.0.now c.as_slices-slices.result.1.now c.self.inside.notes.items
    c.as_slices-slices.ensures.items (c.self.invariant holds)

pub insert_later-requires-2 : goal.insert_later-requires-2
insert_later-requires-2 c = λ holds.
    in_order-back c.as_slices-slices.result.0.now c.as_slices-slices.result.1.now c.self.inside.notes.items
    c.as_slices-slices.ensures.items (c.self.invariant holds)
