use Rattle.std.proofs.Common.{refl, sym, ap}
use Rattle.sync_model.specs.Copy.{Copy, Answer}
use Rattle.sync_model.specs.Copy.Fault.{PresentUnknown}
use Rattle.sync_consumer.specs.SyncSession.{session_of, copy_with}
use Rattle.sync_consumer.proofs.Outcomes.{named_unknown}
use Rattle.sync_consumer.proofs.session.SyncSession.name.Goals as goal

pub returns-in-Some : goal.returns-in-Some
returns-in-Some c =
    let before : Copy = copy_with c.args.held.now c.args.self.now in
    let answer_taken = named_unknown before before (session_of c.args.self.now) c.args.uuids.now c.in-Some.uuid c.if-self.false (sym c.in-Some.ensures) in
    (refl, (PresentUnknown c.in-Some.uuid, ap (λ (o : Copy × Answer). o.1) answer_taken, refl))
