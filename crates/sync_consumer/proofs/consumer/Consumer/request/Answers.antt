use Rattle.std.proofs.Common.{Some, None, []}
use Rattle.sync_wire.specs.Requesting.{persists}
use Rattle.sync_consumer.specs.Committing.{stage_in}
use Rattle.std.specs.Prelude.{option_map}
use Rattle.sync_consumer.specs.SyncSession.{session_of}
use Rattle.sync_consumer.proofs.Upholding.{begun_kept}
use Rattle.sync_consumer.proofs.consumer.Consumer.request.Goals as goal

pub invariant_of-self : goal.invariant_of-self
invariant_of-self c =
    begun_kept c.self.inside.held.entries (stage_in (option_map session_of c.self.inside.session)) c.args.id (persists c.args.mode) (record { held = []; cookie = None; session = None })
    (Some (session_of c.new.result)) c.self.invariant c.new.ensures
