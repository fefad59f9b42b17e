use Rattle.sync_wire.proofs.Notified.{sent_round_trip}
use Rattle.sync_wire.proofs.laws.sent_is_decoded.Goals as goal

pub returns : goal.returns
returns c = sent_round_trip
