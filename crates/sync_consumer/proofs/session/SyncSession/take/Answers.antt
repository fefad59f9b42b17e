use Rattle.std.proofs.Common.{◌≡◌, arith}
use Rattle.sync_consumer.proofs.Heeding.{decoded_step}
use Rattle.sync_consumer.proofs.session.SyncSession.take.Goals as goal

pub returns : goal.returns
returns c =
    let own : c.args.message.now.id ≡ c.args.self.now.id = omega arith in
    decoded_step c.take_decoded.result c.in_ok-decoded.decoded c.args.held.now c.args.self.now c.take_decoded.new.held c.take_decoded.new.self c.args.message.now
    own c.in_ok-decoded.ensures c.take_decoded.ensures
