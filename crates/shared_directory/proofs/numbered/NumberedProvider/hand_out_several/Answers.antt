-- A turn that hands out several messages.
use Rattle.std.proofs.Common.{◌+◌, ap, arith, length, None, ◌∙◌}
use Rattle.sync_provider.specs.HandingOut.{reply_of}
use Rattle.sync_provider.specs.Ports.{MessagesReply, SeveralReplies}
use Rattle.sync_provider.specs.declared.handed_messages.HandOutStop.TheVariants as stops
use Rattle.sync_provider.proofs.Several.{stop_within}
use Rattle.shared_directory.proofs.Together.{answered_as, message_more, messages_stopped, no_messages}
use Rattle.shared_directory.proofs.numbered.NumberedProvider.hand_out_several.Goals as goal

pub loop-init : goal.loop-init
loop-init c = record {
  len = omega (arith, c.args.room.ok.0, ap length c.requires.empty);
  fits = c.requires.fits;
  given = no_messages c.args.number c.args.search c.args.self.now c.args.room.items c.requires.empty;
}

pub push_reserved-requires : goal.push_reserved-requires
push_reserved-requires c = omega (arith, c.loop.invariant.len, c.loop.invariant.fits, c.loop-test.true)

pub loop-preserved : goal.loop-preserved
loop-preserved c =
    let inv = c.loop.invariant in
    record {
      len = c.push_reserved.ensures.len ∙ ap (λ n. n + 1) inv.len;
      fits = omega (arith, c.push_reserved.ensures.capacity, inv.fits);
      given = message_more c.args.number c.args.search c.args.self.now c.loop.self c.hand_out.new.self c.loop.messages.items inv.given c.hand_out.result c.hand_out.ensures
          c.in-Ok.message c.push_reserved.new.self.items c.in-Ok.ensures.message c.push_reserved.ensures.items;
    }

pub returns-in-Err : goal.returns-in-Err
returns-in-Err c =
    let inv = c.loop.invariant in
    let messages = c.loop.messages in
    let stop = c.in-Err.stop in
    answered_as c.args.number c.args.self.now c.hand_out.new.self (λ p q. MessagesReply p c.args.search messages.items (reply_of stop) q)
    (λ p q. SeveralReplies p c.args.search c.args.most (record { messages = messages; stop = stop }) q)
    (λ p q replies. record {
      within = stop_within c.args.most (length messages.items) stop c.hand_out.result c.in-Err.ensures.stop
          (omega (arith, c.loop-test.true, inv.len, messages.ok.0));
      replies = replies;
    })
    (messages_stopped c.args.number c.args.search c.args.self.now c.loop.self c.hand_out.new.self messages.items inv.given c.hand_out.result c.hand_out.ensures
    stop c.in-Err.ensures.stop)

pub returns : goal.returns
returns c =
    let inv = c.loop.invariant in
    let messages = c.loop.messages in
    answered_as c.args.number c.args.self.now c.loop.self (λ p q. MessagesReply p c.args.search messages.items None q)
    (λ p q. SeveralReplies p c.args.search c.args.most (record { messages = messages; stop = stops.Enough }) q)
    (λ p q replies. record {
      within = omega (arith, c.loop-test.false, c.loop.auto.counter-end, inv.len, messages.ok.0);
      replies = replies;
    })
    inv.given
