use Rattle.std.proofs.Common.{◌+◌, None, ap, arith, length, refl, subst, sym, ◌∙◌}
use Rattle.sync_provider.specs.Journal.{port_state}
use Rattle.sync_provider.specs.Ports.{HandOutReplies, MessagesReply}
use Rattle.sync_provider.proofs.Several.{messages_more, messages_stop, stop_within}
use Rattle.sync_provider.proofs.provider.Provider.hand_out_several.Goals as goal

pub loop-init : goal.loop-init
loop-init c =
    let p = port_state c.args.self.now in
    record {
      len = omega (arith, c.args.room.ok.0, ap length c.requires.empty);
      fits = c.requires.fits;
      replies = subst (λ ms. MessagesReply p c.args.number ms None p) (sym c.requires.empty) refl;
    }

pub push_reserved-requires : goal.push_reserved-requires
push_reserved-requires c = omega (arith, c.loop.invariant.len, c.loop.invariant.fits, c.loop-test.true)

pub loop-preserved : goal.loop-preserved
loop-preserved c =
    let inv = c.loop.invariant in
    let first = port_state c.args.self.now in
    let before = port_state c.loop.self in
    let after = port_state c.hand_out.new.self in
    let replied = subst (λ reply. HandOutReplies before c.args.number reply after) c.in-Ok.ensures.message c.hand_out.ensures.journal in
    record {
      len = c.push_reserved.ensures.len ∙ ap (λ n. n + 1) inv.len;
      fits = omega (arith, c.push_reserved.ensures.capacity, inv.fits);
      replies = subst (λ ms. MessagesReply first c.args.number ms None after) (sym c.push_reserved.ensures.items)
          (messages_more c.args.number c.loop.messages.items c.in-Ok.message first before after inv.replies replied);
    }

pub returns-in-Err : goal.returns-in-Err
returns-in-Err c =
    let inv = c.loop.invariant in
    let first = port_state c.args.self.now in
    let stop = c.in-Err.stop in
    let after = port_state c.hand_out.new.self in
    record {
      within = stop_within c.args.most (length c.loop.messages.items) stop c.hand_out.result c.in-Err.ensures.stop
          (omega (arith, c.loop-test.true, inv.len, c.loop.messages.ok.0));
      replies = subst (λ reply. MessagesReply first c.args.number c.loop.messages.items reply after) (sym c.in-Err.ensures.stop)
          (messages_stop c.args.number c.loop.messages.items c.hand_out.result first (port_state c.loop.self) after inv.replies c.hand_out.ensures.journal);
    }

pub returns : goal.returns
returns c = record {
  within = omega (arith, c.loop-test.false, c.loop.auto.counter-end, c.loop.invariant.len, c.loop.messages.ok.0);
  replies = c.loop.invariant.replies;
}
