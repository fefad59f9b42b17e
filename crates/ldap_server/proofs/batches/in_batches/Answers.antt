use Rattle.std.proofs.Common.{◌≡◌, ◌≤◌, ap, append-nil, arith, drop, length, length-take, sym, take, ◌∙◌}
use Rattle.ldap_server.proofs.InBatches.{all_batched, entries_in, one_batched}
use Rattle.ldap_server.proofs.batches.in_batches.Goals as goal

pub loop-left-init : goal.loop-left-init
loop-left-init c = record {
  within = c.requires;
  all = rw c.new-batches.ensures.items (sym (append-nil (drop c.args.place c.args.entries.items)));
}

pub loop-left-preserved : goal.loop-left-preserved
loop-left-preserved c =
    let inv = c.loop-left.invariant in
    let left = c.loop-left.left.items in
    let start = c.max-start.result in
    let before : c.args.place ≤ start = omega arith in
    let inside : start ≤ length left = omega (arith, c.loop-left.left.ok.0) in
    let shorter : c.shrink_to_fit.new.self.items ≡ take start left = c.shrink_to_fit.ensures.items ∙ c.in_ok-batch.ensures.items in
    record {
      within = omega (arith, before, inside, ap length shorter, length-take start left);
      all = rw (shorter, c.in_ok-push.ensures.items)
          (one_batched entries_in c.args.place start (drop c.args.place c.args.entries.items) left c.loop-left.batches.items c.in_ok-batch.batch
          before inside inv.all c.in_ok-batch.ensures.tail);
    }

pub returns : goal.returns
returns c =
    all_batched entries_in c.args.place (drop c.args.place c.args.entries.items) c.loop-left.left.items c.loop-left.batches.items c.reverse.new.self.items
    (omega (arith, c.loop-left.left.ok.0)) c.loop-left.invariant.all c.reverse.ensures.items
