-- The names of one identity more are taken away.
use Rattle.std.proofs.Common.{◌-◌, sym, subst, arith}
use Rattle.sync_model.specs.Copy.{Stage}
use Rattle.sync_consumer.specs.Holding.{stays, Notes}
use Rattle.sync_consumer.proofs.Applying.{forgets_from}
use Rattle.sync_consumer.proofs.Effecting.{none_from}
use Rattle.sync_consumer.proofs.names.forget_each.Goals as goal

pub loop-left-init : goal.loop-left-init
loop-left-init c = record {
  within = omega arith;
  notes = subst (λ (s : Stage). Notes c.args.names.now (stays c.args.held.now s)) (sym (none_from c.args.changes.now)) c.requires.index;
}

pub loop-left-preserved : goal.loop-left-preserved
loop-left-preserved c =
    let k = c.loop-left.left - 1 in
    let change = c.index-changes-left.result in
    let within = c.loop-left.invariant.within in
    record {
      within = omega (arith, within);
      notes = forgets_from c.args.changes.now k c.loop-left.left change (omega arith) (omega (arith, within)) c.index-changes-left.is c.requires.ordered
          c.args.held.now c.loop-left.names c.forget_for.new.names c.in_ok-forget_for.ensures c.loop-left.invariant.notes;
    }
