-- One more change in effect.
use Rattle.std.proofs.Common.{◌≡◌, ◌<◌, ◌+◌, ◌-◌, ◌^◌, ◌∙◌, suc, List, drop, length, sym, ap, subst, arith}
use Rattle.entry_tree.specs.declared.entry.Entry.{Entry}
use Rattle.entry_tree.specs.State.{found_weight, total_weight}
use Rattle.sync_model.specs.Copy.{effected}
use Rattle.sync_consumer.specs.Staging.{change_of, changes_in}
use Rattle.sync_consumer.proofs.Applying.{effected_from}
use Rattle.sync_consumer.proofs.Effecting.{none_from, light_from}
use Rattle.sync_consumer.proofs.weighed.entries_after.Goals as goal

pub loop-left-init : goal.loop-left-init
loop-left-init c = record {
  within = omega arith;
  effected = c.in_ok-after.ensures ∙ sym (ap (effected c.args.held.now) (none_from c.args.changes.now));
}

pub apply-requires : goal.apply-requires
apply-requires c =
    let k = c.loop-left.left - 1 in
    let change = c.index-changes-left.result in
    let one : suc k ≡ c.loop-left.left = omega arith in
    let low : k < length c.args.changes.now = omega (arith, c.loop-left.invariant.within) in
    subst (λ (es : List Entry). total_weight es + found_weight (change_of change.now).1 < 2 ^ 64)
    (ap (λ n. effected c.args.held.now (changes_in (drop n c.args.changes.now))) one ∙ sym c.loop-left.invariant.effected)
    (light_from c.args.held.now c.args.changes.now k change c.requires.ascends c.requires.held c.requires.puts low c.index-changes-left.is)

pub loop-left-preserved : goal.loop-left-preserved
loop-left-preserved c =
    let k = c.loop-left.left - 1 in
    let change = c.index-changes-left.result in
    let within = c.loop-left.invariant.within in
    record {
      within = omega (arith, within);
      effected = effected_from c.args.changes.now k c.loop-left.left change (omega arith) (omega (arith, within)) c.index-changes-left.is
          c.args.held.now c.loop-left.after c.apply.new.self c.loop-left.invariant.effected c.in_ok-apply.ensures.ok;
    }
