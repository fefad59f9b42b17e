-- The name of one change more is noted.
use Rattle.std.proofs.Common.{◌≡◌, ◌-◌, true, drop, sym, subst, arith}
use Rattle.sync_model.specs.Copy.{Stage}
use Rattle.entry_tree.specs.NameIndex.{HasPathKey}
use Rattle.sync_consumer.specs.Holding.{NotesAll}
use Rattle.sync_consumer.specs.Staging.{changes_in, entry_staged}
use Rattle.sync_consumer.proofs.Applying.{notes_from, pathed_from}
use Rattle.sync_consumer.proofs.Effecting.{none_from}
use Rattle.sync_consumer.proofs.Noting.{notes_nothing}
use Rattle.sync_consumer.proofs.names.note_each.Goals as goal

pub loop-left-init : goal.loop-left-init
loop-left-init c = record {
  within = omega arith;
  noted = subst (λ (s : Stage). NotesAll c.args.held.now c.args.names.now c.args.names.now s true) (sym (none_from c.args.changes.now)) (notes_nothing c.args.held.now c.args.names.now true);
  pathed = λ uuid. subst (λ (s : Stage). HasPathKey (entry_staged s uuid)) (sym (none_from c.args.changes.now)) tt;
}

pub loop-left-preserved : goal.loop-left-preserved
loop-left-preserved c =
    let k = c.loop-left.left - 1 in
    let change = c.index-changes-left.result in
    let within = c.loop-left.invariant.within in
    record {
      within = omega (arith, within);
      noted = notes_from c.args.changes.now k c.loop-left.left change (omega arith) (omega (arith, within)) c.index-changes-left.is c.requires
          c.args.held.now c.args.names.now c.loop-left.names c.note_for.new.names c.loop-left.has_unique_names c.in_ok-is_free.is_free c.loop-left.invariant.noted c.in_ok-is_free.ensures.noted;
      pathed = pathed_from c.args.changes.now k c.loop-left.left change (omega arith) (omega (arith, within)) c.index-changes-left.is
          c.loop-left.invariant.pathed c.in_ok-is_free.ensures.pathed;
    }

pub returns-clause-noted : goal.returns-clause-noted
returns-clause-noted c =
    let none : c.loop-left.left ≡ 0 = omega arith in
    subst (λ n. NotesAll c.args.held.now c.args.names.now c.loop-left.names (changes_in (drop n c.args.changes.now)) c.loop-left.has_unique_names) none c.loop-left.invariant.noted
