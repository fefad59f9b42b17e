-- The text of one entry more is taken, and those of all.
use Rattle.std.proofs.Common.{Bor, List, ◌++◌, map, take_all, append-nil, sym, subst}
use Rattle.std.specs.List.{flat_map}
use Rattle.entry_tree.specs.declared.entry.Entry.{Entry}
use Rattle.sha2.specs.Hashers.{Holds256}
use Rattle.cascade_report.specs.ReportLines.{entry_text, text_of}
use Rattle.cascade_report.proofs.Digests.{taken_more}
use Rattle.cascade_report.proofs.digested.take_each.Goals as goal

pub loop-entry-init : goal.loop-entry-init
loop-entry-init c = λ m has. subst (Holds256 c.args.hasher.now) (sym (append-nil m)) has

pub loop-entry-preserved : goal.loop-entry-preserved
loop-entry-preserved c = λ m has.
    taken_more c.loop-entry.hasher c.update.new.self m c.in_ok-text.text.items c.args.entries.now c.loop-entry.entry-index c.entry-item.result
    c.loop-entry-test.true c.entry-item.is c.in_ok-text.ensures (c.loop-entry.invariant m has) c.update.ensures

pub returns : goal.returns
unfolding text_of
returns c = λ m has.
    subst (λ (es : List (Bor Entry)). Holds256 c.loop-entry.hasher (m ++ flat_map entry_text (map (λ (e : Bor Entry). e.now) es)))
    (take_all c.loop-entry.entry-index c.args.entries.now c.loop-entry-test.false)
    (c.loop-entry.invariant m has)
