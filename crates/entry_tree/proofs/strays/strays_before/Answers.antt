-- One more change.
use Rattle.std.proofs.Common.{◌∙◌, ap, arith, take_all}
use Rattle.std.proofs.lemmas.List.Sums.{sum_by-take-le}
use Rattle.entry_writes.specs.declared.touched.EntryChange.{EntryChange}
use Rattle.entry_tree.specs.Pinned.{found_stray, strays_before}
use Rattle.entry_tree.proofs.Counting.{sum_more}
use Rattle.entry_tree.proofs.strays.strays_before.Goals as goal

pub loop-change-init : goal.loop-change-init
loop-change-init c = λ kind low. c.no_strays-strays.ensures kind

pub count_found-requires : goal.count_found-requires
count_found-requires c = λ kind low.
    let part = sum_by-take-le (λ (x : EntryChange). found_stray kind x.before) c.args.changes.now c.loop-change.change-index in
    omega (arith, part, c.requires kind low, c.loop-change.invariant kind low)

pub loop-change-preserved : goal.loop-change-preserved
loop-change-preserved c = λ kind low.
    let more = sum_more (λ (x : EntryChange). found_stray kind x.before) c.args.changes.now c.loop-change.change-index c.change-item.result c.loop-change-test.true c.change-item.is in
    omega (arith, more, c.count_found.ensures kind low, c.loop-change.invariant kind low)

pub returns : goal.returns
returns c = λ kind low. c.loop-change.invariant kind low ∙ ap (strays_before kind) (take_all c.loop-change.change-index c.args.changes.now c.loop-change-test.false)
