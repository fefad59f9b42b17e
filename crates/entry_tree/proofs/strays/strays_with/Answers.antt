-- One more number, which is no less than what is gone of it, and no greater than may be.
use Rattle.std.proofs.Common.{◌≡◌, ◌+◌, ◌∙◌, ap, sym, arith}
use Rattle.std.specs.Prelude.{slice_index}
use Rattle.entry_tree.proofs.Counting.{same_strays, set_more}
use Rattle.entry_tree.proofs.strays.strays_with.Goals as goal

pub returns-then-all_keep_types : goal.returns-then-all_keep_types
returns-then-all_keep_types c = λ kind low.
    ap (λ n. slice_index c.args.strays.now kind + n) (same_strays kind c.args.changes.now (sym c.all_keep_types.ensures ∙ c.if-all_keep_types.true))

pub overflow_sub-kept : goal.overflow_sub-kept
overflow_sub-kept c =
    let place = c.loop-place.place in
    omega (arith, c.requires.before place (omega arith), c.strays_before-gone.ensures place (omega arith))

pub overflow_add-count : goal.overflow_add-count
overflow_add-count c =
    let place = c.loop-place.place in
    omega (arith, c.requires.held place (omega arith), c.requires.after place (omega arith), c.strays_after-come.ensures place (omega arith))

pub loop-place-preserved : goal.loop-place-preserved
loop-place-preserved c =
    let place = c.loop-place.place in
    let here : slice_index c.set_count.new.strays place + slice_index c.strays_before-gone.result place ≡ slice_index c.args.strays.now place + slice_index c.strays_after-come.result place =
    omega (arith, c.set_count.ensures.own, c.requires.before place (omega arith), c.strays_before-gone.ensures place (omega arith)) in
    set_more c.loop-place.counts c.set_count.new.strays c.strays_before-gone.result c.strays_after-come.result c.args.strays.now place
    c.loop-place.invariant here c.set_count.ensures.others

pub returns : goal.returns
returns c = λ kind low.
    omega (arith, c.loop-place.invariant kind (omega arith), c.strays_before-gone.ensures kind low, c.strays_after-come.ensures kind low)
