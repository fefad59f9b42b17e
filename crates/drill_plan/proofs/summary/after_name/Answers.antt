-- The name ends within the text.
use Rattle.std.proofs.Common.{◌+◌, ◌-◌, length, drop, take_all, length-drop, sym, ◌∙◌, arith}
use Rattle.drill_plan.proofs.AfterNames.{end_within, after_end, after_none}
use Rattle.drill_plan.proofs.summary.after_name.Goals as goal

pub overflow_add-result : goal.overflow_add-result
overflow_add-result c =
    let low = end_within c.args.named.now c.in-Some.end (sym c.name_end.ensures ∙ c.in-Some.is) in omega (arith, low)

pub slice_bounds-result-start : goal.slice_bounds-result-start
slice_bounds-result-start c =
    let low = end_within c.args.named.now c.in-Some.end (sym c.name_end.ensures ∙ c.in-Some.is) in omega (arith, low)

pub slice_bounds-result-end : goal.slice_bounds-result-end
slice_bounds-result-end c =
    let low = end_within c.args.named.now c.in-Some.end (sym c.name_end.ensures ∙ c.in-Some.is) in omega (arith, low)

pub slice_bounds-result-count : goal.slice_bounds-result-count
slice_bounds-result-count c =
    let low = end_within c.args.named.now c.in-Some.end (sym c.name_end.ensures ∙ c.in-Some.is) in omega (arith, low)

pub returns-in-Some : goal.returns-in-Some
returns-in-Some c =
    let named = c.args.named.now in
    let next = c.in-Some.end + 1 in
    let count = length-drop next named in
    take_all (length named - next) (drop next named) (omega (arith, count))
    ∙ after_end named c.in-Some.end (sym c.name_end.ensures ∙ c.in-Some.is)

pub returns-in-None : goal.returns-in-None
returns-in-None c = after_none c.args.named.now (sym c.name_end.ensures ∙ c.in-None.is)
