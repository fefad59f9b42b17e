-- The attribute counts at its own type, unless it is the whole RDN.
use Rattle.std.proofs.Common.{◌≡◌, ◌+◌, ◌∙◌, sym, arith}
use Rattle.std.specs.Prelude.{slice_index}
use Rattle.entry_tree.proofs.Counting.{count_here, not_astray, other_astray}
use Rattle.entry_tree.proofs.strays.count_attribute.Goals as goal

pub returns-then-is_whole_rdn : goal.returns-then-is_whole_rdn
returns-then-is_whole_rdn c = λ kind low.
    omega (arith, not_astray kind c.args.own.now c.args.attribute.now (sym c.is_whole_rdn.ensures ∙ c.if-is_whole_rdn.true))

pub returns-then-place-ge-TYPES : goal.returns-then-place-ge-TYPES
returns-then-place-ge-TYPES c = λ kind low.
    omega (arith, other_astray kind c.args.own.now c.args.attribute.now (λ same. omega (arith, same, c.number-place.ensures)))

pub overflow_add-count : goal.overflow_add-count
overflow_add-count c = omega (arith, c.requires c.number-place.result (omega arith))

pub returns : goal.returns
returns c = λ kind low.
    let old = c.args.strays.now in
    let new = c.set_count.new.strays in
    let here : slice_index new c.number-place.result ≡ slice_index old c.number-place.result + 1 = omega (arith, c.set_count.ensures.own) in
    count_here new old c.number-place.result kind c.args.own.now c.args.attribute.now c.number-place.ensures (sym c.is_whole_rdn.ensures ∙ c.if-is_whole_rdn.false) here c.set_count.ensures.others
