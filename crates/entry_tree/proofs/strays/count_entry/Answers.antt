-- One more attribute; all of them count once at most.
use Rattle.std.proofs.Common.{sym, subst, arith}
use Rattle.schema_rules.specs.Attributes.{IsAttributeList}
use Rattle.entry_tree.proofs.Counting.{all_astray, astray, part_astray, sum_more}
use Rattle.entry_tree.proofs.strays.count_entry.Goals as goal

pub count_attribute-requires : goal.count_attribute-requires
count_attribute-requires c = λ kind low.
    let sound = subst IsAttributeList (sym c.list-attribute-items.ensures.value) c.list-attribute-items.ensures.sound in
    let part = part_astray kind c.own_pairs-own.result.now c.list-attribute-items.result.now c.loop-attribute.attribute-index sound in
    omega (arith, part, c.requires kind low, c.loop-attribute.invariant kind low)

pub loop-attribute-preserved : goal.loop-attribute-preserved
loop-attribute-preserved c = λ kind low.
    let more = sum_more (astray kind c.own_pairs-own.result.now) c.list-attribute-items.result.now c.loop-attribute.attribute-index c.attribute-item.result
    c.loop-attribute-test.true c.attribute-item.is in
    omega (arith, more, c.count_attribute.ensures kind low, c.loop-attribute.invariant kind low)

pub returns : goal.returns
returns c = λ kind low.
    let all = all_astray kind c.args.entry.now c.own_pairs-own.result.now c.list-attribute-items.result.now c.loop-attribute.attribute-index
    c.own_pairs-own.ensures c.list-attribute-items.ensures.value c.list-attribute-items.ensures.sound c.loop-attribute-test.false in
    omega (arith, all, c.loop-attribute.invariant kind low)
