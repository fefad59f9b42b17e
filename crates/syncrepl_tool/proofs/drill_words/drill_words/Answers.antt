use Rattle.std.proofs.Common.{◌≡◌, Option, Some, None, codes, length, rules, string_bytes, arith}
use Rattle.std.specs.Prelude.{IfNone}
use Rattle.std.proofs.lemmas.Option.{IfSome_then}
use Rattle.syncrepl_tool.proofs.DrillForms.{drill_is, not_drill_plan}
use Rattle.syncrepl_tool.proofs.drill_words.drill_words.Goals as goal

if_none_then : {X : Type 0} (found : Option X) {P Q : Type 0} → IfNone found P → (P → Q) → IfNone found Q
if_none_then None p step = step p
if_none_then (Some x) p step = tt

pub returns-else-ne-clause-some : goal.returns-else-ne-clause-some
returns-else-ne-clause-some c =
    let five : length c.args.words.now ≡ 5 = omega arith in
    let named : string_bytes c.word-item.result ≡ codes "drill" = search rules in
    IfSome_then c.plan_of.result c.plan_of.ensures.some
    (λ plan is. drill_is c.args.words.now c.word-item.result c.seed-item.result c.writers-item.result c.consumers-item.result c.size-item.result _ _ _ _ plan five
    c.word-item.is c.seed-item.is c.writers-item.is c.consumers-item.is c.size-item.is named
    c.as_str-in-len5.ensures.value c.as_str-in-len5-2.ensures.value c.as_str-in-len5-3.ensures.value c.as_str-in-len5-4.ensures.value is)

pub returns-else-ne-clause-none : goal.returns-else-ne-clause-none
returns-else-ne-clause-none c =
    let five : length c.args.words.now ≡ 5 = omega arith in
    if_none_then c.plan_of.result c.plan_of.ensures.none
    (not_drill_plan c.args.words.now c.seed-item.result c.writers-item.result c.consumers-item.result c.size-item.result _ _ _ _ five
    c.seed-item.is c.writers-item.is c.consumers-item.is c.size-item.is
    c.as_str-in-len5.ensures.value c.as_str-in-len5-2.ensures.value c.as_str-in-len5-3.ensures.value c.as_str-in-len5-4.ensures.value)
