use Rattle.std.proofs.Common.{◌++◌, Bor, map, ap, ◌∙◌}
use Rattle.std.proofs.lemmas.Result.{on_ok_weaker}
use Rattle.entry_tree.specs.declared.entry.Entry.{Entry}
use Rattle.drill_plan.specs.Plain.{plain_of_each}
use Rattle.drill_plan.specs.Summary.{consumer_line}
use Rattle.sync_drill.proofs.summing_up.push_copy.Goals as goal

pub returns : goal.returns
returns c =
    let listed = ap (map (λ (e : Bor Entry). e.now)) c.as_slice.ensures.value ∙ c.in_ok-list.ensures.value in
    on_ok_weaker c.push_consumer_line.result
    (λ is. is ∙ ap (λ entries. c.args.text.now.items ++ consumer_line c.args.consumer (plain_of_each entries)) listed)
    c.push_consumer_line.ensures.ok
