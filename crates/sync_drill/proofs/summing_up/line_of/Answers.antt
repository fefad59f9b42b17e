use Rattle.std.proofs.Common.{◌++◌, Bor, map, ap, ◌∙◌}
use Rattle.entry_tree.specs.declared.entry.Entry.{Entry}
use Rattle.drill_plan.specs.Plain.{plain_of_each}
use Rattle.drill_plan.specs.Summary.{writes_line}
use Rattle.sync_drill.proofs.summing_up.line_of.Goals as goal

pub returns : goal.returns
returns c =
    let listed = ap (map (λ (e : Bor Entry). e.now)) c.as_slice.ensures.value ∙ c.in_ok-list.ensures ∙ c.list.ensures in
    c.in_ok-push_writes_line.ensures.ok
    ∙ ap (λ before. before ++ writes_line c.args.writes (plain_of_each (map (λ (e : Bor Entry). e.now) c.as_slice.result.now))) c.new-line.ensures.items
    ∙ ap (λ entries. writes_line c.args.writes (plain_of_each entries)) listed
