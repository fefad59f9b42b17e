-- The entries with the entry, and what they weigh then.
use Rattle.std.proofs.Common.{◌≡◌, ◌+◌, ◌∙◌, List, ap, sym, subst, arith}
use Rattle.entry_tree.specs.declared.entry.Entry.{Entry}
use Rattle.entry_tree.specs.State.{entry_at, found_weight, put, total_weight}
use Rattle.sync_consumer.proofs.KeptPuts.{puts_with, value_put}
use Rattle.sync_consumer.proofs.weighed.WeighedEntries.put.Goals as goal

pub overflow_add-weight : goal.overflow_add-weight
overflow_add-weight c =
    let left = c.weight_without.ensures in
    let own = c.weight.ensures in
    let light = c.requires in
    omega (arith, left, own, light)

pub invariant_of-self-2 : goal.invariant_of-self-2
invariant_of-self-2 c =
    let e = c.args.entry in
    let left = c.weight_without.ensures in
    let light = c.requires in
    let own = c.weight.ensures in
    puts_with c.self.inside.puts c.insert.new.self e c.self.inside.weight (c.weight_without.result + c.weight.result) c.weight_without.result c.self.invariant c.in_ok-insert.ensures.ok
    (subst (λ (all : List Entry). c.weight_without.result + found_weight (entry_at all e.uuid) ≡ total_weight all) (sym c.self.view_is) left)
    (omega (arith, left, light, own))
    (omega (arith, left, light, own))

pub returns-clause-ok : goal.returns-clause-ok
returns-clause-ok c =
    value_put c.self.inside.puts c.insert.new.self c.args.entry c.self.inside.weight c.self.invariant c.in_ok-insert.ensures.ok
    ∙ ap (put c.args.entry) c.self.view_is
