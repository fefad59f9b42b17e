-- The entries without that of the identity, and what they weigh then.
use Rattle.std.proofs.Common.{◌≡◌, ◌+◌, ◌∙◌, not, List, ap, sym, subst}
use Rattle.std.specs.Prelude.{filter}
use Rattle.entry_tree.specs.declared.entry.Entry.{Entry}
use Rattle.entry_tree.specs.State.{entry_at, found_weight, is_identified, total_weight}
use Rattle.sync_consumer.proofs.KeptPuts.{puts_without, value_removed}
use Rattle.sync_consumer.proofs.weighed.WeighedEntries.remove.Goals as goal

pub invariant_of-self-2 : goal.invariant_of-self-2
invariant_of-self-2 c =
    let uuid = c.args.uuid in
    puts_without c.self.inside.puts c.remove.new.self uuid c.self.inside.weight c.weight_without-weight.result c.self.invariant c.in_ok-remove.ensures.ok
    (subst (λ (all : List Entry). c.weight_without-weight.result + found_weight (entry_at all uuid) ≡ total_weight all) (sym c.self.view_is) c.weight_without-weight.ensures)

pub returns-clause-ok : goal.returns-clause-ok
returns-clause-ok c =
    value_removed c.self.inside.puts c.remove.new.self c.args.uuid c.self.inside.weight c.self.invariant c.in_ok-remove.ensures.ok
    ∙ ap (filter (λ entry. not (is_identified c.args.uuid entry))) c.self.view_is
