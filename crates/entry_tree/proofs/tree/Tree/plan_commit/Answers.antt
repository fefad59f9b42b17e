-- What a commit changes leads to the entries after it, which may be held.
use Rattle.std.proofs.Common.{refl, ◌∙◌}
use Rattle.entry_writes.specs.Effects.{committed}
use Rattle.entry_writes.specs.State.{total_weight}
use Rattle.entry_tree.proofs.Committing.{directory_committed}
use Rattle.entry_tree.proofs.tree.Tree.plan_commit.Goals as goal

pub check_changes-requires-clause-exact : goal.check_changes-requires-clause-exact
check_changes-requires-clause-exact c = c.list.ensures ∙ c.in_ok-entry_changes.ensures.exact

pub returns-clause-plan : goal.returns-clause-plan
returns-clause-plan c =
    let es = c.args.self.now in
    let puts = c.args.puts.now in
    let drops = c.args.drops.now in
    let asc = c.in_ok-entry_changes.ensures.ascends in
    record {
      ordered = asc;
      exact = c.in_ok-entry_changes.ensures.exact;
      directory = directory_committed es puts drops (total_weight (committed es puts drops)) asc c.in_ok-check_changes.ensures.ok refl;
    }
