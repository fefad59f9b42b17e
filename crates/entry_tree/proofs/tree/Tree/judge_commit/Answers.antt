-- What a commit changes leads to the entries after it.
use Rattle.std.proofs.Common.{◌≡◌, refl}
use Rattle.std.proofs.lemmas.Result.{IfOk-weaker}
use Rattle.entry_writes.specs.Effects.{committed}
use Rattle.entry_writes.specs.State.{total_weight}
use Rattle.entry_writes.specs.Touched.{touched, IsPlan}
use Rattle.entry_tree.proofs.Committing.{directory_committed}
use Rattle.entry_tree.proofs.tree.Tree.judge_commit.Goals as goal

pub returns : goal.returns
returns c =
    let es = c.args.self.now in
    let puts = c.args.puts.now in
    let drops = c.args.drops.now in
    let asc = c.changes.ensures.ascends in
    IfOk-weaker c.changes.result (λ changes. changes ≡ touched es (committed es puts drops)) (IsPlan es (committed es puts drops))
    (λ changes is. record { ordered = asc; exact = is; directory = directory_committed es puts drops (total_weight (committed es puts drops)) asc c.requires refl })
    c.changes.ensures.exact
