-- What the tree reports.
use Rattle.std.proofs.Common.{subst}
use Rattle.entry_tree.specs.Effects.{committed}
use Rattle.entry_tree.specs.Touched.{IsPlan}
use Rattle.directory_writes.specs.Commits.{held_refusal, Rejects}
use Rattle.directory_writes.specs.Standing.{StandingState}
use Rattle.directory_writes.proofs.standing.Standing.plan_commit.Goals as goal

pub plan_commit-requires : goal.plan_commit-requires
plan_commit-requires c = c.self.invariant.0.unique_names

pub returns-in-Ok-clause-plan : goal.returns-in-Ok-clause-plan
returns-in-Ok-clause-plan c =
    let puts = c.args.puts.now in
    let drops = c.args.drops.now in
    subst (λ (s : StandingState). IsPlan s.entries (committed s.entries puts drops) c.in-Ok.entry_changes) c.self.view_is c.in-Ok.ensures.plan

pub returns-in-Err-clause-refused : goal.returns-in-Err-clause-refused
returns-in-Err-clause-refused c =
    let puts = c.args.puts.now in
    let drops = c.args.drops.now in
    subst (λ (s : StandingState). Rejects (held_refusal (committed s.entries puts drops)) c.from.result) c.self.view_is
    (c.from.ensures (committed c.self.inside.tree puts drops) c.in-Err.ensures.refused)
