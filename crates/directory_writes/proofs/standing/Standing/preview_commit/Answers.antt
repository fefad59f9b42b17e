-- What rejects a commit, and what is reported of one that nothing rejects.
use Rattle.std.proofs.Common.{rules, ◌≡◌, ◌-◌, ◌^◌, min, None, sym, ◌∙◌}
use Rattle.entry_tree.specs.Effects.{committed}
use Rattle.entry_tree.specs.declared.op.Op.TheVariants.{Commit}
use Rattle.directory_writes.specs.Commits.{held_refusal, refusal_beside, standing_refusal, Rejects}
use Rattle.directory_writes.specs.Standing.{StandingState}
use Rattle.directory_writes.specs.Weights.{op_weight}
use Rattle.directory_writes.specs.declared.commit.DirectoryCommitFault.{DirectoryCommitFault}
use Rattle.directory_writes.proofs.Commits.{commit_free, refusal_capped, second_opposed, weight_after}
use Rattle.directory_writes.proofs.standing.Standing.preview_commit.Goals as goal

pub returns-in_err-touched-clause-refused : goal.returns-in_err-touched-clause-refused
returns-in_err-touched-clause-refused c =
    let s : StandingState = c.args.self.now in
    let puts = c.args.puts.now in
    let drops = c.args.drops.now in
    let whole = op_weight (Commit puts drops) in
    let weight = c.commit_weight-weight.result in
    let fault : DirectoryCommitFault = c.in_err-touched.field-0.0 in
    let capped : weight ≡ min (op_weight (Commit puts drops)) (2 ^ 64 - 1) = c.commit_weight-weight.ensures in
    let none : standing_refusal s weight c.args.now ≡ None = c.in_ok-drawn.ensures.ok in
    let against : Rejects (held_refusal (committed s.entries puts drops)) fault = c.in_err-touched.ensures.refused in
    let opposed : Rejects (refusal_beside s puts drops c.args.now) fault =
    second_opposed (standing_refusal s whole c.args.now) (held_refusal (committed s.entries puts drops)) fault
    (sym (refusal_capped s.count s.weight s.last whole weight c.args.now capped) ∙ none) against in
    search (rules, opposed)

pub returns-clause-planned : goal.returns-clause-planned
returns-clause-planned c =
    let s : StandingState = c.args.self.now in
    let puts = c.args.puts.now in
    let drops = c.args.drops.now in
    let whole = op_weight (Commit puts drops) in
    let weight = c.commit_weight-weight.result in
    let capped : weight ≡ min (op_weight (Commit puts drops)) (2 ^ 64 - 1) = c.commit_weight-weight.ensures in
    let none : standing_refusal s weight c.args.now ≡ None = c.in_ok-drawn.ensures.ok in
    record {
      unopposed = commit_free s puts drops c.args.now weight capped none c.in_ok-touched.ensures.ok;
      next = c.in_ok-drawn.ensures.value;
      drawn = c.in_ok-drawn.ensures.maker;
      weighed = c.in_ok-drawn.ensures.weight ∙ weight_after s.count s.weight s.last whole weight c.args.now capped none;
      plan = c.in_ok-touched.ensures.plan;
    }
