-- An operation is drawn as one more write of its weight is.
use Rattle.std.proofs.Common.{◌≡◌, ◌+◌, None, ap, subst, sym, true, ◌∙◌}
use Rattle.std.specs.Prelude.{is_some}
use Rattle.csn_cookie.specs.CsnMaker.{next_csn}
use Rattle.directory_writes.specs.Commits.{log_refusal}
use Rattle.directory_writes.specs.Directory.{DirectoryState, DirectoryWithRoom, IsKeptBeside}
use Rattle.directory_writes.proofs.Commits.{log_full, log_room, log_weight, refusal_stands}
use Rattle.directory_writes.proofs.directory.Directory.draw.Goals as goal

pub returns-in-Ok-clause-room : goal.returns-in-Ok-clause-room
returns-in-Ok-clause-room c =
    let d : DirectoryState = c.args.self.now.state in
    let s = c.self.inside.standing in
    let kept = subst (λ (v : DirectoryWithRoom). IsKeptBeside v.state s) c.self.view_is c.self.invariant in
    let free : log_refusal d c.op_weight.result c.args.now ≡ None = sym (refusal_stands d s c.op_weight.result c.args.now kept.standing) ∙ c.in-Ok.ensures.ok in
    log_room d c.args.op.now c.op_weight.result c.args.now c.op_weight.ensures free

pub returns-in-Ok-clause-value : goal.returns-in-Ok-clause-value
returns-in-Ok-clause-value c =
    let s = c.self.inside.standing in
    let kept = subst (λ (v : DirectoryWithRoom). IsKeptBeside v.state s) c.self.view_is c.self.invariant in
    ap (next_csn c.args.now) (sym kept.standing.stamped) ∙ c.in-Ok.ensures.value

pub returns-in-Ok-clause-weight : goal.returns-in-Ok-clause-weight
returns-in-Ok-clause-weight c =
    let d : DirectoryState = c.args.self.now.state in
    let s = c.self.inside.standing in
    let kept = subst (λ (v : DirectoryWithRoom). IsKeptBeside v.state s) c.self.view_is c.self.invariant in
    let free : log_refusal d c.op_weight.result c.args.now ≡ None = sym (refusal_stands d s c.op_weight.result c.args.now kept.standing) ∙ c.in-Ok.ensures.ok in
    c.in-Ok.ensures.weight ∙ ap (λ weight. weight + c.op_weight.result) kept.standing.weighed
    ∙ log_weight d c.args.op.now c.op_weight.result c.args.now c.op_weight.ensures free

pub returns-in-Err-clause-refused : goal.returns-in-Err-clause-refused
returns-in-Err-clause-refused c =
    let d : DirectoryState = c.args.self.now.state in
    let s = c.self.inside.standing in
    let kept = subst (λ (v : DirectoryWithRoom). IsKeptBeside v.state s) c.self.view_is c.self.invariant in
    let some : is_some (log_refusal d c.op_weight.result c.args.now) ≡ true = ap is_some (sym (refusal_stands d s c.op_weight.result c.args.now kept.standing)) ∙ c.in-Err.ensures.full in
    log_full d c.args.op.now c.op_weight.result c.args.now c.op_weight.ensures some
