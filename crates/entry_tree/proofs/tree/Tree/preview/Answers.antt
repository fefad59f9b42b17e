-- What a plan leads to, and that it can be put in place.
use Rattle.std.proofs.Common.{◌≡◌}
use Rattle.std.proofs.lemmas.Result.{IfOk-weaker}
use Rattle.entry_writes.specs.Effects.{effect}
use Rattle.entry_writes.specs.Touched.{touched, with_changes, CanBeMade, IsPlan}
use Rattle.entry_tree.proofs.Changing.{plan_leads, plan_fits}
use Rattle.entry_tree.proofs.tree.Tree.preview.Goals as goal

pub returns-clause-touched : goal.returns-clause-touched
returns-clause-touched c =
    let es = c.args.self.now in
    let new = effect es c.args.op.now c.args.uuid c.args.csn in
    IfOk-weaker c.judge.result (IsPlan es new) (λ changes. changes ≡ touched es new) (λ changes plan. plan.exact) c.judge.ensures.plan

pub returns-clause-effect : goal.returns-clause-effect
returns-clause-effect c =
    let es = c.args.self.now in
    let new = effect es c.args.op.now c.args.uuid c.args.csn in
    IfOk-weaker c.judge.result (IsPlan es new) (λ changes. with_changes es changes ≡ new) (plan_leads es new) c.judge.ensures.plan

pub returns-clause-fit : goal.returns-clause-fit
returns-clause-fit c =
    let es = c.args.self.now in
    let new = effect es c.args.op.now c.args.uuid c.args.csn in
    IfOk-weaker c.judge.result (IsPlan es new) (CanBeMade es) (plan_fits es new) c.judge.ensures.plan
