use Rattle.std.proofs.Common.{◌≡◌, ap, ◌∙◌}
use Rattle.std.proofs.lemmas.Result.{IfOk-weaker}
use Rattle.drill_plan.specs.Operations.{drawn, operation}
use Rattle.drill_plan.proofs.Asked.{IsAsked, asked_as, next_asked}
use Rattle.drill_plan.proofs.writer.DrillWriter.next_operation.Goals as goal

pub returns-clause-asked : goal.returns-clause-asked
returns-clause-asked c =
    let before = c.args.self.now in
    IfOk-weaker c.operation.result (λ op. op ≡ operation c.drawn.result) IsAsked
    (λ op is. asked_as op (operation (drawn before)) (is ∙ ap operation c.drawn.ensures) (next_asked before c.requires.step))
    c.operation.ensures
