use Rattle.std.proofs.Common.{◌≡◌, ◌<◌, false, ap, sym, ◌∙◌, subst}
use Rattle.entry_writes.specs.declared.op.Op.TheVariants.{Add}
use Rattle.drill_plan.specs.Names.{unit_name}
use Rattle.drill_plan.specs.Operations.{WriterState, add_unit}
use Rattle.drill_plan.proofs.Asked.{asked_as, unit_asked}
use Rattle.drill_plan.proofs.writer.DrillWriter.unit_operation.Goals as goal

pub returns-clause-asked : goal.returns-clause-asked
returns-clause-asked c =
    let writer = c.self.inside.writer in
    let same : writer ≡ c.args.self.now.writer = ap (λ (w : WriterState). w.writer) c.self.view_is in
    asked_as (Add c.in_ok-name.name c.in_ok-attrs.attrs) (add_unit writer)
    (ap (λ name. Add name c.in_ok-attrs.attrs) c.in_ok-name.ensures
    ∙ ap (λ attrs. Add (unit_name writer false) attrs) c.in_ok-attrs.ensures)
    (unit_asked writer (subst (λ n. n < 8) (sym same) c.requires))
