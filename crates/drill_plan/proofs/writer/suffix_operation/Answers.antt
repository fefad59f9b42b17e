use Rattle.std.proofs.Common.{◌≡◌}
use Rattle.entry_writes.specs.declared.op.Op.{Op}
use Rattle.entry_writes.specs.declared.op.Op.TheVariants.{Add}
use Rattle.drill_plan.specs.Operations.{add_suffix}
use Rattle.drill_plan.proofs.Asked.{asked_as, suffix_asked}
use Rattle.drill_plan.proofs.writer.suffix_operation.Goals as goal

pub returns-clause-asked : goal.returns-clause-asked
returns-clause-asked c =
    let op : ◌≡◌ {A = Op} (Add c.in_ok-name.name c.in_ok-attrs.attrs) add_suffix = cc (c.in_ok-name.ensures, c.in_ok-attrs.ensures) in
    asked_as (Add c.in_ok-name.name c.in_ok-attrs.attrs) add_suffix op suffix_asked
