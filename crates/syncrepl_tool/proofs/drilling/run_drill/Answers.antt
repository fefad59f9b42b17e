use Rattle.std.proofs.Common.{◌∙◌}
use Rattle.std.proofs.lemmas.Result.{err_from_is_err_and}
use Rattle.syncrepl_tool.proofs.DrillEnds.{drill_ends, drill_runs_out}
use Rattle.syncrepl_tool.proofs.drilling.run_drill.Goals as goal

pub drilled-requires-clause-plan : goal.drilled-requires-clause-plan
drilled-requires-clause-plan g c κs within = c.requires.plan

pub returns-clause-drills : goal.returns-clause-drills
returns-clause-drills g c =
    drill_ends c.args.plan.now c.as_slice.result.now _ _ c.print_lines.result (c.as_slice.ensures ∙ c.in_ok-summary.ensures) c.print_lines.ensures

pub returns-in_err-summary-clause-drills : goal.returns-in_err-summary-clause-drills
returns-in_err-summary-clause-drills g c =
    let ran = err_from_is_err_and c.from_residual.result c.from_residual.ensures.1 in
    rw ran.1 (drill_runs_out c.args.plan.now _ ran.0)
