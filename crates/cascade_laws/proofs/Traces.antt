-- The lines of a run report all that happened to the links and the copies.
use Rattle.std.proofs.Common.{List, [], ◌∷◌, ◌++◌, subst, append_assoc}
use Rattle.cascade_script.specs.Orders.{Order}
use Rattle.cascade_script.specs.Reader.{ScriptReader}
use Rattle.cascade_world.specs.ReportLines.{ReportLine}
use Rattle.cascade_laws.specs.Run.{Runs}
use Rattle.cascade_world.specs.Trace.{AreTraced, all_lines}
use Rattle.cascade_world.specs.World.{WorldState, no_nodes, StepOutcome}
use Rattle.cascade_world.proofs.Traced.{AreReported, ReportedAfter, without_lines, step_reported_after}

-- ---- runs

run_reported : (lines : List ReportLine) (state : WorldState) (reader : ScriptReader) (orders : List Order) (report : List (List ReportLine)) (end : WorldState) (rest : ScriptReader)
    → AreReported state lines → Runs state reader orders report end rest → AreReported end (lines ++ all_lines report)
run_reported lines state reader [] [] end rest is r = subst (λ s. AreReported s (lines ++ [])) r.0 (without_lines state lines is)
run_reported lines state reader [] (t ∷ report) end rest is r = absurd r
run_reported lines state reader (o ∷ orders) [] end rest is r = absurd r
run_reported lines state reader (o ∷ orders) (t ∷ report) end rest is r =
    let P : StepOutcome → Type 0 = ReportedAfter lines in
    let next : AreReported r.2 (lines ++ t) = subst P r.4 (step_reported_after lines state o is) in
    subst (AreReported end) (append_assoc lines t (all_lines report)) (run_reported (lines ++ t) r.2 r.1 orders report end rest next r.5)

-- the lines of a run from no nodes report all that happened to the consumers
pub runs_traced : (reader : ScriptReader) (orders : List Order) (report : List (List ReportLine)) (end : WorldState) (rest : ScriptReader) → Runs no_nodes reader orders report end rest → AreTraced (all_lines report) end.consumer_nodes
runs_traced reader orders report end rest r =
    let is : AreReported no_nodes [] = record { apart = tt; of_nodes = tt; reported = tt } in (run_reported [] no_nodes reader orders report end rest is r).reported
