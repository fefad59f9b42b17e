-- A script that passes a limit is not read to its end.
use Rattle.std.proofs.Common.{◌≡◌, None, List, [], ◌∷◌, ap, sym, ◌∙◌}
use Rattle.cascade_script.specs.Orders.{Order}
use Rattle.cascade_script.specs.Reader.{ScriptReader, next_in}
use Rattle.cascade_script.specs.Reader.Next.{Ended, Got}
use Rattle.cascade_script.proofs.KeptLimits.{next_keeps, keeps_as}
use Rattle.cascade_world.specs.ReportLines.{ReportLine}
use Rattle.cascade_laws.specs.Run.{Runs}
use Rattle.cascade_world.specs.World.{WorldState}

-- what is left by a run that is read to its end had no limit at its beginning
pub runs_limit : (state : WorldState) (reader : ScriptReader) (orders : List Order) (report : List (List ReportLine)) (end : WorldState) (rest : ScriptReader)
    → Runs state reader orders report end rest → next_in rest ≡ Ended → reader.limit ≡ None
runs_limit state reader [] [] end rest r ended =
    keeps_as reader.limit (next_in reader) Ended (ap next_in r.1 ∙ ended) (next_keeps reader.limit reader.read reader.lines)
runs_limit state reader [] (t ∷ report) end rest r ended = absurd r
runs_limit state reader (o ∷ orders) [] end rest r ended = absurd r
runs_limit state reader (o ∷ orders) (t ∷ report) end rest r ended =
    sym (keeps_as reader.limit (next_in reader) (Got r.0 o r.1) r.3 (next_keeps reader.limit reader.read reader.lines))
    ∙ runs_limit r.2 r.1 orders report end rest r.5 ended
