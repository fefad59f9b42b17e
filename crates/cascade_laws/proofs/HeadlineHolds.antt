-- Each line of a run is right, for the orders and the lines before it, and what the lines report last is what is held.
use Rattle.std.proofs.Common.{List, []}
use Rattle.sync_wire.proofs.Servable.{selected_can_be_served}
use Rattle.directory_writes.proofs.Promised.{promises_last}
use Rattle.cascade_laws.specs.Headline.{LinesAreRight}
use Rattle.cascade_script.specs.Orders.{Order}
use Rattle.cascade_script.specs.Reader.{ScriptReader}
use Rattle.cascade_world.specs.ReportLines.{ReportLine}
use Rattle.cascade_world.specs.Trace.{all_lines}
use Rattle.cascade_laws.specs.Run.{Runs, AreHeld}
use Rattle.cascade_world.specs.World.{WorldState, no_nodes}
use Rattle.cascade_laws.proofs.EachOrder.{HasRun, runs_tracked_by}
use Rattle.cascade_laws.proofs.FedWanting.{idles_rest, respecs_are_kept}
use Rattle.cascade_laws.proofs.PartsKept.{parts_are_kept}
use Rattle.cascade_laws.proofs.Sources.{rest_is_fed, rests_are_fed, fresh_is_source, writes_are_kept, limits_are_kept, queues_are_kept, commits_are_kept}
use Rattle.cascade_laws.proofs.Reporting.{copies_held}

-- a run from no nodes, with what is known of providers and consumers
runs_tracked : (reader : ScriptReader) (orders : List Order) (report : List (List ReportLine)) (end : WorldState) (rest : ScriptReader) → Runs no_nodes reader orders report end rest → HasRun [] [] orders report end
runs_tracked = runs_tracked_by (record {
  rest = rest_is_fed;
  fresh = fresh_is_source;
  writes = writes_are_kept;
  limits = limits_are_kept;
  queues = queues_are_kept;
  parts = parts_are_kept;
  respecs = respecs_are_kept;
  idles = idles_rest;
  rests = rests_are_fed;
  commits = commits_are_kept;
  lasts = promises_last;
  selected = selected_can_be_served;
})

-- each line of a run from no nodes is right
pub runs_lines_right : (reader : ScriptReader) (orders : List Order) (report : List (List ReportLine)) (end : WorldState) (rest : ScriptReader) → Runs no_nodes reader orders report end rest → LinesAreRight [] [] orders report
runs_lines_right reader orders report end rest r = (runs_tracked reader orders report end rest r).right

-- what the lines of a run from no nodes report last of each consumer is what it holds
pub runs_held : (reader : ScriptReader) (orders : List Order) (report : List (List ReportLine)) (end : WorldState) (rest : ScriptReader) → Runs no_nodes reader orders report end rest → AreHeld (all_lines report) end
runs_held reader orders report end rest r = copies_held orders (all_lines report) end (runs_tracked reader orders report end rest r).tracked
