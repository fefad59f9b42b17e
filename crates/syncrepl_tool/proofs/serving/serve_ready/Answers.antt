use Rattle.std.proofs.Common.{refl}
use Rattle.std.proofs.KnownBytes.{Keeps-refl}
use Rattle.syncrepl_tool.proofs.ServedReady.{serve_done, serve_stopped}
use Rattle.syncrepl_tool.proofs.serving.serve_ready.Goals as goal

pub serve_at-requires-clause-seats : goal.serve_at-requires-clause-seats
serve_at-requires-clause-seats g c κs within = c.requires.seats

pub serve_at-requires-clause-filter : goal.serve_at-requires-clause-filter
serve_at-requires-clause-filter g c κs within = c.requires.filter

-- all connections were served
pub returns-in-Ok-clause-serves : goal.returns-in-Ok-clause-serves
returns-in-Ok-clause-serves g c = serve_done _ c.args.ready _ _ _ refl (Keeps-refl _) (c.in-Ok.ensures.faults.faultless (λ e. let never : ⊥ = cc in never)) c.in-Ok.ensures.serves

-- the net failed, or memory ran out
pub returns-in-Err-clause-serves : goal.returns-in-Err-clause-serves
returns-in-Err-clause-serves g c =
    serve_stopped _ c.args.ready _ _ c.in-Err.fault c.net_failed.result c.net_failed.ensures.says c.net_failed.ensures.memory c.in-Err.ensures.faults c.in-Err.ensures.serves
