use Rattle.sync_provider.specs.Placing.{pushed_at, shown}
use Rattle.sync_provider.proofs.Tables.{AreMade}
use Rattle.sync_provider.proofs.search_table.push_places.Given as goal

-- what was staged is pushed in n places
abbrev pub invariant-loop-place : goal.invariant-loop-place
invariant-loop-place l = AreMade shown (pushed_at l.fn.limit) l.place l.fn.places.items l.places.items
