use Rattle.sync_provider.specs.Placing.{unstaged_at}
use Rattle.sync_provider.proofs.Tables.{AreMade}
use Rattle.sync_provider.proofs.search_table.unstage_places.Given as goal

-- nothing is staged in n places
abbrev pub invariant-loop-place : goal.invariant-loop-place
invariant-loop-place l = AreMade (λ place. place) unstaged_at l.place l.fn.places.items l.places.items
