use Rattle.std.proofs.Common.{◌≡◌, [], length}
use Rattle.sync_provider.specs.Placing.{placed_from}
use Rattle.sync_provider.proofs.search_table.SearchTable.new.Given as goal

-- n places are free
abbrev pub invariant-loop-free : goal.invariant-loop-free
invariant-loop-free l = record {
  long : length l.places.items ≡ l._free;
  free : placed_from 1 l.places.items ≡ [];
}
