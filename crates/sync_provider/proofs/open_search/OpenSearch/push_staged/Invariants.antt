use Rattle.std.proofs.Common.{◌≡◌, ◌+◌, length}
use Rattle.sync_provider.specs.Staging.{pushed_staged}
use Rattle.sync_provider.proofs.open_search.OpenSearch.push_staged.Given as goal

-- n groups are put there, and what is left leads to what all lead to
abbrev pub invariant-loop-group : goal.invariant-loop-group
invariant-loop-group l = record {
  goes : pushed_staged l.limit l.self.staged l.self.search ≡ pushed_staged l.limit l.fn.self.staged l.fn.self.search;
  left : length l.self.staged + l._group ≡ length l.fn.self.staged;
}
