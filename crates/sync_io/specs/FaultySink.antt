-- What a sink whose chosen calls fail is seen as.
use Rattle.std.specs.Prelude.{ℕ, Bool, List, ◌==◌}
use Rattle.std.specs.List.{list_any}
use Rattle.sync_io.specs.Faults.{one_more}
use Rattle.sync_io.specs.MemorySink.{Contents}

-- what it holds, the numbers of the calls that fail, and how many calls there were
pub record Plan : Type 0 where
  pub contents : Contents
  pub failing : List ℕ
  pub calls : ℕ

-- whether the next call fails: its number is one of those chosen
abbrev pub fails_next : Plan → Bool
fails_next plan = list_any (λ number. number == one_more plan.calls) plan.failing
