-- What a link in memory is seen as.
use Rattle.std.specs.Prelude.{ℕ, List, [], filter}
use Rattle.std.specs.List.{list_any}
use Rattle.sync_io.specs.FaultySource.{StepsLeft, is_played, is_quiet}
use Rattle.sync_io.specs.FaultySink.{Plan}
use Rattle.sync_io.specs.declared.memory_link.LinkPlan.{LinkPlan}

-- its source, its sink, and the bytes that were read
pub record LinkContents : Type 0 where
  pub source : StepsLeft
  pub sink : Plan
  pub read : List ℕ

-- the link that does what a plan says, before its first call
abbrev pub link_of : LinkPlan → LinkContents
link_of plan = record {
  source = record {
    steps = filter is_played plan.steps.items;
    waits = list_any is_quiet plan.steps.items;
    faults = 0;
  };
  sink = record {
    contents = record { bytes = []; faults = 0 };
    failing = plan.failing.items;
    calls = 0;
  };
  read = [];
}
