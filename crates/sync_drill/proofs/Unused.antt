-- A port that added nothing may open its first search.
use Rattle.std.proofs.Common.{ℕ, [], refl}
use Rattle.sync_provider.specs.Ports.{PortState}
use Rattle.sync_drill.specs.Following.{IsUnused}
use Rattle.sync_drill.specs.Handing.{MayOpen}

-- such a port has nothing to hand out
pub unused_may_open : (consumer : ℕ) (p : PortState) → IsUnused p → MayOpen consumer p []
unused_may_open consumer p unused = record {
  resting = record { alone = unused.alone; searches = []; own = unused.none; are_ended = tt; offered_is = refl };
  busy = tt;
}
