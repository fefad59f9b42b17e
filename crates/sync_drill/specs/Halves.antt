-- The two halves of a consumer before their threads and after them.
use Rattle.std.specs.Prelude.{◌≡◌, false}
use Rattle.link_rings.specs.Ends.{offered, taken, IsSameConsumer, IsSameProducer}
use Rattle.sync_provider.specs.Ports.{PortState}
use Rattle.sync_drill.specs.declared.handing_out.HandingOut.{HandingOut}
use Rattle.sync_drill.specs.declared.taking.Taking.{Taking}
use Rattle.sync_drill.specs.Going.{HasGoneOn}
use Rattle.sync_drill.specs.Handing.{HasTaken, IsHanding}

-- a half that hands a search out
abbrev pub HandsOut : {P : Type 0} → (P → PortState) → HandingOut P → Type 0
HandsOut state h = IsHanding h.consumer h.search (state h.port) (offered h.producer)

-- a half whose copy is made of what it took
abbrev pub HasCopied : Taking → Type 0
HasCopied t = HasTaken t.consumer t.copy (taken t.end)

-- the part that hands out before its thread and after it
pub record HandingGoes {P H : Type 0} (home : P → H) (state : P → PortState)
    (old new : HandingOut P) : Type 0 where
  pub its_home : home new.port ≡ home old.port
  pub goes_on : HasGoneOn (state old.port) (state new.port)
  pub consumer : new.consumer ≡ old.consumer
  pub ring : IsSameProducer old.producer new.producer
  pub handing : new.failed ≡ false
      → IsHanding new.consumer new.search (state new.port) (offered new.producer)

-- the part that takes before its thread and after it
pub record TakingGoes (old new : Taking) : Type 0 where
  pub consumer : new.consumer ≡ old.consumer
  pub ring : IsSameConsumer old.end new.end
  pub copy : new.failed ≡ false → HasTaken new.consumer new.copy (taken new.end)
