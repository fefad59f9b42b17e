-- The half of a consumer that hands messages out, as it goes on.
use Rattle.std.proofs.Common.{◌≡◌, ◌≢◌, ℕ, List, refl, sym, ◌∙◌, subst}
use Rattle.sync_provider.specs.Ports.{PortState}
use Rattle.sync_drill.specs.Handing.{IsHanding, MayOpen}
use Rattle.sync_drill.specs.Halves.{HandingGoes, HandsOut}
use Rattle.sync_drill.specs.declared.handing_out.HandingOut.{HandingOut}
use Rattle.sync_drill.specs.declared.handing_out.HandingOutcome.{HandingOutcome}
use Rattle.sync_drill.specs.declared.handing_out.HandingOutcome.TheVariants as steps
use Rattle.sync_drill.proofs.Going.{goes-twice, stays}
use Rattle.sync_drill.proofs.Rings.{producer-twice, same-producer}

-- a step that was made or that waits has not failed
pub offered_fine : (step : HandingOutcome) → step ≡ steps.Offered → step ≢ steps.Failed
offered_fine step is = λ failed. cc

-- so has one for which the ring is full
pub full_fine : (step : HandingOutcome) → step ≡ steps.Full → step ≢ steps.Failed
full_fine step is = λ failed. cc

-- and one for which nothing is pending
pub nothing_fine : (step : HandingOutcome) → step ≡ steps.Nothing → step ≢ steps.Failed
nothing_fine step is = λ failed. cc

-- of equal values
pub handing-as : (consumer others search number : ℕ) (p q : PortState) (items more : List (List ℕ)) → others ≡ consumer → number ≡ search
    → q ≡ p → more ≡ items → IsHanding consumer search p items → IsHanding others number q more
handing-as consumer others search number p q items more same_consumer same_search same_port same_items h =
    subst (λ n. IsHanding n number q more) (sym same_consumer)
    (subst (λ n. IsHanding consumer n q more) (sym same_search)
    (subst (λ r. IsHanding consumer search r more) (sym same_port)
    (subst (IsHanding consumer search p) (sym same_items) h)))

-- the same of what opens
pub may_open-as : (consumer other : ℕ) (p q : PortState) (items more : List (List ℕ)) → other ≡ consumer → q ≡ p → more ≡ items → MayOpen consumer p items → MayOpen other q more
may_open-as consumer other p q items more same_consumer same_port same_items may =
    subst (λ n. MayOpen n q more) (sym same_consumer) (subst (λ r. MayOpen consumer r more) (sym same_port) (subst (MayOpen consumer p) (sym same_items) may))

module _ {P H : Type 0} (home : P → H) (state : P → PortState) where
  -- a half that does nothing
  pub handing-stays : (h : HandingOut P) → HandsOut state h → HandingGoes home state h h
  handing-stays h at = record {
    its_home = refl;
    goes_on = stays (state h.port);
    consumer = refl;
    ring = same-producer h.producer;
    handing = λ fine. at;
  }

  -- two steps in a row
  pub handing-twice : (old mid new : HandingOut P) → HandingGoes home state old mid → HandingGoes home state mid new
      → HandingGoes home state old new
  handing-twice old mid new first second = record {
    its_home = second.its_home ∙ first.its_home;
    goes_on = goes-twice (state old.port) (state mid.port) (state new.port) first.goes_on second.goes_on;
    consumer = second.consumer ∙ first.consumer;
    ring = producer-twice old.producer mid.producer new.producer first.ring second.ring;
    handing = second.handing;
  }
