-- A consumer as its halves go on, and in the end.
use Rattle.std.proofs.Common.{◌≡◌, sym, ap, ◌∙◌, refl, subst}
use Rattle.link_rings.specs.Ends.{offered, taken, AreOneRing}
use Rattle.sync_provider.specs.Ports.{HasSeenAllOf, PortState}
use Rattle.sync_drill.specs.Following.{FollowingGoes, IsBroughtUp, IsEven, MayFollow}
use Rattle.sync_drill.specs.Going.{HasGoneOn}
use Rattle.sync_drill.specs.Halves.{HandingGoes, HandsOut, HasCopied, TakingGoes}
use Rattle.sync_drill.specs.Handing.{IsDone, IsResting}
use Rattle.sync_drill.specs.declared.following.Following.{Following}
use Rattle.sync_drill.specs.declared.handing_out.HandingOut.{HandingOut}
use Rattle.sync_drill.specs.declared.taking.Taking.{Taking}
use Rattle.sync_drill.proofs.Going.{goes-twice}
use Rattle.sync_drill.proofs.HandingSteps.{handing-stays, handing-twice}
use Rattle.sync_drill.proofs.Rings.{one-ring}
use Rattle.sync_drill.proofs.TakingSteps.{taken-as, taking-stays, taking-twice}

module _ {P H : Type 0} (home : P → H) (state : P → PortState) where
  -- two steps in a row
  pub following-twice : (old mid new : Following P) → FollowingGoes home state old mid → FollowingGoes home state mid new → FollowingGoes home state old new
  following-twice old mid new first second = record {
    handing = handing-twice home state old.handing mid.handing new.handing first.handing second.handing;
    taking = taking-twice old.taking mid.taking new.taking first.taking second.taking;
  }

  -- a consumer that does nothing
  pub following-stays : (f : Following P) → MayFollow state f → FollowingGoes home state f f
  following-stays f may = record { handing = handing-stays home state f.handing may.0; taking = taking-stays f.taking may.1 }

  -- one half goes on, and the other is as before
  pub handing_goes : (old : Following P) (new : HandingOut P) → HandingGoes home state old.handing new → HasCopied old.taking
      → FollowingGoes home state old (record old { handing = new })
  handing_goes old new goes copied = record { handing = goes; taking = taking-stays old.taking copied }

  -- the other half goes on
  pub taking_goes : (old : Following P) (new : Taking) → TakingGoes old.taking new → HandsOut state old.handing
      → FollowingGoes home state old (record old { taking = new })
  taking_goes old new goes hands_out = record { handing = handing-stays home state old.handing hands_out; taking = goes }

  -- its ring is the same
  pub ring_goes : (old new : Following P) → FollowingGoes home state old new → AreOneRing old.handing.producer old.taking.end
      → AreOneRing new.handing.producer new.taking.end
  ring_goes old new goes ring =
      one-ring old.handing.producer new.handing.producer old.taking.end new.taking.end ring goes.handing.ring goes.taking.ring

  -- its search is ended where all was handed out and taken
  pub brought_up : (old mid : Following P) (closed : HandingOut P) (seen : PortState) → old.taking.consumer ≡ old.handing.consumer
      → FollowingGoes home state old mid → IsEven state mid → HasSeenAllOf (state mid.handing.port) seen
      → IsDone mid.handing.consumer mid.handing.search (state mid.handing.port) (offered mid.handing.producer)
      → home closed.port ≡ home mid.handing.port → HasGoneOn (state mid.handing.port) (state closed.port)
      → IsResting (state closed.port) (offered closed.producer) → closed.producer ≡ mid.handing.producer
      → IsBroughtUp home state seen old (record mid { handing = closed })
  brought_up old mid closed seen consumers goes even begins done same_home further resting same = record {
    its_home = same_home ∙ goes.handing.its_home;
    goes_on = goes-twice (state old.handing.port) (state mid.handing.port) (state closed.port) goes.handing.goes_on further;
    settled = record {
      ring = subst (λ p. AreOneRing p mid.taking.end) (sym same) even.ring;
      taken_is = even.taken_is ∙ ap offered (sym same);
      copied =
          taken-as mid.taking.consumer old.handing.consumer mid.taking.copy (taken mid.taking.end) (taken mid.taking.end)
          (sym (goes.taking.consumer ∙ consumers)) refl even.halves.1;
      resting = resting;
      upto = state mid.handing.port;
      search = mid.handing.search;
      done =
          subst (λ items. IsDone old.handing.consumer mid.handing.search (state mid.handing.port) items) (ap offered (sym same))
          (subst (λ n. IsDone n mid.handing.search (state mid.handing.port) (offered mid.handing.producer)) goes.handing.consumer done);
      begins = begins;
      goes_on = further;
    };
    before = goes.handing.goes_on;
  }
