-- Consumers are brought up to what one port has seen, which stays as it is.
use Rattle.std.proofs.Common.{◌≡◌, sym, ◌∙◌, subst}
use Rattle.sync_provider.specs.Ports.{PortState}
use Rattle.sync_drill.specs.Following.{IsBroughtUp, MaySettle}
use Rattle.sync_drill.specs.declared.following.Following.{Following}

module _ {P H : Type 0} (home : P → H) (state : P → PortState) where
  -- it may be brought up at a port of the same directory
  pub may-as : (first now : P) (f : Following P) → home now ≡ home first → MaySettle home state first f → MaySettle home state now f
  may-as first now f same may = record {
    consumers = may.consumers;
    ring = may.ring;
    handing = may.handing;
    taking = may.taking;
    shared = may.shared;
    its_home = may.its_home ∙ sym same;
  }

  -- it is brought up to the same
  pub up-as : (this now : PortState) (old new : Following P) → now ≡ this → IsBroughtUp home state now old new → IsBroughtUp home state this old new
  up-as this now old new same up = subst (λ seen. IsBroughtUp home state seen old new) same up
