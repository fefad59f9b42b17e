use Rattle.std.proofs.Common.{sym, subst}
use Rattle.link_rings.specs.Ends.{AreOneRing}
use Rattle.sync_drill.proofs.preparing.following_at.Goals as goal

pub waiting-requires : goal.waiting-requires
waiting-requires g c = c.in_ok-ends.ensures.consumer.0

pub opened-requires : goal.opened-requires
opened-requires g c = record { unused = c.requires; none = c.in_ok-ends.ensures.producer.0 }

pub returns-clause-begins : goal.returns-clause-begins
returns-clause-begins g c = record { its_home = c.in_ok-handing.ensures.home; goes_on = c.in_ok-handing.ensures.goes_on }

pub returns-clause-follows : goal.returns-clause-follows
returns-clause-follows g c =
    let handing = c.in_ok-handing.handing in
    let taking = c.in_ok-taking.taking in
    record {
      places = (c.in_ok-handing.ensures.same.1, c.in_ok-taking.ensures.same.1);
      ring = subst (λ p. AreOneRing p taking.end) (sym c.in_ok-handing.ensures.same.0)
          (subst (AreOneRing c.in_ok-ends.ends.0) (sym c.in_ok-taking.ensures.same.0) c.in_ok-ends.ensures.ends);
      fine = (c.in_ok-handing.ensures.same.2, c.in_ok-taking.ensures.same.2);
      halves = (c.in_ok-handing.ensures.handing, c.in_ok-taking.ensures.taking);
    }
