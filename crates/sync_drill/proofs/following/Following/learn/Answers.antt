use Rattle.std.proofs.Common.{inl, refl}
use Rattle.link_rings.specs.Ends.{offered}
use Rattle.sync_drill.proofs.FollowingSteps.{handing_goes}
use Rattle.sync_drill.proofs.Going.{later-goes}
use Rattle.sync_drill.proofs.Handings.{handing-later}
use Rattle.sync_drill.proofs.Rings.{same-producer}
use Rattle.sync_drill.proofs.following.Following.learn.Goals as goal

pub meet-requires-clause-home : goal.meet-requires-clause-home
meet-requires-clause-home g c = c.requires.home

pub meet-requires-clause-known : goal.meet-requires-clause-known
meet-requires-clause-known g c = inl c.requires.shared

pub returns-clause-first : goal.returns-clause-first
returns-clause-first g c = record { its_home = c.meet.ensures.other_home; its_state = c.meet.ensures.other }

pub returns-clause-goes : goal.returns-clause-goes
returns-clause-goes g c =
    let old = c.args.self.now in
    let state = g.P.Port.state in
    let port = c.meet.new.self in
    handing_goes g.P.Port.home state old (record old.handing { port = port })
    (record {
      its_home = c.meet.ensures.home;
      goes_on = later-goes (state old.handing.port) (state port) c.meet.ensures.met.later;
      consumer = refl;
      ring = same-producer old.handing.producer;
      handing = λ fine. handing-later old.handing.consumer old.handing.search (state old.handing.port) (state port) (offered old.handing.producer)
          c.meet.ensures.met.later c.requires.halves.0;
    })
    c.requires.halves.1

pub returns-clause-halves : goal.returns-clause-halves
returns-clause-halves g c =
    let old = c.args.self.now in
    let state = g.P.Port.state in (
      handing-later old.handing.consumer old.handing.search (state old.handing.port) (state c.meet.new.self) (offered old.handing.producer)
          c.meet.ensures.met.later c.requires.halves.0,
      c.requires.halves.1,
    )

pub returns-clause-seen : goal.returns-clause-seen
returns-clause-seen g c = c.meet.ensures.met.seen
