use Rattle.std.proofs.Common.{refl, sym, ◌∙◌, subst}
use Rattle.std.proofs.lemmas.Bool.{false≢true}
use Rattle.sync_drill.specs.Handing.{IsHanding}
use Rattle.sync_drill.proofs.Going.{stays}
use Rattle.sync_drill.proofs.Rings.{producer-twice}
use Rattle.sync_drill.proofs.handing_out.HandingOut.step.Goals as goal

-- the ring has no room

pub returns-then-not-has_room-clause-goes : goal.returns-then-not-has_room-clause-goes
returns-then-not-has_room-clause-goes g c =
    let old = c.args.self.now in
    record {
      its_home = refl;
      goes_on = stays (g.P.Port.state old.port);
      consumer = refl;
      ring = c.has_room.ensures.ring;
      handing = λ fine. subst (IsHanding old.consumer old.search (g.P.Port.state old.port)) (sym c.has_room.ensures.offered) c.requires;
    }

pub returns-then-not-has_room-clause-handing : goal.returns-then-not-has_room-clause-handing
returns-then-not-has_room-clause-handing g c =
    let old = c.args.self.now in
    λ fine. subst (IsHanding old.consumer old.search (g.P.Port.state old.port)) (sym c.has_room.ensures.offered) c.requires

-- it has room

pub hand_on-requires-clause-handing : goal.hand_on-requires-clause-handing
hand_on-requires-clause-handing g c =
    let old = c.args.self.now in
    subst (IsHanding old.consumer old.search (g.P.Port.state old.port)) (sym c.has_room.ensures.offered) c.requires

pub returns-in-Ok-clause-goes : goal.returns-in-Ok-clause-goes
returns-in-Ok-clause-goes g c =
    let old = c.args.self.now in
    record {
      its_home = c.hand_on.ensures.home;
      goes_on = c.hand_on.ensures.goes_on;
      consumer = c.hand_on.ensures.same.0;
      ring = producer-twice old.producer c.has_room.new.self c.hand_on.new.self.producer c.has_room.ensures.ring c.hand_on.ensures.ring;
      handing = λ fine. c.in-Ok.ensures.handing;
    }

pub returns-in-Ok-clause-nothing : goal.returns-in-Ok-clause-nothing
returns-in-Ok-clause-nothing g c = λ nothing. c.in-Ok.ensures.nothing (c.step_of.ensures.nothing nothing)

pub returns-in-Ok-clause-still : goal.returns-in-Ok-clause-still
returns-in-Ok-clause-still g c = λ nothing. c.in-Ok.ensures.still (c.step_of.ensures.nothing nothing) ∙ c.has_room.ensures.offered

pub returns-in-Err-clause-goes : goal.returns-in-Err-clause-goes
returns-in-Err-clause-goes g c =
    let old = c.args.self.now in
    record {
      its_home = c.hand_on.ensures.home;
      goes_on = c.hand_on.ensures.goes_on;
      consumer = c.hand_on.ensures.same.0;
      ring = producer-twice old.producer c.has_room.new.self c.hand_on.new.self.producer c.has_room.ensures.ring c.hand_on.ensures.ring;
      handing = λ fine. absurd (false≢true (sym fine));
    }
