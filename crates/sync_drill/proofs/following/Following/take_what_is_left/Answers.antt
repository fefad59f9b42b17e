use Rattle.std.proofs.Common.{◌≡◌, ◌-◌, ◌+◌, refl, sym, subst, arith}
use Rattle.link_rings.specs.Ends.{offered, taken}
use Rattle.sync_drill.specs.Handing.{HasTaken, IsHanding}
use Rattle.sync_drill.proofs.FollowingSteps.{following-twice, taking_goes}
use Rattle.sync_drill.proofs.Going.{stays}
use Rattle.sync_drill.proofs.LeftInRing.{HasLeft, left_begun, left_next, left_none}
use Rattle.sync_drill.proofs.Rings.{one-ring, same-producer}
use Rattle.sync_drill.proofs.following.Following.take_what_is_left.Goals as goal

-- both ends know of what is in the ring

pub loop-item-init : goal.loop-item-init
loop-item-init g c =
    let old = c.args.self.now in
    let state = g.P.Port.state in
    let end = c.beside-left.new.self in
    let producer = c.beside-left.new.producer in
    let handing : IsHanding old.handing.consumer old.handing.search (state old.handing.port) (offered producer) =
    subst (IsHanding old.handing.consumer old.handing.search (state old.handing.port)) (sym c.beside-left.ensures.offered) c.requires.halves.0 in
    let taking : HasTaken old.taking.consumer old.taking.copy (taken end) =
    subst (HasTaken old.taking.consumer old.taking.copy) (sym c.beside-left.ensures.taken) c.requires.halves.1 in
    record {
      goes = record {
        handing = record {
          its_home = refl;
          goes_on = stays (state old.handing.port);
          consumer = refl;
          ring = c.beside-left.ensures.producer_ring;
          handing = λ fine. handing;
        };
        taking = record { consumer = refl; ring = c.beside-left.ensures.ring; copy = λ fine. taking };
      };
      halves = (handing, taking);
      ring =
          one-ring old.handing.producer producer old.taking.end end c.requires.ring c.beside-left.ensures.producer_ring
          c.beside-left.ensures.ring;
      left = left_begun (c.beside-left.result - 0) end (offered producer) (omega (arith, c.beside-left.ensures.left)) c.beside-left.ensures.fifo;
    }

-- one is taken

pub take_one-requires : goal.take_one-requires
take_one-requires g c = c.loop-item.invariant.halves.1

pub loop-item-preserved : goal.loop-item-preserved
loop-item-preserved g c =
    let before = c.loop-item.self in
    let inv = c.loop-item.invariant in
    let new = c.take_one.new.self in
    let items = offered before.handing.producer in
    let count : c.beside-left.result - c.loop-item._item - 1 ≡ c.beside-left.result - (c.loop-item._item + 1) = omega arith in
    record {
      goes =
          following-twice g.P.Port.home g.P.Port.state c.args.self.now before (record before { taking = new }) inv.goes
          (taking_goes g.P.Port.home g.P.Port.state before new c.take_one.ensures.goes inv.halves.0);
      halves = (inv.halves.0, c.in_ok-take_one.ensures.copy);
      ring =
          one-ring before.handing.producer before.handing.producer before.taking.end new.end inv.ring (same-producer before.handing.producer)
          c.take_one.ensures.goes.ring;
      left =
          subst (λ n. HasLeft n new.end items) count
          (left_next (c.beside-left.result - c.loop-item._item) before.taking.end new.end items (omega (arith, c.loop-item-test.true)) inv.left
          c.take_one.ensures.known);
    }

pub returns-in_err-take_one-clause-goes : goal.returns-in_err-take_one-clause-goes
returns-in_err-take_one-clause-goes g c =
    let before = c.loop-item.self in
    let inv = c.loop-item.invariant in
    following-twice g.P.Port.home g.P.Port.state c.args.self.now before (record before { taking = c.take_one.new.self }) inv.goes
    (taking_goes g.P.Port.home g.P.Port.state before c.take_one.new.self c.take_one.ensures.goes inv.halves.0)

-- none is left

pub returns-clause-goes : goal.returns-clause-goes
returns-clause-goes g c = c.loop-item.invariant.goes

pub returns-clause-even : goal.returns-clause-even
returns-clause-even g c =
    let now = c.loop-item.self in
    let inv = c.loop-item.invariant in
    let items = offered now.handing.producer in
    let none : c.beside-left.result - c.loop-item._item ≡ 0 = omega (arith, c.loop-item-test.false) in
    record {
      ring = inv.ring;
      halves = inv.halves;
      taken_is = left_none now.taking.end items (subst (λ n. HasLeft n now.taking.end items) none inv.left);
    }
