use Rattle.std.proofs.Common.{◌≡◌, [], ◌∷◌, ap, append-nil, arith, length, map, refl, sym, ◌∙◌}
use Rattle.std.proofs.lemmas.List.{nil_from_length}
use Rattle.std.specs.Vec.Iter.{into_iter_items}
use Rattle.ldap_listener.specs.Seats.{AllFree}
use Rattle.ldap_listener.specs.SeatsOfCode.{seat_of, seat_of_pass}
use Rattle.ldap_listener.proofs.Rows.{has_pass, moved}
use Rattle.ldap_listener.proofs.listening.passes_of.Goals as goal

pub loop-seat-init : goal.loop-seat-init
loop-seat-init g c =
    let gives = c.into_iter-seat-iterator.ensures.into_iter_gives in
    record {
      free = rw gives.0 c.requires.free;
      done = rw (c.requires.empty, gives.0) refl;
      room = omega (arith, c.args.room.ok.0, ap length c.requires.empty, ap length gives.0, c.requires.room);
      capacity = refl;
      left = omega (arith, c.args.seats.ok.0, ap length gives.0, gives.1);
    }

-- a seat that is left has a pass
pub unreachable-requires : goal.unreachable-requires
unreachable-requires g c =
    let steps : into_iter_items c.loop-seat.seat-iterator ≡ c.in-Some.seat ∷ into_iter_items c.next.new.self = c.in-Some.ensures.steps.0 in
    let all : AllFree (map seat_of (c.in-Some.seat ∷ into_iter_items c.next.new.self)) = rw steps at c.loop-seat.invariant.free in
    has_pass c.in-Some.seat all.0 c.in_default.not-Free

pub push_reserved-requires : goal.push_reserved-requires
push_reserved-requires g c =
    let steps : into_iter_items c.loop-seat.seat-iterator ≡ c.in-Some.seat ∷ into_iter_items c.next.new.self = c.in-Some.ensures.steps.0 in
    omega (arith, c.loop-seat.invariant.room, ap length steps)

pub loop-seat-preserved : goal.loop-seat-preserved
loop-seat-preserved g c =
    let at = c.loop-seat in
    let steps : into_iter_items at.seat-iterator ≡ c.in-Some.seat ∷ into_iter_items c.next.new.self = c.in-Some.ensures.steps.0 in
    let all : AllFree (map seat_of (c.in-Some.seat ∷ into_iter_items c.next.new.self)) = rw steps at at.invariant.free in
    let gone = c.in-Some.ensures.steps.1 in
    let short = ap length steps in
    record {
      free = all.1;
      done = rw c.push_reserved.ensures.items (moved seat_of_pass at.passes.items c.in-Free.pass (seat_of c.in-Some.seat) _ _ (sym (ap seat_of c.in-Free.is)) (rw steps at at.invariant.done));
      room = omega (arith, at.invariant.room, short, c.push_reserved.ensures.len, c.push_reserved.ensures.capacity);
      capacity = c.push_reserved.ensures.capacity ∙ at.invariant.capacity;
      left = omega (arith, at.invariant.left, short, gone);
    }

pub returns-clause-passes : goal.returns-clause-passes
returns-clause-passes g c =
    let at = c.loop-seat in
    let none = c.in-None.ensures.steps in
    let empty : into_iter_items at.seat-iterator ≡ [] = nil_from_length _ (sym at.invariant.left ∙ none.0) in
    sym (append-nil (map seat_of_pass at.passes.items)) ∙ rw empty at at.invariant.done

pub returns-clause-capacity : goal.returns-clause-capacity
returns-clause-capacity g c = c.loop-seat.invariant.capacity
