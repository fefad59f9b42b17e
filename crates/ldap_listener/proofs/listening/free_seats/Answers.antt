use Rattle.std.proofs.Common.{◌≡◌, [], ◌∷◌, ap, append-nil, arith, length, map, refl, sym, ◌∙◌}
use Rattle.std.proofs.lemmas.List.{nil_from_length}
use Rattle.std.specs.Vec.Iter.{into_iter_items}
use Rattle.ldap_listener.specs.SeatsOfCode.{seat_of, seat_of_pass}
use Rattle.ldap_listener.specs.declared.seat.Seat.TheVariants.{Free}
use Rattle.ldap_listener.proofs.Rows.{moved}
use Rattle.ldap_listener.proofs.listening.free_seats.Goals as goal

pub loop-pass-init : goal.loop-pass-init
loop-pass-init g c =
    let gives = c.into_iter-pass-iterator.ensures.into_iter_gives in
    record {
      done = rw (c.in_ok-seats.ensures.items, gives.0) refl;
      room = omega (arith, c.len.ensures, c.in_ok-seats.ensures.len, c.in_ok-seats.ensures.capacity, c.args.passes.ok.0, ap length gives.0);
      left = omega (arith, c.args.passes.ok.0, ap length gives.0, gives.1);
    }

pub push_reserved-requires : goal.push_reserved-requires
push_reserved-requires g c =
    let steps : into_iter_items c.loop-pass.pass-iterator ≡ c.in-Some.pass ∷ into_iter_items c.next.new.self = c.in-Some.ensures.steps.0 in
    omega (arith, c.loop-pass.invariant.room, ap length steps)

pub loop-pass-preserved : goal.loop-pass-preserved
loop-pass-preserved g c =
    let at = c.loop-pass in
    let steps : into_iter_items at.pass-iterator ≡ c.in-Some.pass ∷ into_iter_items c.next.new.self = c.in-Some.ensures.steps.0 in
    let gone = c.in-Some.ensures.steps.1 in
    let short = ap length steps in
    record {
      done = rw c.push_reserved.ensures.items (moved seat_of at.seats.items (Free c.in-Some.pass) (seat_of_pass c.in-Some.pass) _ _ refl (rw steps at at.invariant.done));
      room = omega (arith, at.invariant.room, short, c.push_reserved.ensures.len, c.push_reserved.ensures.capacity);
      left = omega (arith, at.invariant.left, short, gone);
    }

pub returns : goal.returns
returns g c =
    let at = c.loop-pass in
    let none = c.in-None.ensures.steps in
    let empty : into_iter_items at.pass-iterator ≡ [] = nil_from_length _ (sym at.invariant.left ∙ none.0) in
    sym (append-nil (map seat_of at.seats.items)) ∙ rw empty at at.invariant.done
