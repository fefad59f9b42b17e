use Rattle.std.proofs.Common.{arith, map}
use Rattle.std.proofs.lemmas.List.{length-map}
use borrow.Author.Count.{below_more}
use Rattle.shared_directory.specs.Passes.{directory_id}
use Rattle.ldap_listener.specs.Seats.{IsFreeAt}
use Rattle.ldap_listener.specs.SeatsOfCode.{seat_of}
use Rattle.ldap_listener.specs.Sessions.{seen_by}
use Rattle.ldap_listener.proofs.Accounts.{all-free, seats-none, seats-then}
use Rattle.ldap_listener.proofs.collecting.free_all.Goals as goal

pub loop-place-init : goal.loop-place-init
loop-place-init g c = record {
  keeps = seats-none (seen_by g.N.Link.Source.bytes_left g.N.Link.Source.bytes_read g.N.Link.Sink.bytes_held g.N.Link.Source.read_fault_count g.N.Link.Sink.write_fault_count)
      c.args.server.now.access.now (directory_id c.args.server.now.directory.now) _ _ _ c.requires.order;
  free = λ k low. absurd (omega arith);
}

pub loop-place-preserved : goal.loop-place-preserved
loop-place-preserved g c =
    let was = c.loop-place.invariant in
    record {
      keeps = seats-then (seen_by g.N.Link.Source.bytes_left g.N.Link.Source.bytes_read g.N.Link.Sink.bytes_held g.N.Link.Source.read_fault_count g.N.Link.Sink.write_fault_count)
          c.args.server.now.access.now (directory_id c.args.server.now.directory.now) _ _ _ _ _ _ _ _ _ was.keeps c.free_seat.ensures.keeps;
      free = below_more (IsFreeAt (map seat_of c.free_seat.new.seats)) c.loop-place.place (λ k low. c.free_seat.ensures.kept k (was.free k low)) c.free_seat.ensures.free;
    }

pub returns-clause-free : goal.returns-clause-free
returns-clause-free g c =
    all-free (map seat_of c.loop-place.seats) (λ k low. c.loop-place.invariant.free k
    (omega (arith, low, length-map c.loop-place.seats seat_of, c.loop-place-test.false, c.loop-place.auto.seats, c.loop-place.auto.place-end)))
