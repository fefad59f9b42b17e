use Rattle.std.proofs.Common.{◌≡◌, ap, arith, get_or, map, refl, set, sym, ◌∙◌}
use Rattle.std.proofs.lemmas.List.{get_or_default, length-map, set-get_or, set-set}
use Rattle.std.proofs.Math.ListN.{get_or-map}
use Rattle.atomic_table.specs.Seated.{TableId}
use Rattle.shared_directory.specs.Passes.{directory_id}
use Rattle.ldap_listener.specs.Seats.{IsFree, IsSeated, vacant}
use Rattle.ldap_listener.specs.SeatsOfCode.{seat_of}
use Rattle.ldap_listener.specs.Sessions.{seen_by}
use Rattle.ldap_listener.specs.declared.seat.Seat.{Seat}
use Rattle.ldap_listener.specs.declared.seat.Seat.TheVariants.{Busy, Free, Vacant}
use Rattle.ldap_listener.proofs.Accounts.{free-here, free-kept, keeps-freed, keeps-none, room-release, seated-at}
use Rattle.ldap_listener.proofs.Rows.{there-busy, twice}
use Rattle.ldap_listener.proofs.collecting.free_seat.Goals as goal

-- a seat that is not busy is free
stays : {L : Type 0} (cell : TableId) (t : Seat L) → IsSeated cell (seat_of t) → ((x : _) → t ≡ Busy x → ⊥) → IsFree (seat_of t)
stays cell (Free pass) seated other = refl
stays cell (Busy child) seated other = absurd (other child refl)
stays cell Vacant seated other = absurd seated

pub release-requires : goal.release-requires
release-requires g c =
    record {
      accepted = room-release _ _ c.args.place _ _ _ _
          (there-busy c.args.seats.now c.args.place _ _ _ _ _ _ c.requires.place c.replace.ensures.value (ap seat_of c.in-Busy.is)) c.requires.order.room;
    }

pub returns-in-Busy-clause-keeps : goal.returns-in-Busy-clause-keeps
returns-in-Busy-clause-keeps g c =
    let there = there-busy c.args.seats.now c.args.place _ _ _ _ _ _ c.requires.place c.replace.ensures.value (ap seat_of c.in-Busy.is) in
    let back = c.join-pass.ensures in
    record {
      accounts = rw (c.release.ensures.served, twice c.args.seats.now c.args.place c.replace.new.dest (Free c.join-pass.result.pass))
          (keeps-freed (seen_by g.N.Link.Source.bytes_left g.N.Link.Source.bytes_read g.N.Link.Sink.bytes_held g.N.Link.Source.read_fault_count g.N.Link.Sink.write_fault_count)
          c.args.server.now.access.now (directory_id c.args.server.now.directory.now) _ _ c.args.place _ _ _ _ _ _ _ there c.requires.order back.0 back.1);
      faults = c.release.ensures.faults;
    }

pub returns-in-Busy-clause-free : goal.returns-in-Busy-clause-free
returns-in-Busy-clause-free g c =
    rw (twice c.args.seats.now c.args.place c.replace.new.dest (Free c.join-pass.result.pass))
    (free-here _ c.args.place _ _ (omega (arith, length-map c.args.seats.now seat_of, c.requires.place)))

pub returns-in-Busy-clause-kept : goal.returns-in-Busy-clause-kept
returns-in-Busy-clause-kept g c k at =
    rw (twice c.args.seats.now c.args.place c.replace.new.dest (Free c.join-pass.result.pass)) (free-kept _ c.args.place k _ _ at)

pub returns-in_default : goal.returns-in_default
returns-in_default g c =
    let seats = c.args.seats.now in
    let i = c.args.place in
    let same : map seat_of (set (set seats i c.replace.new.dest) i c.replace.result) ≡ map seat_of seats =
    ap (map seat_of) (set-set seats i c.replace.new.dest c.replace.result ∙ ap (set seats i) c.replace.ensures.value ∙ set-get_or seats i _) in
    record {
      keeps = record {
        accounts = rw same (keeps-none (seen_by g.N.Link.Source.bytes_left g.N.Link.Source.bytes_read g.N.Link.Sink.bytes_held g.N.Link.Source.read_fault_count g.N.Link.Sink.write_fault_count) c.args.server.now.access.now (directory_id c.args.server.now.directory.now) _ _ c.requires.order);
        faults = refl;
      };
      free = (
          let one = get_or-map seat_of seats i Vacant in
          let read : get_or seats i Vacant ≡ c.replace.result = get_or_default seats i Vacant _ c.requires.place ∙ sym c.replace.ensures.value in
          rw (same, one) (stays _ (get_or seats i Vacant)
          (rw one at (seated-at _ (map seat_of seats) i vacant (omega (arith, length-map seats seat_of, c.requires.place)) c.requires.order.seated))
          (λ x is. c.in_default.not-Busy x (sym read ∙ is))));
      kept = λ k at. rw same at;
    }
