use Rattle.std.proofs.Common.{◌≡◌, ap, map, refl, set, ◌∙◌}
use Rattle.turn_cell.specs.Passes.{cell_of, view_of}
use Rattle.shared_directory.specs.Passes.{directory_id}
use Rattle.ldap_listener.specs.Seats.{busy}
use Rattle.ldap_listener.specs.SeatsOfCode.{seat_of}
use Rattle.ldap_listener.specs.Sessions.{seen_by}
use Rattle.ldap_listener.specs.declared.seat.Seat.TheVariants.{Busy, Free}
use Rattle.ldap_listener.proofs.Accounts.{accepts-none, both-some, free-seated, fresh_is, keeps-served, keeps-taken, keeps-then}
use Rattle.ldap_listener.proofs.Faults.{faults-none, faults-then}
use Rattle.ldap_listener.proofs.Rows.{there-free, twice}
use Rattle.ldap_listener.proofs.accepting.accept_one.Goals as goal

pub start-requires-clause-pass : goal.start-requires-clause-pass
start-requires-clause-pass g c κs within =
    let seat = c.wait_for_seat-place.ensures in
    let place = c.wait_for_seat-place.result in
    let there = there-free c.wait_for_seat-place.new.seats place _ _ _ _ seat.place c.replace.ensures.value (ap seat_of c.in-Free.is) in
    free-seated _ _ _ _ _ there seat.keeps.accounts.order.seated

-- ---- no link came

pub returns-in-Err : goal.returns-in-Err
returns-in-Err g c =
    let came = c.in-Err.ensures in
    let seats = c.wait_for_seat-place.ensures.keeps in
    record {
      count = 0;
      known = tt;
      keeps = rw (came.served, accepts-none (g.N.Net.served c.wait_for_seat-place.new.net)) seats.accounts;
      faults = faults-then _ _ _ _ seats.faults (record { failed = came.failed; faultless = came.faultless; later = came.later });
    }

-- ---- its thread was started

pub returns-in-Ok-start : goal.returns-in-Ok-start
returns-in-Ok-start g c =
    let v = seen_by g.N.Link.Source.bytes_left g.N.Link.Source.bytes_read g.N.Link.Sink.bytes_held g.N.Link.Source.read_fault_count g.N.Link.Sink.write_fault_count in
    let access = c.args.server.now.access.now in
    let cell = directory_id c.args.server.now.directory.now in
    let seat = c.wait_for_seat-place.ensures in
    let place = c.wait_for_seat-place.result in
    let there = there-free c.wait_for_seat-place.new.seats place _ _ _ _ seat.place c.replace.ensures.value (ap seat_of c.in-Free.is) in
    let given = c.in-Ok-start.ensures.ok in
    let out : seat_of (Busy c.in-Ok-start.child) ≡ busy (cell_of c.in-Free.pass) (view_of c.in-Free.pass) access c.in-Ok.link = rw (given.0, given.1, given.2) refl in
    let put = twice c.wait_for_seat-place.new.seats place c.replace.new.dest (Busy c.in-Ok-start.child) ∙ ap (set (map seat_of c.wait_for_seat-place.new.seats) place) out in
    let fresh = both-some _ _ _ c.in-Ok.ensures.unused c.in-Ok.ensures.sound in
    let taken = keeps-taken v access cell _ _ place _ _ c.in-Ok.link there seat.keeps.accounts.order (fresh_is v c.in-Ok.link _ fresh) in
    record {
      count = 1;
      known = refl;
      keeps = rw (c.in-Ok.ensures.served, put) (keeps-then v access cell 0 1 _ _ _ _ _ _ seat.keeps.accounts taken);
      faults = faults-none _ _ _ (c.in-Ok.ensures.faultless (λ e. let never : ⊥ = cc in never) ∙ seat.keeps.faults);
    }

-- ---- the link was served here

pub returns-in-Err-start : goal.returns-in-Err-start
returns-in-Err-start g c =
    let v = seen_by g.N.Link.Source.bytes_left g.N.Link.Source.bytes_read g.N.Link.Sink.bytes_held g.N.Link.Source.read_fault_count g.N.Link.Sink.write_fault_count in
    let access = c.args.server.now.access.now in
    let cell = directory_id c.args.server.now.directory.now in
    let seat = c.wait_for_seat-place.ensures in
    let place = c.wait_for_seat-place.result in
    let there = there-free c.wait_for_seat-place.new.seats place _ _ _ _ seat.place c.replace.ensures.value (ap seat_of c.in-Free.is) in
    let put = twice c.wait_for_seat-place.new.seats place c.replace.new.dest (Free c.in-Err-start.served.pass) in
    let fresh = both-some _ _ _ c.in-Ok.ensures.unused c.in-Ok.ensures.sound in
    let back = c.in-Err-start.ensures.err in
    let here = keeps-served v access cell _ _ place _ _ _ _ c.in-Ok.link _ there seat.keeps.accounts.order (fresh_is v c.in-Ok.link _ fresh) back.0 back.1 in
    record {
      count = 1;
      known = refl;
      keeps = rw (c.release.ensures.served, c.in-Ok.ensures.served, put) (keeps-then v access cell 0 1 _ _ _ _ _ _ seat.keeps.accounts here);
      faults = faults-none _ _ _ (c.release.ensures.faults ∙ c.in-Ok.ensures.faultless (λ e. let never : ⊥ = cc in never) ∙ seat.keeps.faults);
    }
