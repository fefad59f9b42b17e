use Rattle.std.proofs.Common.{arith}
use Rattle.std.proofs.lemmas.List.{length-map}
use Rattle.ldap_listener.specs.SeatsOfCode.{seat_of}
use Rattle.ldap_listener.specs.Sessions.{seen_by}
use Rattle.ldap_listener.proofs.Closing.{serves_all}
use Rattle.ldap_listener.proofs.Opening.{first-order}
use Rattle.ldap_listener.proofs.listening.serve_directory.Goals as goal

pub serve_links-accepted-requires-clause-order : goal.serve_links-accepted-requires-clause-order
serve_links-accepted-requires-clause-order g c κs within =
    let opened = c.in-Ok-open_seats.ensures in
    first-order _ _ c.args.provider _ _ opened.seated opened.first (g.met.N.Net.links_within c.args.net.now)

pub close_seats-requires-clause-seated : goal.close_seats-requires-clause-seated
close_seats-requires-clause-seated g c κs within = c.serve_links-accepted.ensures.accepts.keeps.order.seated

pub close_seats-requires-clause-free : goal.close_seats-requires-clause-free
close_seats-requires-clause-free g c κs within = c.serve_links-accepted.ensures.free

pub close_seats-requires-clause-count : goal.close_seats-requires-clause-count
close_seats-requires-clause-count g c =
    omega (arith, c.serve_links-accepted.ensures.count, c.in-Ok-open_seats.ensures.count, c.in-Ok-open_seats.ensures.ports_are, length-map c.serve_links-accepted.result.1.items seat_of)

pub close_seats-requires-clause-room : goal.close_seats-requires-clause-room
close_seats-requires-clause-room g c =
    omega (arith, c.serve_links-accepted.ensures.count, c.in-Ok-open_seats.ensures.count, c.in-Ok.ensures.capacity, length-map c.serve_links-accepted.result.1.items seat_of)

pub returns-clause-serves : goal.returns-clause-serves
returns-clause-serves g c =
    let all = c.serve_links-accepted.ensures.accepts in (
      all.count,
      all.known,
      serves_all
          (seen_by g.N.Link.Source.bytes_left g.N.Link.Source.bytes_read g.N.Link.Sink.bytes_held g.N.Link.Source.read_fault_count g.N.Link.Sink.write_fault_count)
          c.args.access.now _ _ _ _ all.count _ _ _ _ c.in-Ok-open_seats.ensures all.keeps c.serve_links-accepted.ensures.count c.close_seats.ensures,
    )

pub returns-clause-failed : goal.returns-clause-failed
returns-clause-failed g c = c.serve_links-accepted.ensures.accepts.faults.failed

pub returns-clause-faultless : goal.returns-clause-faultless
returns-clause-faultless g c = c.serve_links-accepted.ensures.accepts.faults.faultless

pub returns-clause-later : goal.returns-clause-later
returns-clause-later g c = c.serve_links-accepted.ensures.accepts.faults.later
