use Rattle.std.proofs.Common.{arith, map}
use Rattle.std.proofs.lemmas.List.{length-map}
use Rattle.ldap_listener.specs.SeatsOfCode.{seat_of}
use Rattle.ldap_listener.specs.Sessions.{seen_by}
use Rattle.ldap_listener.proofs.ExtraPort.{serves_beside}
use Rattle.ldap_listener.proofs.Opening.{first-order}
use Rattle.ldap_listener.proofs.beside.serve_replica.Goals as goal

pub serve_beside-accepted-requires-clause-order : goal.serve_beside-accepted-requires-clause-order
serve_beside-accepted-requires-clause-order g c κs within =
    let opened = c.in-Ok-open_beside.ensures in
    first-order _ _ c.args.provider _ _ opened.seated opened.first (g.met.N.Net.links_within c.args.net.now)

pub serve_beside-accepted-requires-clause-pass : goal.serve_beside-accepted-requires-clause-pass
serve_beside-accepted-requires-clause-pass g c κs within = c.in-Ok-open_beside.ensures.pass_is

pub close_all-provider-requires-clause-seated : goal.close_all-provider-requires-clause-seated
close_all-provider-requires-clause-seated g c κs within = c.serve_beside-accepted.ensures.serves.accepts.keeps.order.seated

pub close_all-provider-requires-clause-free : goal.close_all-provider-requires-clause-free
close_all-provider-requires-clause-free g c κs within = c.serve_beside-accepted.ensures.serves.free

pub close_all-provider-requires-clause-count : goal.close_all-provider-requires-clause-count
close_all-provider-requires-clause-count g c =
    omega (arith, c.serve_beside-accepted.ensures.serves.count, c.in-Ok-open_beside.ensures.count, c.in-Ok-open_beside.ensures.ports_are, length-map c.serve_beside-accepted.result.1.items seat_of)

pub close_all-provider-requires-clause-room : goal.close_all-provider-requires-clause-room
close_all-provider-requires-clause-room g c =
    omega (arith, c.serve_beside-accepted.ensures.serves.count, c.in-Ok-open_beside.ensures.count, c.in-Ok.ensures.capacity, length-map c.serve_beside-accepted.result.1.items seat_of)

pub returns-clause-serves : goal.returns-clause-serves
returns-clause-serves g c =
    let before = c.in-Ok-open_beside.seats.items in
    let after = c.serve_beside-accepted.result.1.items in
    let all = c.serve_beside-accepted.ensures.serves.accepts in (
      all.count,
      all.known,
      serves_beside
          (seen_by g.N.Link.Source.bytes_left g.N.Link.Source.bytes_read g.N.Link.Sink.bytes_held g.N.Link.Source.read_fault_count g.N.Link.Sink.write_fault_count)
          c.args.access.now _ _ _ _ all.count _ _ (map seat_of before) (map seat_of after) c.in-Ok-open_beside.pass c.serve_beside-accepted.result.2.pass _ c.in-Ok-open_beside.ensures all.keeps c.serve_beside-accepted.ensures.serves.count c.close_all-provider.ensures c.serve_beside-accepted.ensures.pass c.serve_beside-accepted.ensures.follows,
    )

pub returns-clause-failed : goal.returns-clause-failed
returns-clause-failed g c = c.serve_beside-accepted.ensures.serves.accepts.faults.failed

pub returns-clause-faultless : goal.returns-clause-faultless
returns-clause-faultless g c = c.serve_beside-accepted.ensures.serves.accepts.faults.faultless

pub returns-clause-later : goal.returns-clause-later
returns-clause-later g c = c.serve_beside-accepted.ensures.serves.accepts.faults.later
