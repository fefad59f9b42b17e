use Rattle.std.proofs.Common.{refl, ◌∙◌, rules}
use Rattle.ldap_client.specs.Clients.{client_by}
use Rattle.ldap_client.specs.Links.{link_by}
use Rattle.replica_node.specs.Following.{replica_at, round_at}
use Rattle.replica_node.proofs.Ending.{follows_more, follows_none, follows_to_end}
use Rattle.replica_node.proofs.following.take_all.Goals as goal

pub take_next-requires : goal.take_next-requires
take_next-requires g c =
    let counted = c.loop.invariant.counted in
    let live = c.loop.invariant.live in
    search rules

pub loop-init : goal.loop-init
loop-init g c = record { live = c.requires.live; counted = c.requires.counted; home = refl; wanted = refl; follows = follows_none _ }

pub loop-preserved : goal.loop-preserved
loop-preserved g c =
    let state = link_by g.L.Source.bytes_left g.L.Source.bytes_read g.L.Sink.bytes_held g.L.Source.read_fault_count g.L.Sink.write_fault_count in
    let first = c.args in
    let at = c.loop in
    let now = c.take_next.new in
    record {
      live = c.in-None-take_next.ensures.live refl;
      counted = c.in-None-take_next.ensures.counted;
      home = c.in-None-take_next.ensures.home ∙ at.invariant.home;
      wanted = c.in-None-take_next.ensures.wanted ∙ at.invariant.wanted;
      follows = follows_more (round_at (client_by state first.client.now) (replica_at first.consumer.now.copy (g.P.Port.state first.port.now) first.stored.now))
          (round_at (client_by state at.client) (replica_at at.consumer.copy (g.P.Port.state at.port) at.stored))
          (round_at (client_by state now.client) (replica_at now.consumer.copy (g.P.Port.state now.port) now.stored)) at.invariant.follows c.in-None-take_next.ensures.takes;
    }

pub returns-in-Some-take_next-clause-takes : goal.returns-in-Some-take_next-clause-takes
returns-in-Some-take_next-clause-takes g c =
    let state = link_by g.L.Source.bytes_left g.L.Source.bytes_read g.L.Sink.bytes_held g.L.Source.read_fault_count g.L.Sink.write_fault_count in
    let first = c.args in
    let at = c.loop in
    let now = c.take_next.new in
    follows_to_end (round_at (client_by state first.client.now) (replica_at first.consumer.now.copy (g.P.Port.state first.port.now) first.stored.now))
    (round_at (client_by state at.client) (replica_at at.consumer.copy (g.P.Port.state at.port) at.stored))
    (round_at (client_by state now.client) (replica_at now.consumer.copy (g.P.Port.state now.port) now.stored)) c.in-Some-take_next.outcome at.invariant.follows c.in-Some-take_next.ensures.takes

pub returns-in-Some-take_next-clause-home : goal.returns-in-Some-take_next-clause-home
returns-in-Some-take_next-clause-home g c = c.in-Some-take_next.ensures.home ∙ c.loop.invariant.home

pub returns-in-Some-take_next-clause-wanted : goal.returns-in-Some-take_next-clause-wanted
returns-in-Some-take_next-clause-wanted g c = c.in-Some-take_next.ensures.wanted ∙ c.loop.invariant.wanted
