use Rattle.std.proofs.Common.{◌≤◌, refl, sym, ap, subst, rules}
use Rattle.entry_tree.specs.Selection.{search_of}
use Rattle.ldap_client.specs.Links.{link_by}
use Rattle.ldap_filter.specs.FilterTree.{depth}
use Rattle.sync_consumer.specs.Taking.{ConsumerState}
use Rattle.replica_node.specs.Rounds.{wanted_by}
use Rattle.replica_node.proofs.Rounding.{follows_wanting, none_followed}
use Rattle.replica_node.proofs.replica.run_replica.Goals as goal

pub run_rounds-requires : goal.run_rounds-requires
run_rounds-requires g c =
    let filter = subst (λ (s : ConsumerState). depth s.spec.filter ≤ 32) (sym c.in-Ok.ensures) c.requires in
    let empty = ap (λ (s : ConsumerState). s.copy) c.in-Ok.ensures in
    search rules

pub returns-in-Ok-clause-follows : goal.returns-in-Ok-clause-follows
returns-in-Ok-clause-follows g c =
    let state = link_by g.D.Link.Source.bytes_left g.D.Link.Source.bytes_read g.D.Link.Sink.bytes_held g.D.Link.Source.read_fault_count g.D.Link.Sink.write_fault_count in
    let upstream = c.args.upstream.now in
    follows_wanting state c.as_str-address.result.now upstream.address (wanted_by c.in-Ok.consumer) (record { spec = search_of upstream.spec; reload = upstream.reload_hint }) c.args.rounds
    (g.P.Port.state c.args.port.now) (g.P.Port.state c.run_rounds.new.port) (g.D.Dial.dialled c.args.dial.now) (g.D.Dial.dialled c.run_rounds.new.dial) c.run_rounds.result
    c.as_str-address.ensures (ap wanted_by c.in-Ok.ensures) c.run_rounds.ensures.follows

pub returns-in-Err-clause-follows : goal.returns-in-Err-clause-follows
returns-in-Err-clause-follows g c =
    let state = link_by g.D.Link.Source.bytes_left g.D.Link.Source.bytes_read g.D.Link.Sink.bytes_held g.D.Link.Source.read_fault_count g.D.Link.Sink.write_fault_count in
    let upstream = c.args.upstream.now in
    none_followed state upstream.address (record { spec = search_of upstream.spec; reload = upstream.reload_hint }) c.args.rounds (g.P.Port.state c.args.port.now) (g.D.Dial.dialled c.args.dial.now)
