use Rattle.std.proofs.Common.{false, inl, inr, true, ap, refl, rules, ◌∙◌}
use Rattle.ldap_client.specs.Links.{link_by}
use Rattle.ldap_listener.specs.Sessions.{seen_by}
use Rattle.ldap_search.proofs.Called.{room_to_retire}
use Rattle.syncrepl_tool.proofs.EndedServing.{faults_between, faults_none, faults_of, opened_beside, room_after}
use Rattle.syncrepl_tool.specs.Serving.{net_view}
use Rattle.syncrepl_tool.proofs.serving.serve_following.Goals as goal

-- no caller came

pub returns-in-Err-clause-serves : goal.returns-in-Err-clause-serves
returns-in-Err-clause-serves g c = inl (inr (false, c.in-Err.ensures.served))

pub returns-in-Err-clause-faults : goal.returns-in-Err-clause-faults
returns-in-Err-clause-faults g c = faults_of c.in-Err.fault _ _ c.in-Err.ensures.failed c.in-Err.ensures.faultless c.in-Err.ensures.later

-- out of memory no link was asked for

pub returns-in_default-clause-serves : goal.returns-in_default-clause-serves
returns-in_default-clause-serves g c = inl (inr (true, ap g.N.Net.served c.in_default.ensures.err ∙ c.in-Ok.ensures.served))

pub returns-in_default-clause-faults : goal.returns-in_default-clause-faults
returns-in_default-clause-faults g c =
    faults_none _ _ _ refl (ap g.N.Net.net_fault_count c.in_default.ensures.err ∙ c.in-Ok.ensures.faultless (λ e. let never : ⊥ = cc in never))

-- the caller that came can be let go
pub let_go-requires : goal.let_go-requires
let_go-requires g c =
    let first = room_to_retire (g.N.Net.served c.args.net.now) _ c.in-Ok.ensures.served (g.met.N.Net.callers_within c.args.net.now) in
    let room = room_after _ _ _ _ c.in-Ok-serve_replica.ensures.serves.2.served.reported first in
    search rules

-- all connections were served

pub returns-in-Ok-accepted-clause-serves : goal.returns-in-Ok-accepted-clause-serves
returns-in-Ok-accepted-clause-serves g c =
    let done = c.in-Ok-serve_replica.replicated in
    let served = c.in-Ok-serve_replica.ensures.serves in
    let view =
    net_view (seen_by g.N.Link.Source.bytes_left g.N.Link.Source.bytes_read g.N.Link.Sink.bytes_held g.N.Link.Source.read_fault_count g.N.Link.Sink.write_fault_count)
    (link_by g.N.Caller.Link.Source.bytes_left g.N.Caller.Link.Source.bytes_read g.N.Caller.Link.Sink.bytes_held g.N.Caller.Link.Source.read_fault_count g.N.Caller.Link.Sink.write_fault_count)
    g.N.Caller.Dial.dialled in
    opened_beside view c.args.upstream.now (g.N.Net.served c.args.net.now) _ served.0 c.to_its_end.result (rw c.in-Ok-accepted.is at served.1)
    (record {
      first = g.N.Caller.Dial.dialled c.in-Ok.caller;
      came = c.in-Ok.ensures.next;
      caller = done.dial;
      end = done.end;
      may = tt;
      last = done.provider;
      between = g.N.Net.served c.serve_replica.new.net;
      serves = rw c.in-Ok.ensures.served at served.2;
      let_go = c.let_go.ensures.served;
    })
    c.to_its_end.ensures.ok

pub returns-in-Ok-accepted-clause-faults : goal.returns-in-Ok-accepted-clause-faults
returns-in-Ok-accepted-clause-faults g c =
    faults_none _ _ _ c.to_its_end.ensures.err
    (c.let_go.ensures.faults ∙ c.in-Ok-serve_replica.ensures.faultless (rw c.in-Ok-accepted.is (λ e. let never : ⊥ = cc in never)) ∙ c.in-Ok.ensures.faultless (λ e. let never : ⊥ = cc in never))

-- a link failed to come

pub returns-in-Err-accepted-clause-serves : goal.returns-in-Err-accepted-clause-serves
returns-in-Err-accepted-clause-serves g c =
    let done = c.in-Ok-serve_replica.replicated in
    let served = c.in-Ok-serve_replica.ensures.serves in
    inr (
      served.0,
      record {
        first = g.N.Caller.Dial.dialled c.in-Ok.caller;
        came = c.in-Ok.ensures.next;
        caller = done.dial;
        end = done.end;
        may = tt;
        last = done.provider;
        between = g.N.Net.served c.serve_replica.new.net;
        serves = rw c.in-Ok.ensures.served at served.2;
        let_go = c.let_go.ensures.served;
      },
    )

pub returns-in-Err-accepted-clause-faults : goal.returns-in-Err-accepted-clause-faults
returns-in-Err-accepted-clause-faults g c =
    let came = c.in-Ok.ensures.faultless (λ e. let never : ⊥ = cc in never) in
    let served = c.in-Ok-serve_replica.ensures in
    faults_between _ _ _ _ _ _ c.in-Err-accepted.is came c.let_go.ensures.faults served.failed served.faultless c.serve_replica.ensures.later
