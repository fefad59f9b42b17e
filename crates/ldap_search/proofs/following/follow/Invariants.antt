use Rattle.std.proofs.Common.{List}
use Rattle.entry_tree.specs.Selection.{search_of}
use Rattle.ldap_client.specs.Clients.{client_by}
use Rattle.ldap_client.specs.Links.{link_by}
use Rattle.ldap_search.specs.Copies.{TakenMessage}
use Rattle.ldap_search.specs.Steps.{IsFollowed}
use Rattle.ldap_search.specs.Talks.{output_by}
use Rattle.ldap_search.proofs.following.follow.Given as goal

-- the messages that were taken so far
abbrev pub invariant-loop : goal.invariant-loop
invariant-loop g l =
    let client = client_by (link_by g.L.Source.bytes_left g.L.Source.bytes_read g.L.Sink.bytes_held g.L.Source.read_fault_count g.L.Sink.write_fault_count) in
    let output = output_by g.O.Sink.bytes_held g.O.Sink.write_fault_count in
    (messages : List TakenMessage)
    × IsFollowed (search_of l.fn.spec) l.fn.count (client l.fn.client).link (output l.fn.output) messages l.wanted (client l.client) l.consumer (output l.output)
