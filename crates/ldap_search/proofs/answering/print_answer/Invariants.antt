use Rattle.std.proofs.Common.{◌≡◌, List, None}
use Rattle.ldap_client.specs.Clients.{client_by}
use Rattle.ldap_client.specs.Links.{LinkState, link_by}
use Rattle.ldap_messages.specs.Whole.{MessageValue}
use Rattle.ldap_search.specs.Steps.{IsPrinted}
use Rattle.ldap_search.specs.Talks.{OutputState, output_by}
use Rattle.ldap_search.proofs.answering.print_answer.Given as goal

-- what was printed at the start, and then more
abbrev pub invariant-loop : goal.invariant-loop
invariant-loop g l =
    let client = client_by (link_by g.L.Source.bytes_left g.L.Source.bytes_read g.L.Sink.bytes_held g.L.Source.read_fault_count g.L.Sink.write_fault_count) in
    let output = output_by g.O.Sink.bytes_held g.O.Sink.write_fault_count in
    ((client l.client).fault ≡ None)
    × ((client l.client).link.held ≡ (client l.fn.client).link.held)
    × ((first : LinkState) (start : OutputState) (messages : List MessageValue) → IsPrinted first start messages (client l.fn.client) (output l.fn.output)
    → (now : List MessageValue) × IsPrinted first start now (client l.client) (output l.output))
