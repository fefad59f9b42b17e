use Rattle.std.proofs.Common.{arith, refl, subst, sym}
use Rattle.ldap_messages.specs.declared.protocol.Protocol.{Protocol}
use Rattle.ldap_messages.specs.Operation.{IsOfGrammar, operation_of}
use Rattle.message_tests.proofs.requests.is_plain_search.Goals as goal

-- the grammar asks of a search that its numbers are within their ranges, and that its filter is not too deep
pub returns-then-are_zero : goal.returns-then-are_zero
unfolding operation_of
returns-then-are_zero c = λ t.
    let zero = c.if-are_zero.ensures refl in
    let deref = zero.0 in
    let size = zero.1 in
    let time = zero.2 in
    subst (λ (p : Protocol). IsOfGrammar (operation_of p)) (sym c.in-SearchRequest.is)
    (omega (arith, deref), omega (arith, size), omega (arith, time), c.is_presence.ensures t)
