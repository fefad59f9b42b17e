-- Operations without where they lie in memory.
use Rattle.std.proofs.Common.{◌≡◌, ℕ, List, Option, refl}
use Rattle.schema_rules.specs.declared.raw.RawAttribute.{RawAttribute}
use Rattle.ldap_filter.specs.FilterTree.{tree_of}
use Rattle.ldap_messages.specs.declared.ldap_result.LdapResult.{LdapResult}
use Rattle.ldap_messages.specs.declared.search.SearchRequest.{SearchRequest}
use Rattle.ldap_messages.specs.declared.protocol.Protocol.TheVariants as op
use Rattle.ldap_messages.specs.Operation as operation
use Rattle.ldap_messages.specs.Search.{scope_number}
use Rattle.ldap_messages.specs.Operation.{operation_of}

-- the operation of a SearchResultDone
pub done_operation : (result : LdapResult) → operation_of (op.SearchResultDone result) ≡ operation.search_done result
unfolding operation_of
done_operation result = refl

-- the operation of a SearchResultEntry
pub entry_operation : (name : List ℕ) (raws : List RawAttribute) → operation_of (op.SearchResultEntry name raws) ≡ operation.entry (name, raws)
unfolding operation_of
entry_operation name raws = refl

-- the operation of a SearchRequest
pub search_operation : (asked : SearchRequest) → operation_of (op.SearchRequest asked)
    ≡ operation.search ((asked.base, (scope_number asked.scope, (asked.deref, (asked.size_limit, (asked.time_limit, asked.types_only))))), (tree_of asked.filter, asked.attributes))
unfolding operation_of
search_operation asked = refl

-- the operation of an IntermediateResponse
pub info_operation : (name value : Option (List ℕ)) → operation_of (op.IntermediateResponse name value) ≡ operation.intermediate (name, value)
unfolding operation_of
info_operation name value = refl
