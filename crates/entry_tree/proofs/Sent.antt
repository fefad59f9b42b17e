-- What a search asks for may go to another thread, and threads may share it.
--
-- A search filter holds itself, so no fact beside it says so of it: here it is shown from its
-- fields.
use denote.Param.Send.{IsSend, IsSync, sendable}
use Rattle.std.proofs.Crossing.{Box-send, Box-sync, Vec-send, Vec-sync}
use Rattle.ldap_ber.proofs.octets.Octets.TheSendSync as octets
use Rattle.dn_names.proofs.dn.Dn.TheSendSync as names
use Rattle.ldap_filter.proofs.equality.Equality.TheSendSync as equalities
use Rattle.ldap_filter.proofs.filter.Filter.TheLaws.TheKnot as filters
use Rattle.ldap_filter.proofs.filter.Pieces.TheSendSync as pieces
use Rattle.ldap_filter.specs.contracts.filter.Filter as Filter
use Rattle.entry_tree.proofs.spec.Scope.TheSendSync as scopes
use Rattle.entry_tree.specs.contracts.spec.Spec as Spec

filter_send : IsSend (Filter.the_field).row
filter_send = search (filters.send-Filter, octets.the_send, equalities.the_field_send, pieces.the_field_send, Box-send, Vec-send) depth 20

filter_sync : IsSync (Filter.the_field).row
filter_sync = search (filters.sync-Filter, octets.the_sync, equalities.the_field_sync, pieces.the_field_sync, Box-sync, Vec-sync) depth 20

-- what a search asks for may go to another thread with what holds it
pub spec_field_send : IsSend (Spec.the_field).row
spec_field_send = search (filter_send, names.the_send, scopes.the_field_send, sendable) depth 20

-- so may it by itself
pub spec_send : IsSend Spec.the_row
spec_send = search (filter_send, names.the_send, scopes.the_field_send, sendable) depth 20

-- threads may share it
pub spec_sync : IsSync Spec.the_row
spec_sync = search (filter_sync, names.the_sync, scopes.the_field_sync, sendable) depth 20
