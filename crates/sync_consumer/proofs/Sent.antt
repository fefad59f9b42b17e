-- A consumer may go to another thread: this is shown of each part of it from its fields, since
-- shared maps and a search filter are among them.
use denote.Param.Send.{IsSend, sendable}
use Rattle.std.specs.contracts.option.Option as Option
use Rattle.std.proofs.Crossing.{Vec-send, Vec-sync}
use Rattle.std.proofs.option.Option.TheSendSync as option
use Rattle.ldap_ber.proofs.octets.Octets.TheSendSync as octets
use Rattle.ldap_ber.specs.contracts.octets.Octets as Octets
use Rattle.shared_map.proofs.Sent.{map_send}
use Rattle.entry_tree.proofs.Sent.{spec_field_send}
use Rattle.sync_messages.proofs.request.Mode.TheSendSync as modes
use Rattle.sync_consumer.proofs.stage.Load.TheSendSync as loads
use Rattle.sync_consumer.proofs.stage.StagedChange.TheSendSync as changes
use Rattle.sync_consumer.specs.contracts.consumer.Consumer as Consumer
use Rattle.sync_consumer.specs.contracts.entry_map.EntryMap as EntryMap
use Rattle.sync_consumer.specs.contracts.held.HeldContent as HeldContent
use Rattle.sync_consumer.specs.contracts.named.Named as Named
use Rattle.sync_consumer.specs.contracts.session.SyncSession as SyncSession
use Rattle.sync_consumer.specs.contracts.stage.Stage as Stage
use Rattle.sync_consumer.specs.contracts.weighed.WeighedEntries as WeighedEntries

-- ---- what a consumer holds

weighed_entries_send : IsSend WeighedEntries.the_row
weighed_entries_send = search (map_send, changes.the_send, changes.the_sync, sendable) depth 20

entry_map_send : IsSend EntryMap.the_row
entry_map_send = search (weighed_entries_send, map_send, Vec-send, Vec-sync, sendable) depth 20

cookie_field_send : IsSend (Option.the_field Octets.the_row).row
cookie_field_send = option.the_field_send Octets.the_row octets.the_send

held_content_field_send : IsSend (HeldContent.the_field).row
held_content_field_send = search (entry_map_send, cookie_field_send, sendable) depth 20

-- ---- its search

stage_send : IsSend Stage.the_row
stage_send = search (map_send, changes.the_send, changes.the_sync, loads.the_field_send, sendable) depth 20

named_send : IsSend Named.the_row
named_send = search (map_send, sendable) depth 20

session_send : IsSend SyncSession.the_row
session_send = search (stage_send, named_send, modes.the_field_send, sendable) depth 20

session_field_send : IsSend (Option.the_field SyncSession.the_row).row
session_field_send = option.the_field_send SyncSession.the_row session_send

-- a consumer may go to another thread
pub consumer_send : IsSend Consumer.the_row
consumer_send = search (spec_field_send, held_content_field_send, session_field_send, sendable) depth 20
