-- The message of LDAP that each message of a synchronised search is sent as (RFC 4533,
-- sections 2.2 to 2.5).
use Rattle.std.specs.Prelude.{ℕ, ℤ, Bool, true, false, List, [], ◌∷◌, ◌++◌, map, Option, Some, None, codes}
use Rattle.std.specs.Int.{to_be_bytes, w128}
use Rattle.ldap_constants.specs.declared.object_identifiers.TheConstants.{SYNC_STATE, SYNC_DONE, SYNC_INFO}
use Rattle.uuid.specs.Text.{hyphenated_text, lower}
use Rattle.csn_cookie.specs.Csn.{csn_text}
use Rattle.schema_rules.specs.Attributes.{raw_of}
use Rattle.schema_rules.specs.declared.raw.RawAttribute.{RawAttribute}
use Rattle.dn_names.specs.Writing.{name_text}
use Rattle.entry_tree.specs.declared.entry.Entry.{Entry}
use Rattle.sync_messages.specs.declared.info.SyncInfo.{SyncInfo}
use Rattle.sync_messages.specs.declared.info.SyncInfo.TheVariants as info
use Rattle.sync_messages.specs.declared.state.State.{State}
use Rattle.sync_messages.specs.declared.state.State.TheVariants as state
use Rattle.sync_messages.specs.Done.{done_octets}
use Rattle.sync_messages.specs.Info.{info_octets}
use Rattle.sync_messages.specs.State.{state_octets}
use Rattle.ldap_parts.specs.declared.control.Control.{Control}
use Rattle.ldap_messages.specs.declared.ldap_result.LdapResult.{LdapResult}
use Rattle.ldap_messages.specs.Operation as operation
use Rattle.ldap_messages.specs.Operation.{Operation}
use Rattle.ldap_messages.specs.Whole.{MessageValue}
use Rattle.sync_model.specs.Message.{CookieText, SyncMessage}
use Rattle.sync_model.specs.Message.SyncMessage.{AddOrModify, Delete, Present, IdSet, NewCookie, RefreshDelete, RefreshPresent, Done, Ignored}

-- ---- the names of the controls and of the Sync Info message

abbrev pub state_name : List ℕ
state_name = SYNC_STATE.now

abbrev pub done_name : List ℕ
done_name = SYNC_DONE.now

abbrev pub info_name : List ℕ
info_name = SYNC_INFO.now

-- ---- controls, none of which is critical

abbrev pub state_control : State → ℕ → Option CookieText → Control
state_control kind uuid cookie =
    record {
      name = state_name;
      critical = false;
      value = Some (state_octets (record { state = kind; uuid = uuid; cookie = cookie }));
    }

abbrev pub done_control : Bool → Option CookieText → Control
done_control deletes cookie =
    record {
      name = done_name;
      critical = false;
      value = Some (done_octets (record { cookie = cookie; refresh_deletes = deletes }));
    }

-- ---- entries

-- 8-4-4-4-12 hexadecimal digits in lower case (RFC 9562, section 4)
unfoldable pub uuid_text : ℕ → List ℕ
uuid_text uuid = hyphenated_text lower (to_be_bytes w128 uuid)

abbrev pub single : List ℕ → List ℕ → RawAttribute
single name value = record { name = name; values = value ∷ [] }

-- the identity (RFC 4530) and the CSN of the last change, as attributes
abbrev pub operational_attributes_of : Entry → List RawAttribute
operational_attributes_of e =
    single (codes "entryUUID") (uuid_text e.uuid) ∷ single (codes "entryCSN") (csn_text e.csn) ∷ []

-- the attributes in the order held, then the operational ones
abbrev pub attributes_of : Entry → List RawAttribute
attributes_of e = map raw_of e.attrs ++ operational_attributes_of e

abbrev pub entry_of : Entry → Operation
entry_of e = operation.entry (name_text e.dn, attributes_of e)

-- ---- ends and other responses

-- a result with empty texts and no referral
abbrev pub result_of : ℤ → LdapResult
result_of code = record { code = code; matched_dn = []; diagnostic_message = []; referral = None }

abbrev pub done_controls : Option (Bool × Option CookieText) → List Control
done_controls None = []
done_controls (Some event) = done_control event.0 event.1 ∷ []

abbrev pub info_of : SyncInfo → Operation
info_of event = operation.intermediate (Some info_name, Some (info_octets event))

abbrev pub kind_of : Bool → State
kind_of true = state.Add
kind_of false = state.Modify

-- ---- the operation and the controls of a message. What says nothing is sent as an intermediate
-- response without a name

abbrev pub parts_of : SyncMessage → Operation × List Control
parts_of (AddOrModify adds entry cookie) =
    (entry_of entry, state_control (kind_of adds) entry.uuid cookie ∷ [])
parts_of (Delete uuid name cookie) =
    (operation.entry (name, []), state_control state.Delete uuid cookie ∷ [])
parts_of (Present uuid cookie) =
    (operation.entry ([], []), state_control state.Present uuid cookie ∷ [])
parts_of (IdSet deletes uuids cookie) = (info_of (info.IdSet cookie deletes uuids), [])
parts_of (NewCookie cookie) = (info_of (info.NewCookie cookie), [])
parts_of (RefreshDelete done cookie) = (info_of (info.RefreshDelete cookie done), [])
parts_of (RefreshPresent done cookie) = (info_of (info.RefreshPresent cookie done), [])
parts_of (Done code control) = (operation.search_done (result_of code), done_controls control)
parts_of Ignored = (operation.intermediate (None, None), [])

-- the message with this identifier
abbrev pub sent : ℕ → SyncMessage → MessageValue
sent id message = (id, parts_of message)
