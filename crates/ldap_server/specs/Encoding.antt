-- What a session sends, as octets.
use Rattle.std.specs.Prelude.{ℕ, pos, List, [], Option, Some, None}
use Rattle.ldap_constants.specs.declared.object_identifiers.TheConstants.{NOTICE_OF_DISCONNECTION}
use Rattle.ldap_constants.specs.declared.result_codes.TheConstants.{PROTOCOL_ERROR}
use Rattle.ldap_messages.specs.Operation.{Operation, bind_response, search_done, modify_response, add_response, delete_response, rename_response, compare_response, extended_response}
use Rattle.ldap_messages.specs.Whole.{message_octets}
use Rattle.schema_rules.specs.declared.raw.Change.{Change}
use Rattle.schema_rules.specs.declared.raw.Change.TheVariants as change
use Rattle.sync_wire.specs.Sending.{result_of}
use Rattle.ldap_session.specs.Requests.{Request, Binds, Unbinds, Writes, Compares, Searches, Abandons, Extends, Responds}
use Rattle.ldap_server.specs.declared.response.Response.{Response}
use Rattle.ldap_server.specs.declared.response.Response.TheVariants.{Bind, Add, Delete, Modify, Rename, Compare, SearchDone, Extended}

-- a message with this operation and no control
abbrev pub message_with : ℕ → Operation → List ℕ
message_with id operation = message_octets (id, (operation, []))

-- ---- responses that carry a result code

abbrev pub operation_with : Response → ℕ → Operation
operation_with Bind code = bind_response (result_of (pos code), None)
operation_with Add code = add_response (result_of (pos code))
operation_with Delete code = delete_response (result_of (pos code))
operation_with Modify code = modify_response (result_of (pos code))
operation_with Rename code = rename_response (result_of (pos code))
operation_with Compare code = compare_response (result_of (pos code))
operation_with SearchDone code = search_done (result_of (pos code))
operation_with Extended code = extended_response (result_of (pos code), (None, None))

abbrev pub response_octets : ℕ → Response → ℕ → List ℕ
response_octets id response code = message_with id (operation_with response code)

-- the kind of response that answers a write
abbrev pub write_response : Change → Response
write_response (change.Add name attributes) = Add
write_response (change.Delete name) = Delete
write_response (change.Modify name edits) = Modify
write_response (change.Rename name rdn deletes_old superior) = Rename

-- the kind of response that answers a request; Abandon and Unbind have none, and what only a server
-- sends has none either
abbrev pub response_to : Request → Option Response
response_to (Binds version name authentication) = Some Bind
response_to Unbinds = None
response_to (Writes asked) = Some (write_response asked)
response_to (Compares entry name value) = Some Compare
response_to (Searches asked) = Some SearchDone
response_to (Abandons target) = None
response_to (Extends name value) = Some Extended
response_to Responds = None

abbrev pub octets_to : ℕ → Option Response → ℕ → List ℕ
octets_to id None code = []
octets_to id (Some response) code = response_octets id response code

-- ---- the Notice of Disconnection (RFC 4511, section 4.4.1)

-- with the code protocolError
abbrev pub notice : List ℕ
notice =
    message_with 0
    (extended_response (result_of (pos PROTOCOL_ERROR), (Some NOTICE_OF_DISCONNECTION.now, None)))
