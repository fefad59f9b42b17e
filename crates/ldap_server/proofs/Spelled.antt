-- What is handed out is of the grammar of messages.
use Rattle.std.proofs.Common.{ℕ, List, [], ◌∷◌, Option, None, Some, sym, subst}
use Rattle.ldap_messages.specs.Operation.{IsOfGrammar, operation_of}
use Rattle.ldap_messages.specs.declared.message.Message.{Message}
use Rattle.directory_writes.specs.Directory.{DirectoryState}
use Rattle.sync_model.specs.Message.{SyncMessage}
use Rattle.sync_model.specs.Message.SyncMessage.{AddOrModify, Delete, Present, IdSet, NewCookie, RefreshDelete, RefreshPresent, Done, Ignored}
use Rattle.sync_provider.specs.HandingOut.{HandOut, turn_of_message, turn_of_pending}
use Rattle.sync_provider.specs.HandingOut.HandOut.{Hands, Closes, Waits, Unknown}
use Rattle.sync_provider.specs.Ports.{PortState, FollowedSearch, HandOutReplies, pending_in, turn_in}
use Rattle.sync_provider.specs.declared.handed.Handed.TheVariants as handed
use Rattle.ldap_server.specs.Encoding.{operation_with}
use Rattle.ldap_server.specs.declared.response.Response.{Response}
use Rattle.ldap_server.specs.declared.response.Response.TheVariants as response

-- the message of a turn, if it has one, is of the grammar
abbrev IsOfTurn : HandOut → Type 0
IsOfTurn (Hands message) = IsOfGrammar message.1.0
IsOfTurn (Closes code message) = IsOfGrammar message.1.0
IsOfTurn Waits = Unit {0}
IsOfTurn Unknown = Unit {0}

of_message : (id : ℕ) (message : SyncMessage) → IsOfTurn (turn_of_message id message)
of_message id (AddOrModify adds entry cookie) = tt
of_message id (Delete uuid name cookie) = tt
of_message id (Present uuid cookie) = tt
of_message id (IdSet deletes uuids cookie) = tt
of_message id (NewCookie cookie) = tt
of_message id (RefreshDelete done cookie) = tt
of_message id (RefreshPresent done cookie) = tt
of_message id (Done code control) = tt
of_message id Ignored = tt

of_pending : (id : ℕ) (pending : List SyncMessage) → IsOfTurn (turn_of_pending id pending)
of_pending id [] = tt
of_pending id (message ∷ rest) = of_message id message

of_followed : (d : DirectoryState) (followed : Option FollowedSearch) → IsOfTurn (turn_in d followed)
of_followed d None = tt
of_followed d (Some f) = of_pending f.opened.id (pending_in d f)

-- a message of a search is of the grammar
pub message_spelled : (p new : PortState) (number : ℕ) (message : Message) → HandOutReplies p number (handed.Message message) new → IsOfGrammar (operation_of message.op)
message_spelled p new number message replies = subst IsOfTurn (sym replies.turn) (of_followed p.directory (p.followed number))

-- the last message of a search is
pub end_spelled : (p new : PortState) (number code : ℕ) (message : Message) → HandOutReplies p number (handed.Ended code message) new → IsOfGrammar (operation_of message.op)
end_spelled p new number code message replies = subst IsOfTurn (sym replies.turn) (of_followed p.directory (p.followed number))

-- a response with a code is
pub response_spelled : (kind : Response) (code : ℕ) → IsOfGrammar (operation_with kind code)
response_spelled response.Bind code = tt
response_spelled response.Add code = tt
response_spelled response.Delete code = tt
response_spelled response.Modify code = tt
response_spelled response.Rename code = tt
response_spelled response.Compare code = tt
response_spelled response.SearchDone code = tt
response_spelled response.Extended code = tt
