-- How a search of a script is accepted by its provider.
use Rattle.std.specs.Prelude.{ℕ, Bool, Result, Ok, Err, List, if◌then◌else◌}
use Rattle.std.specs.Ordering.{nat_cmp}
use Rattle.std.specs.BTreeMap.{insert_entry}
use Rattle.ldap_constants.specs.declared.result_codes.TheConstants.{PROTOCOL_ERROR, NO_SUCH_OBJECT}
use Rattle.dn_names.specs.Names.{is_at_or_below}
use Rattle.entry_tree.specs.Selection.{Search}
use Rattle.sync_messages.specs.Request.{request_of}
use Rattle.sync_messages.specs.declared.fault.SyncFault.{SyncFault}
use Rattle.sync_messages.specs.declared.request.SyncRequest.{SyncRequest}
use Rattle.sync_model.specs.Stream.{Start}
use Rattle.sync_provider.specs.Accepting.{numbered, free_number, start_of_read, persists_of_read}
use Rattle.sync_provider.specs.Machine.{ProviderState}
use Rattle.sync_provider.specs.Search.{opening}
use Rattle.sync_provider.specs.declared.searches.Accepted.{Accepted}
use Rattle.sync_provider.specs.declared.searches.Accepted.TheVariants as accepted

-- each message has this ID
abbrev pub message_id : ℕ
message_id = 1

-- what the provider answers to a search with this value of its control
abbrev pub answer_to_request : ProviderState → Search → Result SyncRequest SyncFault → Accepted
answer_to_request p spec (Err fault) = accepted.Refused PROTOCOL_ERROR
answer_to_request p spec (Ok request) =
    if is_at_or_below spec.base p.directory.suffix
    then numbered p.directory request (free_number p.searches)
    else accepted.Refused NO_SUCH_OBJECT

abbrev pub answer_to : ProviderState → Search → List ℕ → Accepted
answer_to p spec control = answer_to_request p spec (request_of control)

-- the provider with a search of that number, which begins there, and goes on after its
-- refresh or ends with it
abbrev pub with_opened : ProviderState → ℕ → Search → Start → (persists : Bool) → ProviderState
with_opened p number spec start persists =
    record p {
      searches = insert_entry nat_cmp p.searches number
          (opening p.directory message_id spec start persists);
    }

abbrev pub after_answer :
    ProviderState → Search → Start → (persists : Bool) → Accepted → ProviderState
after_answer p spec start persists (accepted.Opened number writes) =
    with_opened p number spec start persists
after_answer p spec start persists (accepted.Refused code) = p
after_answer p spec start persists accepted.NoMemory = p

-- the provider after such a search
abbrev pub after_accepted : ProviderState → Search → List ℕ → Accepted → ProviderState
after_accepted p spec control answer =
    after_answer p spec (start_of_read p.directory (request_of control))
    (persists_of_read (request_of control)) answer
