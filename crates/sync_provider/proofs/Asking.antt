-- The answer to a search that is asked for, by what rejects it.
use Rattle.std.proofs.Common.{◌≡◌, ◌≢◌, ℕ, Bool, true, false, cond, List, length, Some, None, refl, ap, ◌∙◌}
use Rattle.std.specs.Prelude.{Ok}
use Rattle.ldap_constants.specs.declared.result_codes.TheConstants.{PROTOCOL_ERROR, ADMIN_LIMIT_EXCEEDED, NO_SUCH_OBJECT}
use Rattle.dn_names.specs.Names.{is_at_or_below}
use Rattle.sync_messages.specs.Faults.{SyncFails}
use Rattle.sync_messages.specs.Request.{request_of}
use Rattle.sync_messages.specs.declared.fault.SyncFault.{SyncFault}
use Rattle.sync_messages.specs.declared.fault.SyncFault.TheVariants as faults
use Rattle.sync_messages.specs.declared.request.SyncRequest.{SyncRequest}
use Rattle.sync_provider.specs.Accepting.{free_number, request_code, refused_or_opened, numbered, answer_to_request, answer_to}
use Rattle.directory_writes.specs.Directory.{DirectoryState}
use Rattle.sync_provider.specs.Search.{SearchState}
use Rattle.sync_provider.specs.declared.searches.Accepted.TheVariants.{Opened, Refused}
use Rattle.sync_provider.specs.declared.searches.SyncSearch.{SyncSearch}

abbrev Searches : Type 0
Searches = List (ℕ × SearchState)

-- ---- the control's value

-- a value outside its grammar is refused
pub value_refused : (d : DirectoryState) (es : Searches) (ask : SyncSearch) (fault : SyncFault) → fault ≢ faults.NoMemory → SyncFails fault (request_of ask.control)
    → answer_to d es ask ≡ Refused PROTOCOL_ERROR
value_refused d es ask (faults.Ber fault) other h = ap (answer_to_request d es ask) h
value_refused d es ask (faults.BadMode number) other h = ap (answer_to_request d es ask) h
value_refused d es ask (faults.BadUuidLength count) other h = ap (answer_to_request d es ask) h
value_refused d es ask (faults.BadState number) other h = ap (answer_to_request d es ask) h
value_refused d es ask faults.NoMemory other h = absurd (other refl)

-- a value that is read is answered as its request
pub value_read : (d : DirectoryState) (es : Searches) (ask : SyncSearch) (request : SyncRequest) → request_of ask.control ≡ Ok request
    → answer_to d es ask ≡ answer_to_request d es ask (Ok request)
value_read d es ask request h = ap (answer_to_request d es ask) h

-- ---- the base, the numbers and the request

base_outside : (d : DirectoryState) (es : Searches) (ask : SyncSearch) (request : SyncRequest) (b : Bool) → is_at_or_below ask.spec.base d.suffix ≡ b
    → answer_to_request d es ask (Ok request) ≡ cond b (numbered d request (free_number es)) (Refused NO_SUCH_OBJECT)
base_outside d es ask request b h = ap (λ inside. cond inside (numbered d request (free_number es)) (Refused NO_SUCH_OBJECT)) h

-- a base outside the suffix is refused with noSuchObject
pub outside : (d : DirectoryState) (es : Searches) (ask : SyncSearch) (request : SyncRequest) → is_at_or_below ask.spec.base d.suffix ≡ false
    → answer_to_request d es ask (Ok request) ≡ Refused NO_SUCH_OBJECT
outside d es ask request h = base_outside d es ask request false h

-- where no number is free, the search is refused
pub crowded : (d : DirectoryState) (es : Searches) (ask : SyncSearch) (request : SyncRequest) → is_at_or_below ask.spec.base d.suffix ≡ true → free_number es ≡ None
    → answer_to_request d es ask (Ok request) ≡ Refused ADMIN_LIMIT_EXCEEDED
crowded d es ask request h none = base_outside d es ask request true h ∙ ap (numbered d request) none

-- so it is where its cookie can't be served
pub opposed : (d : DirectoryState) (es : Searches) (ask : SyncSearch) (request : SyncRequest) (number code : ℕ) → is_at_or_below ask.spec.base d.suffix ≡ true
    → free_number es ≡ Some number → request_code d request ≡ Some code → answer_to_request d es ask (Ok request) ≡ Refused code
opposed d es ask request number code h free against =
    base_outside d es ask request true h ∙ ap (numbered d request) free ∙ ap (refused_or_opened d number) against

-- otherwise it is opened
pub admitted : (d : DirectoryState) (es : Searches) (ask : SyncSearch) (request : SyncRequest) (number : ℕ) → is_at_or_below ask.spec.base d.suffix ≡ true
    → free_number es ≡ Some number → request_code d request ≡ None → answer_to_request d es ask (Ok request) ≡ Opened number (length d.writes)
admitted d es ask request number h free against =
    base_outside d es ask request true h ∙ ap (numbered d request) free ∙ ap (refused_or_opened d number) against
