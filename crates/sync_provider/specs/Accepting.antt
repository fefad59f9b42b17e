-- How a search is accepted (RFC 4533, sections 3.3 and 3.4).
use Rattle.std.specs.Prelude.{◌≡◌, ℕ, ◌+◌, zero, suc, Bool, false, not, ◌&&◌, List, [], ◌∷◌, length, find, is_some, Option, Some, None, Result, Ok, Err, if◌then◌else◌}
use Rattle.std.specs.Ordering.{nat_cmp}
use Rattle.std.specs.BTreeMap.{insert_entry}
use Rattle.ldap_constants.specs.declared.result_codes.TheConstants.{PROTOCOL_ERROR, ADMIN_LIMIT_EXCEEDED, NO_SUCH_OBJECT, E_SYNC_REFRESH_REQUIRED}
use Rattle.csn_cookie.specs.Cookie.{is_blank}
use Rattle.dn_names.specs.Names.{is_at_or_below}
use Rattle.entry_tree.specs.Selection.{search_of}
use Rattle.sync_messages.specs.Request.{request_of}
use Rattle.sync_messages.specs.declared.fault.SyncFault.{SyncFault}
use Rattle.sync_messages.specs.declared.request.SyncRequest.{SyncRequest}
use Rattle.sync_model.specs.Stream.{Start}
use Rattle.sync_model.specs.Stream.Start.{InitialContent}
use Rattle.sync_wire.specs.Requesting.{persists}
use Rattle.directory_writes.specs.Directory.{DirectoryState}
use Rattle.directory_writes.specs.Starting.{prefix_of_cookie, start_at}
use Rattle.sync_provider.specs.HandingOut.{search_at}
use Rattle.sync_provider.specs.Search.{SearchState, opening}
use Rattle.sync_provider.specs.declared.searches.Accepted.{Accepted}
use Rattle.sync_provider.specs.declared.searches.Accepted.TheVariants.{Opened, Refused, NoMemory}
use Rattle.sync_provider.specs.declared.searches.SyncSearch.{SyncSearch}

-- ---- the number of a search

abbrev pub is_free : List (ℕ × SearchState) → ℕ → Bool
is_free searches number = not (is_some (search_at searches number))

-- n numbers from the first on
abbrev pub numbers_from : ℕ → ℕ → List ℕ
numbers_from first zero = []
numbers_from first (suc count) = first ∷ numbers_from (first + 1) count

-- the smallest number, of those up to 64, under which no search is open
abbrev pub free_number : List (ℕ × SearchState) → Option ℕ
free_number searches = find (is_free searches) (numbers_from 1 64)

-- ---- where it begins

abbrev pub start_of_request : DirectoryState → SyncRequest → Start
start_of_request d request = start_at d (prefix_of_cookie d request.cookie)

-- a control outside its grammar asks for nothing
abbrev pub start_of_read : DirectoryState → Result SyncRequest SyncFault → Start
start_of_read d (Err fault) = InitialContent
start_of_read d (Ok request) = start_of_request d request

abbrev pub start_of_ask : DirectoryState → SyncSearch → Start
start_of_ask d ask = start_of_read d (request_of ask.control)

-- ---- its mode

-- whether a search goes on after its refresh
abbrev pub persists_of_read : Result SyncRequest SyncFault → Bool
persists_of_read (Err fault) = false
persists_of_read (Ok request) = persists request.mode

abbrev pub persists_of_ask : SyncSearch → Bool
persists_of_ask ask = persists_of_read (request_of ask.control)

-- ---- what rejects it

-- a cookie that is not blank
abbrev pub has_cookie : Option (List ℕ) → Bool
has_cookie None = false
has_cookie (Some cookie) = not (is_blank cookie)

-- e-syncRefreshRequired where a cookie that is not servable is not to be left aside
abbrev pub code_by : (servable : Bool) → SyncRequest → Option ℕ
code_by servable request =
    if has_cookie request.cookie && (not servable && not request.reload_hint)
    then Some E_SYNC_REFRESH_REQUIRED
    else None

abbrev pub request_code : DirectoryState → SyncRequest → Option ℕ
request_code d request = code_by (is_some (prefix_of_cookie d request.cookie)) request

abbrev pub refused_or_opened : DirectoryState → ℕ → Option ℕ → Accepted
refused_or_opened d number None = Opened number (length d.writes)
refused_or_opened d number (Some code) = Refused code

-- adminLimitExceeded where no number is free, then the request's
abbrev pub numbered : DirectoryState → SyncRequest → Option ℕ → Accepted
numbered d request None = Refused ADMIN_LIMIT_EXCEEDED
numbered d request (Some number) = refused_or_opened d number (request_code d request)

-- protocolError where the control is outside its grammar, then noSuchObject where the base
-- is outside the suffix
abbrev pub answer_to_request :
    DirectoryState → List (ℕ × SearchState) → SyncSearch → Result SyncRequest SyncFault → Accepted
answer_to_request d searches ask (Err fault) = Refused PROTOCOL_ERROR
answer_to_request d searches ask (Ok request) =
    if is_at_or_below ask.spec.base d.suffix then numbered d request (free_number searches)
    else Refused NO_SUCH_OBJECT

-- the answer to a search, where memory suffices
abbrev pub answer_to : DirectoryState → List (ℕ × SearchState) → SyncSearch → Accepted
answer_to d searches ask = answer_to_request d searches ask (request_of ask.control)

-- what a call answered is this, unless memory ran out
abbrev pub AnswersAccept : Accepted → Accepted → Type 0
AnswersAccept NoMemory answer = Unit {0}
AnswersAccept (Refused code) answer = answer ≡ Refused code
AnswersAccept (Opened number writes) answer = answer ≡ Opened number writes

-- ---- the searches after it

abbrev pub opened :
    DirectoryState → List (ℕ × SearchState) → SyncSearch → ℕ → List (ℕ × SearchState)
opened d searches ask number =
    insert_entry nat_cmp searches number
    (opening d ask.id (search_of ask.spec) (start_of_ask d ask) (persists_of_ask ask))

abbrev pub after_answer :
    DirectoryState → List (ℕ × SearchState) → SyncSearch → Accepted → List (ℕ × SearchState)
after_answer d searches ask (Opened number writes) = opened d searches ask number
after_answer d searches ask (Refused code) = searches
after_answer d searches ask NoMemory = searches
