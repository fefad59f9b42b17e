-- How a request is answered: what is asked of the port, what is sent, and what the session keeps.
use Rattle.std.specs.Prelude.{◌≡◌, ◌≢◌, ◌⊎◌, ℕ, ℤ, pos, Bool, true, false, List, [], ◌∷◌, ◌++◌, Option, Some, None, Result, Ok, Err, MatchBool, if◌then◌else◌, is_some, find}
use Rattle.std.specs.Ordering.{int_eq}
use Rattle.dn_names.specs.declared.fault.NameFault.{NameFault}
use Rattle.dn_names.specs.Names.{TypeAndValue}
use Rattle.dn_names.specs.Reading.{name_of_text}
use Rattle.entry_tree.specs.Reading.{read_change}
use Rattle.entry_tree.specs.Selection.{search_of}
use Rattle.entry_tree.specs.declared.op.Op.{Op}
use Rattle.entry_tree.specs.declared.spec.Spec.{Spec}
use Rattle.ldap_constants.specs.declared.object_identifiers.TheConstants.{SYNC_REQUEST}
use Rattle.ldap_constants.specs.declared.result_codes.TheConstants.{CANCELED, INSUFFICIENT_ACCESS_RIGHTS, INVALID_DN_SYNTAX, NO_SUCH_OBJECT, NO_SUCH_OPERATION, OTHER, PROTOCOL_ERROR, SIZE_LIMIT_EXCEEDED, SUCCESS, UNAVAILABLE_CRITICAL_EXTENSION}
use Rattle.ldap_messages.specs.declared.bind.Authentication.{Authentication}
use Rattle.ldap_parts.specs.Controls.{control_named}
use Rattle.ldap_parts.specs.declared.control.Control.{Control}
use Rattle.schema_rules.specs.declared.raw.Change.{Change}
use Rattle.sync_provider.specs.Ports.{PortState}
use Rattle.sync_provider.specs.declared.searches.Accepted.{Accepted}
use Rattle.sync_provider.specs.declared.searches.Accepted.TheVariants as accepted
use Rattle.sync_provider.specs.declared.searches.SyncSearch.{SyncSearch}
use Rattle.sync_provider.specs.declared.searching.PlainSearch.{PlainSearch}
use Rattle.sync_provider.specs.declared.searching.SearchReply.{SearchReply}
use Rattle.sync_provider.specs.declared.searching.SearchReply.TheVariants as found
use Rattle.sync_provider.specs.declared.writing.Reply.{Reply}
use Rattle.sync_wire.specs.Requesting.{scope_number}
use Rattle.ldap_session.specs.Binding.{bind_code, binds_as, may_write}
use Rattle.ldap_session.specs.Cancelling.{is_cancel, target_of}
use Rattle.ldap_session.specs.Requests.{SearchParametersValue, Request, Binds, Unbinds, Writes, Compares, Searches, Abandons, Extends, Responds, has_unknown_critical, is_search}
use Rattle.ldap_session.specs.declared.access.Access.{Access}
use Rattle.ldap_server.specs.Encoding.{octets_to, response_octets, response_to, write_response, notice}
use Rattle.ldap_server.specs.PortCalls.{PortCall, Exchanged, Wrote, Searched, Compared, Asked, Dropped}
use Rattle.ldap_server.specs.Selecting.{entries_and_done}
use Rattle.ldap_server.specs.SessionState.{SessionState, search_with, without}
use Rattle.ldap_server.specs.declared.session_search.SessionSearch.{SessionSearch}
use Rattle.ldap_server.specs.declared.response.Response.{Response}
use Rattle.ldap_server.specs.declared.response.Response.TheVariants.{Bind, Compare, SearchDone, Extended}

-- a name that was read, or why it is none
abbrev pub NameOrFault : Type 0
NameOrFault = Result (List (List TypeAndValue)) NameFault

-- what is no name is rejected with invalidDNSyntax
abbrev pub name_code : NameOrFault → Option ℕ
name_code (Ok dn) = None
name_code (Err fault) = Some INVALID_DN_SYNTAX

-- the code that rejects a name; other stands for out of memory
abbrev pub IsRefusedName : NameOrFault → ℕ → Type 0
IsRefusedName name code = code ≢ OTHER → name_code name ≡ Some code

-- nothing is asked, this is sent, and the session stays as it is
pub record SendsOnly
    (octets : List ℕ)
    (old : SessionState) (asked : List PortCall) (sent : List ℕ) (new : SessionState) : Type 0 where
  pub none : asked ≡ []
  pub sent_is : sent ≡ octets
  pub same : new ≡ old

-- ---- a code that comes of what is asked

-- some questions were asked, and a code comes of the replies
pub record FindsCode
    (Gives : List PortCall → ℕ → Type 0) (old : PortState) (code : ℕ) (new : PortState)
    : Type 0 where
  pub asked : List PortCall
  pub gives : Gives asked code
  pub exchanged : Exchanged old asked new

-- the code is sent in a response of this kind, and the session stays as it is
pub record AnswersCode
    (Gives : List PortCall → ℕ → Type 0) (id : ℕ) (response : Response)
    (old : SessionState) (asked : List PortCall) (sent : List ℕ) (new : SessionState) : Type 0 where
  pub code : ℕ
  pub gives : Gives asked code
  pub sent_is : sent ≡ response_octets id response code
  pub same : new ≡ old

-- nothing is asked
abbrev pub Unasked : ℕ → List PortCall → ℕ → Type 0
Unasked answer asked code = (asked ≡ []) × (code ≡ answer)

-- where memory runs out before the port is asked, the code is other
abbrev pub OrOther : Type 0 → List PortCall → ℕ → Type 0
OrOther Gives asked code = Gives ⊎ Unasked OTHER asked code

-- ---- writes

-- a change that is read is asked for
abbrev pub WriteGives : Result Op ℕ → ℕ → List PortCall → ℕ → Type 0
WriteGives (Err code) now asked answer = Unasked code asked answer
WriteGives (Ok op) now asked answer =
    (reply : Reply) × (asked ≡ Wrote op now reply ∷ []) × (answer ≡ reply.code)

abbrev pub ChangeGives : Bool → Change → ℕ → List PortCall → ℕ → Type 0
ChangeGives may change now asked code =
    MatchBool may (OrOther (WriteGives (read_change change) now asked code) asked code)
    (Unasked INSUFFICIENT_ACCESS_RIGHTS asked code)

-- ---- comparisons

abbrev pub NamedGives : NameOrFault → (name value : List ℕ) → List PortCall → ℕ → Type 0
NamedGives (Err fault) name value asked code = Unasked INVALID_DN_SYNTAX asked code
NamedGives (Ok dn) name value asked code = asked ≡ Compared dn name value code ∷ []

abbrev pub CompareGives : (entry name value : List ℕ) → List PortCall → ℕ → Type 0
CompareGives entry name value asked code =
    OrOther (NamedGives (name_of_text entry) name value asked code) asked code

-- ---- searches that are dropped

-- one after the other
abbrev pub Drops : List SessionSearch → List PortCall → Type 0
Drops [] asked = asked ≡ []
Drops (search ∷ searches) asked =
    (was_open : Bool) × (more : List PortCall) × (asked ≡ Dropped search.number was_open ∷ more)
    × Drops searches more

-- these searches were dropped at a port
pub record DropsAll (searches : List SessionSearch) (old new : PortState) : Type 0 where
  pub asked : List PortCall
  pub drops : Drops searches asked
  pub exchanged : Exchanged old asked new

-- ---- binds

-- the open searches are dropped without an answer, whatever the code
pub record BindAnswer
    (access : Access) (id version : ℕ) (name : List ℕ) (authentication : Authentication)
    (old : SessionState) (asked : List PortCall) (sent : List ℕ) (new : SessionState) : Type 0 where
  pub drops : Drops old.searches asked
  pub sent_is :
      sent ≡ response_octets id Bind (bind_code access version name authentication)
  pub new_is : new ≡ record {
    bound = binds_as (bind_code access version name authentication) authentication;
    searches = [];
  }

-- ---- plain searches

-- the specification that is asked about
pub record IsSpec
    (spec : Spec) (base : List (List TypeAndValue)) (asked : SearchParametersValue) : Type 0 where
  pub base_is : spec.base ≡ base
  pub scope_is : scope_number spec.scope ≡ asked.scope
  pub filter_is : (search_of spec).filter ≡ asked.filter

-- the entries that were found, and the end
abbrev pub reply_octets : ℕ → List (List ℕ) → Bool → SearchReply → List ℕ
reply_octets id selectors types_only (found.Found entries) =
    entries_and_done id selectors types_only entries SUCCESS
reply_octets id selectors types_only (found.Over entries) =
    entries_and_done id selectors types_only entries SIZE_LIMIT_EXCEEDED
reply_octets id selectors types_only found.NoSuchBase =
    response_octets id SearchDone NO_SUCH_OBJECT
reply_octets id selectors types_only found.NoMemory = response_octets id SearchDone OTHER

-- one question is asked, and its reply is sent
pub record Finds
    (ask : PlainSearch) (id : ℕ) (selectors : List (List ℕ)) (types_only : Bool)
    (old : SessionState) (asked : List PortCall) (sent : List ℕ) (new : SessionState) : Type 0 where
  pub reply : SearchReply
  pub asked_is : asked ≡ Searched ask reply ∷ []
  pub sent_is : sent ≡ reply_octets id selectors types_only reply
  pub same : new ≡ old

pub record PlainAnswer
    (id : ℕ) (base : List (List TypeAndValue)) (s : SearchParametersValue)
    (old : SessionState) (asked : List PortCall) (sent : List ℕ) (new : SessionState) : Type 0 where
  pub ask : PlainSearch
  pub spec : IsSpec ask.spec base s
  pub limit : ask.size_limit ≡ s.size_limit
  pub finds : Finds ask id s.selectors s.types_only old asked sent new

-- ---- searches with content synchronisation

-- a control without a value counts as one outside its grammar, as the empty value is
abbrev pub value_or_empty : Option (List ℕ) → List ℕ
value_or_empty None = []
value_or_empty (Some value) = value

-- an opened search is not answered yet
abbrev pub accepted_octets : ℕ → Accepted → List ℕ
accepted_octets id (accepted.Opened number writes) = []
accepted_octets id (accepted.Refused code) = response_octets id SearchDone code
accepted_octets id accepted.NoMemory = response_octets id SearchDone OTHER

abbrev pub after_accepted : SessionState → ℕ → Accepted → SessionState
after_accepted old id (accepted.Opened number writes) = record {
  bound = old.bound;
  searches = old.searches ++ (record { id = id; number = number }) ∷ [];
}
after_accepted old id (accepted.Refused code) = old
after_accepted old id accepted.NoMemory = old

-- one question is asked; the search that it opens is one of the session's
pub record Opens
    (ask : SyncSearch)
    (old : SessionState) (asked : List PortCall) (sent : List ℕ) (new : SessionState) : Type 0 where
  pub reply : Accepted
  pub asked_is : asked ≡ Asked ask reply ∷ []
  pub sent_is : sent ≡ accepted_octets ask.id reply
  pub new_is : new ≡ after_accepted old ask.id reply

pub record SyncAnswer
    (id : ℕ) (base : List (List TypeAndValue)) (s : SearchParametersValue) (control : Control)
    (old : SessionState) (asked : List PortCall) (sent : List ℕ) (new : SessionState) : Type 0 where
  pub ask : SyncSearch
  pub spec : IsSpec ask.spec base s
  pub id_is : ask.id ≡ id
  pub control_is : ask.control ≡ value_or_empty control.value
  pub opens : Opens ask old asked sent new

-- ---- searches, whichever

abbrev pub SelectedAnswer : ℕ → List (List TypeAndValue) → SearchParametersValue → Option Control
    → SessionState → List PortCall → List ℕ → SessionState → Type 0
SelectedAnswer id base s None old asked sent new = PlainAnswer id base s old asked sent new
SelectedAnswer id base s (Some control) old asked sent new =
    SyncAnswer id base s control old asked sent new

abbrev pub BasedAnswer : ℕ → NameOrFault → SearchParametersValue → List Control
    → SessionState → List PortCall → List ℕ → SessionState → Type 0
BasedAnswer id (Err fault) s controls old asked sent new =
    SendsOnly (response_octets id SearchDone INVALID_DN_SYNTAX) old asked sent new
BasedAnswer id (Ok base) s controls old asked sent new =
    SelectedAnswer id base s (control_named SYNC_REQUEST.now controls) old asked sent new

-- where memory runs out before the port is asked, the code is other
abbrev pub OrSendsOther : ℕ → (SessionState → List PortCall → List ℕ → SessionState → Type 0)
    → SessionState → List PortCall → List ℕ → SessionState → Type 0
OrSendsOther id Act old asked sent new =
    Act old asked sent new ⊎ SendsOnly (response_octets id SearchDone OTHER) old asked sent new

abbrev pub SearchAnswer : ℕ → SearchParametersValue → List Control
    → SessionState → List PortCall → List ℕ → SessionState → Type 0
SearchAnswer id s controls old asked sent new =
    OrSendsOther id (BasedAnswer id (name_of_text s.base) s controls) old asked sent new

-- ---- abandoned and cancelled searches

-- the open search whose message ID this is
abbrev pub search_of_id : ℤ → List SessionSearch → Option SessionSearch
search_of_id target searches = find (λ search. int_eq (pos search.id) target) searches

-- this search is dropped
pub record DropsOne
    (search : SessionSearch) (octets : List ℕ)
    (old : SessionState) (asked : List PortCall) (sent : List ℕ) (new : SessionState) : Type 0 where
  pub drops : Drops (search ∷ []) asked
  pub sent_is : sent ≡ octets
  pub new_is : new ≡ record { bound = old.bound; searches = without search.id old.searches }

abbrev pub AbandonAnswer : Option SessionSearch
    → SessionState → List PortCall → List ℕ → SessionState → Type 0
AbandonAnswer None old asked sent new = SendsOnly [] old asked sent new
AbandonAnswer (Some search) old asked sent new = DropsOne search [] old asked sent new

-- the search ends with canceled, and then the operation is answered (RFC 3909, section 2)
abbrev pub CancelAnswer : ℕ → Option SessionSearch
    → SessionState → List PortCall → List ℕ → SessionState → Type 0
CancelAnswer id None old asked sent new =
    SendsOnly (response_octets id Extended NO_SUCH_OPERATION) old asked sent new
CancelAnswer id (Some search) old asked sent new =
    DropsOne search
    (response_octets search.id SearchDone CANCELED ++ response_octets id Extended SUCCESS)
    old asked sent new

abbrev pub TargetAnswer : ℕ → Option ℤ
    → SessionState → List PortCall → List ℕ → SessionState → Type 0
TargetAnswer id None old asked sent new =
    SendsOnly (response_octets id Extended PROTOCOL_ERROR) old asked sent new
TargetAnswer id (Some target) old asked sent new =
    CancelAnswer id (search_of_id target old.searches) old asked sent new

abbrev pub ExtendedAnswer : ℕ → (name : List ℕ) → (value : Option (List ℕ))
    → SessionState → List PortCall → List ℕ → SessionState → Type 0
ExtendedAnswer id name value old asked sent new =
    MatchBool (is_cancel name) (TargetAnswer id (target_of value) old asked sent new)
    (SendsOnly (response_octets id Extended PROTOCOL_ERROR) old asked sent new)

-- ---- a request, whichever

abbrev pub RequestAnswer : Access → ℕ → Request → List Control → (now : ℕ)
    → SessionState → List PortCall → List ℕ → SessionState → Type 0
RequestAnswer access id (Binds version name authentication) controls now old asked sent new =
    BindAnswer access id version name authentication old asked sent new
RequestAnswer access id Unbinds controls now old asked sent new = SendsOnly [] old asked sent new
RequestAnswer access id (Writes change) controls now old asked sent new =
    AnswersCode (ChangeGives (may_write access old.bound) change now) id (write_response change)
    old asked sent new
RequestAnswer access id (Compares entry name value) controls now old asked sent new =
    AnswersCode (CompareGives entry name value) id Compare old asked sent new
RequestAnswer access id (Searches s) controls now old asked sent new =
    SearchAnswer id s controls old asked sent new
RequestAnswer access id (Abandons target) controls now old asked sent new =
    AbandonAnswer (search_of_id target old.searches) old asked sent new
RequestAnswer access id (Extends name value) controls now old asked sent new =
    ExtendedAnswer id name value old asked sent new
RequestAnswer access id Responds controls now old asked sent new =
    SendsOnly notice old asked sent new

-- ---- what is tested first

-- an Unbind has no test, and what only a server sends is refused before any
abbrev pub is_tested : Request → Bool
is_tested (Binds version name authentication) = true
is_tested Unbinds = false
is_tested (Writes change) = true
is_tested (Compares entry name value) = true
is_tested (Searches s) = true
is_tested (Abandons target) = true
is_tested (Extends name value) = true
is_tested Responds = false

-- protocolError where the message ID is that of an open search, unavailableCriticalExtension
-- where a critical control is not known for the operation
abbrev pub first_code : SessionState → ℕ → Request → List Control → Option ℕ
first_code old id request controls =
    if is_some (search_with id old.searches) then Some PROTOCOL_ERROR else
    if has_unknown_critical (is_search request) controls then Some UNAVAILABLE_CRITICAL_EXTENSION
    else None

abbrev pub tested_code : SessionState → ℕ → Request → List Control → Option ℕ
tested_code old id request controls =
    if is_tested request then first_code old id request controls else None

-- a request with such a code is answered with it, and does nothing else
abbrev pub CheckedAnswer : Access → ℕ → Request → List Control → (now : ℕ) → Option ℕ
    → SessionState → List PortCall → List ℕ → SessionState → Type 0
CheckedAnswer access id request controls now None old asked sent new =
    RequestAnswer access id request controls now old asked sent new
CheckedAnswer access id request controls now (Some code) old asked sent new =
    SendsOnly (octets_to id (response_to request) code) old asked sent new

abbrev pub Answer : Access → ℕ → Request → List Control → (now : ℕ)
    → SessionState → List PortCall → List ℕ → SessionState → Type 0
Answer access id request controls now old asked sent new =
    CheckedAnswer access id request controls now (tested_code old id request controls)
    old asked sent new
