-- What goes on between a consumer and its provider: the state of the two after each part of an
-- event, and the lines that it reports.
use Rattle.std.specs.Prelude.{ℕ, zero, suc, ◌+◌, Bool, true, false, ◌&&◌, ◌||◌, not, ◌==◌, is_some, nat_le, pos, Option, Some, None, Result, Ok, Err, List, [], ◌∷◌, ◌++◌, length, if◌then◌else◌}
use Rattle.ldap_constants.specs.declared.result_codes.TheConstants.{E_SYNC_REFRESH_REQUIRED}
use Rattle.csn_cookie.specs.Cookie.{cookie_of_text}
use Rattle.csn_cookie.specs.Csn.{CsnValue, upto}
use Rattle.csn_cookie.specs.declared.cookie.Cookie.{Cookie}
use Rattle.ldap_messages.specs.Whole.{MessageValue, message_octets}
use Rattle.entry_tree.specs.Selection.{Search, search_of}
use Rattle.sync_messages.specs.declared.request.Mode.{Mode}
use Rattle.sync_messages.specs.declared.request.Mode.TheVariants.{RefreshOnly}
use Rattle.sync_messages.specs.declared.request.SyncRequest.{SyncRequest}
use Rattle.sync_model.specs.Copy.{Commit, Copy, asked}
use Rattle.sync_model.specs.Message.SyncMessage.{Done}
use Rattle.sync_model.specs.Stream.{Start}
use Rattle.sync_consumer.specs.Taking.{asked_of, is_persisting, wanting, without_search}
use Rattle.sync_wire.specs.Requesting.{persists}
use Rattle.sync_wire.specs.Sending as wire
use Rattle.directory_writes.specs.Starting.{start_at, prefix_of_cookie}
use Rattle.directory_writes.specs.Directory.{DirectoryState, csns}
use Rattle.sync_provider.specs.HandingOut.{HandOut, turn_at, search_at}
use Rattle.sync_provider.specs.HandingOut.HandOut.{Hands, Closes, Waits, Unknown}
use Rattle.sync_provider.specs.Machine.{ProviderState, handed_out, dropped}
use Rattle.sync_provider.specs.Search.{SearchState, pending}
use Rattle.sync_provider.specs.declared.searches.Accepted.{Accepted}
use Rattle.sync_provider.specs.declared.searches.Accepted.TheVariants as accepted
use Rattle.cascade_script.specs.declared.fault.Cause.{Cause}
use Rattle.cascade_script.specs.declared.fault.Cause.TheVariants.{LaterCookie, LimitReached}
use Rattle.cascade_exchange.specs.declared.exchange.Exchange.{Exchange}
use Rattle.cascade_exchange.specs.declared.exchange.Exchange.TheVariants as goes
use Rattle.cascade_nodes.specs.declared.node.ConsumerNode.{ConsumerNode}
use Rattle.cascade_exchange.specs.Cookies.{is_later}
use Rattle.cascade_exchange.specs.Reception.{Came, received, received_of}
use Rattle.cascade_exchange.specs.Reception.{Came as came}
use Rattle.cascade_nodes.specs.Link.{most_link, link_size}
use Rattle.cascade_nodes.specs.Opening.{message_id, answer_to_request, with_opened}
use Rattle.cascade_report.specs.Origins.{Lineage, origin_of}
use Rattle.cascade_report.specs.ReportLines.{Storing, ReportLine}
use Rattle.cascade_report.specs.ReportLines.{ReportLine as reported}

-- a provider and one of its consumers, and where the provider's content is from, which nothing
-- between the two changes
pub record Agreement : Type 0 where
  pub provider : ProviderState
  pub consumer_node : ConsumerNode
  pub lineage : Lineage

abbrev pub agreement_of : ProviderState → ConsumerNode → Lineage → Agreement
agreement_of provider consumer_node lineage =
    record { provider = provider; consumer_node = consumer_node; lineage = lineage }

-- the two after a part of an event with the lines that it reported, or why the event is refused
abbrev pub ExchangeOutcome : Type 0
ExchangeOutcome = Result (Agreement × List ReportLine) Cause

abbrev pub after_lines : List ReportLine → ExchangeOutcome → ExchangeOutcome
after_lines lines (Ok next) = Ok (next.0, lines ++ next.1)
after_lines lines (Err cause) = Err cause

-- one part after another
abbrev pub and_then : ExchangeOutcome → (Agreement → ExchangeOutcome) → ExchangeOutcome
and_then (Ok first) next = after_lines first.1 (next first.0)
and_then (Err cause) next = Err cause

abbrev pub name_of : Agreement → List ℕ
name_of pair = pair.consumer_node.name

abbrev pub copy_of : ConsumerNode → Copy
copy_of consumer_node = consumer_node.consumer.copy

abbrev pub with_copy : ConsumerNode → Copy → ConsumerNode
with_copy consumer_node copy =
    record consumer_node { consumer = record consumer_node.consumer { copy = copy } }

-- ---- sending

-- one message goes into the link; or nothing is pending; or the link has no
-- room for what is pending
pub data Sending : Type 0 where
  Sends : (after : Agreement) (message : List ℕ) → Sending
  Rests : Sending
  Overflows : Sending

-- what the search of this number hands out next
abbrev pub turn_of : ProviderState → Option ℕ → HandOut
turn_of p None = Unknown
turn_of p (Some number) = turn_at p.directory p.searches number

abbrev pub handed : ProviderState → Option ℕ → ProviderState
handed p None = p
handed p (Some number) = handed_out p number

-- the message stands at the end of the link, and this search is open then
abbrev pub linked : ConsumerNode → Option ℕ → List ℕ → ConsumerNode
linked consumer_node search message =
    record consumer_node { link = consumer_node.link ++ message ∷ []; search = search }

abbrev pub fits : ConsumerNode → List ℕ → Bool
fits consumer_node message = nat_le (link_size consumer_node.link + length message) most_link

abbrev pub sends : Agreement → Option ℕ → List ℕ → Sending
sends pair search message =
    if fits pair.consumer_node message
    then Sends (record pair {
      provider = handed pair.provider pair.consumer_node.search;
      consumer_node = linked pair.consumer_node search message;
    }) message
    else Overflows

-- a message is sent in its canonical spelling; with the last one the search is closed
abbrev pub sending_by : Agreement → HandOut → Sending
sending_by pair (Hands whole) = sends pair pair.consumer_node.search (message_octets whole)
sending_by pair (Closes code whole) = sends pair None (message_octets whole)
sending_by pair Waits = Rests
sending_by pair Unknown = Rests

abbrev pub sending : Agreement → Sending
sending pair = sending_by pair (turn_of pair.provider pair.consumer_node.search)

abbrev pub sent_before : (Agreement → ExchangeOutcome) → Agreement → Sending → ExchangeOutcome
sent_before next pair (Sends after message) =
    after_lines (reported.Sent (name_of pair) message ∷ []) (next after)
sent_before next pair Rests = Ok (pair, reported.Nothing (name_of pair) ∷ [])
sent_before next pair Overflows = Err (LimitReached most_link)

-- n messages, up to where nothing is pending
abbrev pub sent : ℕ → Agreement → ExchangeOutcome
sent zero pair = Ok (pair, [])
sent (suc count) pair = sent_before (λ after. sent count after) pair (sending pair)

-- ---- taking

-- the search is closed, and what the link and the stage hold is dropped
abbrev pub closed : ProviderState → Option ℕ → ProviderState
closed p None = p
closed p (Some number) = dropped p number

abbrev pub emptied : ConsumerNode → Copy → ConsumerNode
emptied consumer_node copy =
    record (with_copy consumer_node (without_search copy)) { link = []; search = None }

abbrev pub given_up : Agreement → Copy → Agreement
given_up pair copy =
    record pair {
      provider = closed pair.provider pair.consumer_node.search;
      consumer_node = emptied pair.consumer_node copy;
    }

abbrev pub with_received : Agreement → List (List ℕ) → Copy → Agreement
with_received pair rest copy =
    record pair { consumer_node = record (with_copy pair.consumer_node copy) { link = rest } }

-- how many writes of a directory have a CSN that is not greater than that of the cookie
abbrev pub number_of_cookie : List CsnValue → Option Cookie → ℕ
number_of_cookie numbers None = 0
number_of_cookie numbers (Some cookie) = upto numbers cookie.csn

abbrev pub stored_number : DirectoryState → Option (List ℕ) → ℕ
stored_number d None = 0
stored_number d (Some text) = number_of_cookie (csns d.writes) (cookie_of_text text)

-- the entries are those of a prefix of the provider's writes, which has its origin
abbrev pub storing : Agreement → Copy → Commit → Storing
storing pair copy commit =
    let number = stored_number pair.provider.directory copy.cookie in
    let search = pair.consumer_node.consumer.spec in
    record {
      number = number;
      entries = copy.held;
      origin = origin_of pair.provider.kind pair.lineage search number;
      commit = commit;
      search = search;
    }

abbrev pub stored_reported : Agreement → Copy → Commit → ReportLine
stored_reported pair copy commit = reported.Stored (name_of pair) (storing pair copy commit)

abbrev pub taken_as : Agreement → List (List ℕ) → Copy → Came → Agreement × ReportLine
taken_as pair rest copy came.Staged = (with_received pair rest copy, reported.Taken (name_of pair))
taken_as pair rest copy came.Copied = (with_received pair rest copy, reported.Taken (name_of pair))
taken_as pair rest copy (came.Stored commit) =
    (with_received pair rest copy, stored_reported pair copy commit)
taken_as pair rest copy (came.Over code) =
    (with_received pair rest copy, reported.Ended (name_of pair) code)
taken_as pair rest copy (came.Refused fault) =
    (given_up pair copy, reported.Faulted (name_of pair) fault)

-- the first message of the link is taken, where there is one
abbrev pub taken_from : Agreement → List (List ℕ) → Option (Agreement × ReportLine)
taken_from pair [] = None
taken_from pair (message ∷ rest) =
    Some (taken_as pair rest (received (copy_of pair.consumer_node) message).0
    (received (copy_of pair.consumer_node) message).1)

abbrev pub taking : Agreement → Option (Agreement × ReportLine)
taking pair = taken_from pair pair.consumer_node.link

abbrev pub taken_before :
    (Agreement → Agreement × List ReportLine) → Agreement → List ReportLine
    → Option (Agreement × ReportLine) → Agreement × List ReportLine
taken_before next pair idle None = (pair, idle)
taken_before next pair idle (Some first) = ((next first.0).0, first.1 ∷ (next first.0).1)

-- n messages, up to where the link is empty, which these lines report then
abbrev pub taken_some : ℕ → List ReportLine → Agreement → Agreement × List ReportLine
taken_some zero idle pair = (pair, [])
taken_some (suc count) idle pair =
    taken_before (λ after. taken_some count idle after) pair idle (taking pair)

abbrev pub takes : ℕ → Agreement → ExchangeOutcome
takes count pair = Ok (taken_some count (reported.Nothing (name_of pair) ∷ []) pair)

-- ---- cutting

-- a search of the consumer is open or runs, or its link holds a message
abbrev pub is_busy : ConsumerNode → Bool
is_busy consumer_node =
    (is_some consumer_node.search || is_some (copy_of consumer_node).session)
    || not (length consumer_node.link == 0)

abbrev pub cut : Agreement → ExchangeOutcome
cut pair =
    if is_busy pair.consumer_node
    then Ok (given_up pair (copy_of pair.consumer_node), reported.Cut (name_of pair) ∷ [])
    else Ok (pair, reported.Nothing (name_of pair) ∷ [])

-- a busy consumer is cut
abbrev pub idle : Agreement → ExchangeOutcome
idle pair = if is_busy pair.consumer_node then cut pair else Ok (pair, [])

-- ---- opening

-- the consumer asks for a search, which goes on after its refresh or ends with it
abbrev pub asking : (persists : Bool) → Copy → Copy
asking persists copy = asked message_id persists copy

-- what its control asks for, with the cookie that it holds
abbrev pub request_from : Mode → Agreement → SyncRequest
request_from mode pair = asked_of pair.consumer_node.consumer mode

-- the end of a search that is refused, with its code, is taken at once
abbrev pub end_with : ℕ → MessageValue
end_with code = wire.sent message_id (Done (pos code) None)

abbrev pub refused_copy : Copy → ℕ → Copy
refused_copy copy code = (received_of copy (Some (end_with code))).0

-- where its search begins
abbrev pub start_of : Agreement → Start
start_of pair =
    start_at pair.provider.directory
    (prefix_of_cookie pair.provider.directory (copy_of pair.consumer_node).cookie)

abbrev pub opened_by : Mode → Agreement → Accepted → ExchangeOutcome
opened_by mode pair (accepted.Opened number writes) =
    Ok (
      record pair {
        provider =
            with_opened pair.provider number pair.consumer_node.consumer.spec (start_of pair)
            (persists mode);
        consumer_node =
            record
            (with_copy pair.consumer_node (asking (persists mode) (copy_of pair.consumer_node))) {
              search = Some number;
            };
      },
      reported.Opened (name_of pair) (persists mode) writes ∷ [],
    )
opened_by mode pair (accepted.Refused code) =
    Ok (
      record pair {
        consumer_node = with_copy pair.consumer_node
            (refused_copy (asking (persists mode) (copy_of pair.consumer_node)) code);
      },
      reported.Refused (name_of pair) (persists mode) code ∷ [],
    )
opened_by mode pair accepted.NoMemory = Ok (pair, [])

-- what the provider answers to a consumer that asks
abbrev pub answer_of : Mode → Agreement → Accepted
answer_of mode pair =
    answer_to_request pair.provider pair.consumer_node.consumer.spec (Ok (request_from mode pair))

abbrev pub opened_idle : Mode → Agreement → ExchangeOutcome
opened_idle mode pair = opened_by mode pair (answer_of mode pair)

-- a search that ends with its refresh (refreshOnly), or goes on after it (refreshAndPersist)
abbrev pub opens : Mode → Agreement → ExchangeOutcome
opens mode pair = and_then (idle pair) (opened_idle mode)

-- the cookie does not serve
abbrev pub is_required : Accepted → Bool
is_required (accepted.Opened number writes) = false
is_required (accepted.Refused code) = code == E_SYNC_REFRESH_REQUIRED
is_required accepted.NoMemory = false

-- a search that ends with its refresh, which is asked for a second time where it is
-- refused for its cookie
abbrev pub asked_again : Agreement → ExchangeOutcome
asked_again pair =
    if is_required (answer_of RefreshOnly pair)
    then and_then (opened_idle RefreshOnly pair) (opened_idle RefreshOnly)
    else opened_idle RefreshOnly pair

abbrev pub opens_anew : Agreement → ExchangeOutcome
opens_anew pair = and_then (idle pair) asked_again

-- ---- settling

-- how many messages the search of this number has pending
abbrev pub pending_count : DirectoryState → Option SearchState → ℕ
pending_count d None = 0
pending_count d (Some s) = length (pending d s)

abbrev pub left_to_send : Agreement → Option ℕ → ℕ
left_to_send pair None = 0
left_to_send pair (Some number) =
    pending_count pair.provider.directory (search_at pair.provider.searches number)

-- a message that was sent is taken at once
abbrev pub ran_before : (Agreement → ExchangeOutcome) → Agreement → Sending → ExchangeOutcome
ran_before next pair (Sends after message) =
    after_lines (reported.Sent (name_of pair) message ∷ (taken_some 1 [] after).1)
    (next (taken_some 1 [] after).0)
ran_before next pair Rests = Ok (pair, [])
ran_before next pair Overflows = Err (LimitReached most_link)

abbrev pub ran_some : ℕ → Agreement → ExchangeOutcome
ran_some zero pair = Ok (pair, [])
ran_some (suc count) pair = ran_before (λ after. ran_some count after) pair (sending pair)

-- what the open search has pending is sent and taken
abbrev pub runs : Agreement → ExchangeOutcome
runs pair = ran_some (left_to_send pair pair.consumer_node.search) pair

-- the link is empty then
abbrev pub drains : Agreement → ExchangeOutcome
drains pair = Ok (taken_some (length pair.consumer_node.link) [] pair)

abbrev pub settled_reported : Agreement → ExchangeOutcome
settled_reported pair =
    Ok (pair, reported.Settled (name_of pair) (length pair.provider.directory.writes) ∷ [])

-- a persistent search of the consumer is open, and its refresh is done
abbrev pub follows_on : Agreement → Bool
follows_on pair =
    is_some pair.consumer_node.search && is_persisting (copy_of pair.consumer_node).session

-- a new search is opened, and runs to its end
abbrev pub refreshes : Agreement → ExchangeOutcome
refreshes pair = and_then (opens_anew pair) runs

-- a consumer that follows on needs no new search
abbrev pub catches_up : Agreement → ExchangeOutcome
catches_up pair = if follows_on pair then Ok (pair, []) else refreshes pair

-- the consumer takes what its link holds, and what the open search has pending; then it is up to
-- its provider, or gets there by a new search
abbrev pub settles : Agreement → ExchangeOutcome
settles pair = and_then (and_then (and_then (drains pair) runs) catches_up) settled_reported

-- ---- cookies

-- the consumer with this cookie, or without one
abbrev pub with_text : ConsumerNode → Option (List ℕ) → ConsumerNode
with_text consumer_node cookie =
    with_copy consumer_node (record (copy_of consumer_node) { cookie = cookie })

abbrev pub holding : Agreement → Option (List ℕ) → ExchangeOutcome
holding pair cookie =
    Ok (
      record pair { consumer_node = with_text pair.consumer_node cookie },
      reported.Holds (name_of pair) cookie ∷ [],
    )

abbrev pub loses_cookie : Agreement → ExchangeOutcome
loses_cookie pair = holding pair None

-- a text for a cookie, unless it is later than what is held
abbrev pub sets_cookie : List ℕ → Agreement → ExchangeOutcome
sets_cookie text pair =
    if is_later (copy_of pair.consumer_node).cookie text
    then Err (LaterCookie (copy_of pair.consumer_node).cookie text)
    else holding pair (Some text)

-- ---- other wishes

-- the consumer wants this from now on; it keeps its entries, and loses its cookie
abbrev pub with_spec : Search → Agreement → ExchangeOutcome
with_spec search pair =
    Ok (
      record pair {
        consumer_node =
            record pair.consumer_node { consumer = wanting pair.consumer_node.consumer search };
      },
      reported.Holds (name_of pair) None ∷ [],
    )

-- a busy consumer is cut first
abbrev pub respecs : Search → Agreement → ExchangeOutcome
respecs search pair = and_then (idle pair) (with_spec search)

-- ---- what goes on

abbrev pub part_of : Exchange → Agreement → ExchangeOutcome
part_of (goes.Open mode) = opens mode
part_of (goes.Send count) = sent count
part_of (goes.Take count) = takes count
part_of goes.Cut = cut
part_of goes.Settle = settles
part_of goes.LoseCookie = loses_cookie
part_of (goes.SetCookie text) = sets_cookie text
part_of goes.CutIfBusy = idle
part_of (goes.Respec spec) = respecs (search_of spec)

-- it is done in steps, of which a later one can be refused
abbrev pub is_stepwise : Exchange → Bool
is_stepwise (goes.Open mode) = true
is_stepwise (goes.Send count) = true
is_stepwise (goes.Take count) = true
is_stepwise goes.Settle = true
is_stepwise _ = false

-- a step of it can change the provider's searches before a later one is refused
abbrev pub moves_searches : Exchange → Bool
moves_searches (goes.Open mode) = true
moves_searches (goes.Send count) = true
moves_searches goes.Settle = true
moves_searches _ = false
