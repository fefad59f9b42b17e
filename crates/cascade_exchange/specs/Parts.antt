-- What the parts of an event answer, and the lines that they put after those before them.
use Rattle.std.specs.Prelude.{◌≡◌, ◌==◌, ℕ, Bool, true, false, Option, Some, None, IfSome, Result, Ok, Err, List, [], ◌∷◌}
use Rattle.ldap_constants.specs.declared.result_codes.TheConstants.{E_SYNC_REFRESH_REQUIRED}
use Rattle.sync_messages.specs.declared.request.Mode.{Mode}
use Rattle.cascade_script.specs.declared.fault.Cause.{Cause}
use Rattle.cascade_script.specs.declared.fault.Cause.TheVariants.{LaterCookie, LimitReached, NoMemory}
use Rattle.ldap_messages.specs.Whole.{MessageValue, message_value}
use Rattle.ldap_messages.specs.declared.message.Message.{Message}
use Rattle.sync_model.specs.Copy.{Copy}
use Rattle.sync_provider.specs.HandingOut.{HandOut}
use Rattle.sync_provider.specs.HandingOut.HandOut.{Hands, Closes, Waits, Unknown}
use Rattle.ldap_parts.specs.declared.control.Control.{Control}
use Rattle.cascade_nodes.specs.declared.node.ConsumerNode.{ConsumerNode}
use Rattle.cascade_exchange.specs.declared.exchange.Snapshot.{Snapshot}
use Rattle.cascade_exchange.specs.declared.exchange.Performed.{Performed}
use Rattle.cascade_nodes.specs.Ours.{IsOurs}
use Rattle.sync_provider.specs.Machine.{ProviderState}
use Rattle.sync_provider.specs.Placing.{ComesBack, put_back}
use Rattle.sync_provider.specs.Returning.{KeptSearch, HasNoWriteSince, snapshot_of}
use Rattle.cascade_exchange.specs.Exchange.{Agreement, ExchangeOutcome, answer_of, opened_idle, is_required, Sending, handed, fits, linked, with_copy, with_text, refused_copy, taken_as, closed, copy_of, given_up, taking, takes}
use Rattle.cascade_exchange.specs.Cookies.{is_later}
use Rattle.cascade_exchange.specs.Reception.{Came}
use Rattle.cascade_exchange.specs.Exchange.Sending.{Sends, Rests, Overflows}
use Rattle.cascade_exchange.specs.Exchange.{name_of}
use Rattle.cascade_nodes.specs.Link.{most_link}
use Rattle.cascade_report.specs.Report.{Report, said}
use Rattle.cascade_report.specs.ReportLines.{ReportLine, lines_text, stages_of}
use Rattle.cascade_report.specs.ReportLines.ReportLine.{Sent, Refused}

-- what was reported before a part, the pair and what is reported after it, and what it answered;
-- out of memory, nothing is said
abbrev pub Does : ExchangeOutcome → Report → Agreement → Report → Result (Unit {0}) Cause → Type 0
Does outcome old after new (Ok done) =
    (lines : List ReportLine) × (outcome ≡ Ok (after, lines)) × (new ≡ said old lines)
Does outcome old after new (Err NoMemory) = Unit {0}
Does outcome old after new (Err cause) = outcome ≡ Err cause

-- the same of an exchange as a whole, of which the text and the stages are reported
abbrev pub Performs : ExchangeOutcome → Agreement → Result Performed Cause → Type 0
Performs outcome after (Ok done) =
    (lines : List ReportLine) × (outcome ≡ Ok (after, lines)) × (done.text.items ≡ lines_text lines)
    × (done.stages.items ≡ stages_of lines)
Performs outcome after (Err NoMemory) = Unit {0}
Performs outcome after (Err cause) = outcome ≡ Err cause

-- of a provider only the searches are others now
pub record KeepsAllButSearches (old new : ProviderState) : Type 0 where
  pub directory : new.directory ≡ old.directory
  pub queue_limit : new.queue_limit ≡ old.queue_limit
  pub kind : new.kind ≡ old.kind

-- without the consumer's own search the provider is as before
abbrev pub KeepsOthers : ProviderState → ConsumerNode → ProviderState → ConsumerNode → Type 0
KeepsOthers before consumer_node after consumer_after =
    closed after consumer_after.search ≡ closed before consumer_node.search

-- both are as before
abbrev pub AreAsBefore : ProviderState → ConsumerNode → ProviderState → ConsumerNode → Type 0
AreAsBefore before consumer_node after consumer_after =
    (after ≡ before) × (consumer_after ≡ consumer_node)

-- ---- a moment that is kept

-- how a search of a provider stood: what is closed and put back leaves the provider as it was
pub record IsKeptSearch (p : ProviderState) (search : Option ℕ) (kept : KeptSearch) : Type 0 where
  pub value : kept ≡ snapshot_of p kept.number
  pub own : search ≡ Some kept.number
  pub ours : IfSome kept.search IsOurs
  pub back : ComesBack p.searches kept.number

-- where that is kept
abbrev pub IsKeptIfAny : ProviderState → Option ℕ → Option KeptSearch → Type 0
IsKeptIfAny p search kept = IfSome kept (IsKeptSearch p search)

-- the search that a consumer opened since, where it had none
abbrev pub opened_since : (before now : Option ℕ) → Option ℕ
opened_since None now = now
opened_since (Some number) now = None

-- a provider with a search as it is kept
abbrev pub with_kept : ProviderState → KeptSearch → ProviderState
with_kept p kept = record p { searches = put_back p.searches kept.number kept.search }

-- the provider with the searches of the moment: with the one that is kept in place of the one that
-- is open now, or without the one that was opened since
abbrev pub search_back :
    Option KeptSearch → (before now : Option ℕ) → ProviderState → ProviderState
search_back None before now p = closed p (opened_since before now)
search_back (Some kept) before now p = with_kept (closed p now) kept

abbrev pub provider_back : Snapshot → ProviderState → ConsumerNode → ProviderState
provider_back before now consumer_node =
    search_back before.own before.search consumer_node.search now

-- the consumer of the moment, where it is kept
abbrev pub consumer_back : Option ConsumerNode → ConsumerNode → ConsumerNode
consumer_back None now = now
consumer_back (Some before) now = before

-- the moment brings both back to what they were: no write came since
pub record BringsBack
    (provider : ProviderState) (consumer_node : ConsumerNode)
    (now : ProviderState) (consumer_now : ConsumerNode) (before : Snapshot) : Type 0 where
  pub no_write : IfSome before.own (HasNoWriteSince now.directory)
  pub ours : IfSome before.own (λ own. IfSome own.search IsOurs)
  pub same_provider : provider_back before now consumer_now ≡ provider
  pub same_consumer_node : consumer_back before.consumer_node consumer_now ≡ consumer_node

-- where the search of a consumer is not kept, and it had one, the provider is as before
abbrev pub IsUntouched :
    Option KeptSearch → Option ℕ → (before after : ProviderState) → Type 0
IsUntouched kept search before after = kept ≡ None → IfSome search (λ number. after ≡ before)

-- the same of the sending of one message, which answers whether one was pending
abbrev pub SendsOne : Agreement → Sending → Report → Agreement → Report → Result Bool Cause → Type 0
SendsOne before found old after new (Ok true) =
    (message : List ℕ) × (found ≡ Sends after message)
    × (new ≡ said old (Sent (name_of before) message ∷ []))
SendsOne before found old after new (Ok false) = (found ≡ Rests) × (after ≡ before) × (new ≡ old)
SendsOne before found old after new (Err NoMemory) = Unit {0}
SendsOne before found old after new (Err cause) =
    (found ≡ Overflows) × (cause ≡ LimitReached most_link)

-- the search of this number after its turn
abbrev pub search_after : Option ℕ → HandOut → Option ℕ
search_after search (Closes code message) = None
search_after search _ = search

abbrev pub whole_in : HandOut → Option MessageValue
whole_in (Hands message) = Some message
whole_in (Closes code message) = Some message
whole_in Waits = None
whole_in Unknown = None

-- a message that is handed out, which one answers where there is one
abbrev pub HandsOut : Agreement → HandOut → Agreement → Result (Option Message) Cause → Type 0
HandsOut before turn after (Ok (Some message)) =
    (after ≡ record before {
      provider = handed before.provider before.consumer_node.search;
      consumer_node =
          record before.consumer_node { search = search_after before.consumer_node.search turn };
    })
    × (whole_in turn ≡ Some (message_value message))
HandsOut before turn after (Ok None) = (after ≡ before) × (whole_in turn ≡ None)
HandsOut before turn after (Err cause) = cause ≡ NoMemory

-- the same of the taking of one message, which answers whether the link held one
abbrev pub TakesOne :
    Agreement → Option (Agreement × ReportLine) → Report → Agreement → Report → Result Bool Cause
    → Type 0
TakesOne before found old after new (Ok true) =
    (line : ReportLine) × (found ≡ Some (after, line)) × (new ≡ said old (line ∷ []))
TakesOne before found old after new (Ok false) = (found ≡ None) × (after ≡ before) × (new ≡ old)
TakesOne before found old after new (Err NoMemory) = Unit {0}
TakesOne before found old after new (Err cause) = ⊥

-- the same of a message that goes into the link of this consumer node, whose search stays as it is
abbrev pub Links :
    ConsumerNode → List ℕ → Report → ConsumerNode → Report → Result (Unit {0}) Cause → Type 0
Links before message old after new (Ok done) =
    (fits before message ≡ true) × (after ≡ linked before before.search message)
    × (new ≡ said old (Sent before.name message ∷ []))
Links before message old after new (Err NoMemory) = Unit {0}
Links before message old after new (Err cause) =
    (fits before message ≡ false) × (cause ≡ LimitReached most_link)

-- the same of what the consumer makes of a message that was taken from the link and decoded, or
-- of bytes that spell none
abbrev pub IsReceived :
    Agreement → Copy × Came → Report → Agreement → Report → Result (Unit {0}) Cause → Type 0
IsReceived before received old after new (Ok done) =
    (line : ReportLine)
    × (taken_as before before.consumer_node.link received.0 received.1 ≡ (after, line))
    × (new ≡ said old (line ∷ []))
IsReceived before received old after new (Err NoMemory) = Unit {0}
IsReceived before received old after new (Err cause) = ⊥

-- ---- a search that is to be given up yet

-- the pair once a search is given up that is not to go on
abbrev pub left_by : (goes_on : Bool) → Agreement → Agreement
left_by true pair = pair
left_by false pair = given_up pair (copy_of pair.consumer_node)

-- the same, which answers whether the search goes on
abbrev pub IsReceivedSoFar :
    Agreement → Copy × Came → Report → Agreement → Report → Result Bool Cause → Type 0
IsReceivedSoFar before received old after new (Ok goes_on) =
    IsReceived before received old (left_by goes_on after) new (Ok tt)
IsReceivedSoFar before received old after new (Err cause) = cause ≡ NoMemory

-- the same of the taking of one message, where the link held one
abbrev pub TakesNext :
    Agreement → Option (Agreement × ReportLine) → Report → Agreement → Report
    → Result (Option Bool) Cause → Type 0
TakesNext before found old after new (Ok None) = TakesOne before found old after new (Ok false)
TakesNext before found old after new (Ok (Some goes_on)) =
    TakesOne before found old (left_by goes_on after) new (Ok true)
TakesNext before found old after new (Err cause) = cause ≡ NoMemory

-- the same of the first of n messages that are to be taken, which answers none where others follow
abbrev pub TakesStep :
    ℕ → Agreement → Report → Agreement → Report → Result (Option Bool) Cause → Type 0
TakesStep count before old after new (Ok None) =
    TakesOne before (taking before) old after new (Ok true)
TakesStep count before old after new (Ok (Some goes_on)) =
    Does (takes count before) old (left_by goes_on after) new (Ok tt)
TakesStep count before old after new (Err cause) = cause ≡ NoMemory

-- the same of all of them
abbrev pub TakesSoFar : ℕ → Agreement → Report → Agreement → Report → Result Bool Cause → Type 0
TakesSoFar count before old after new (Ok goes_on) =
    Does (takes count before) old (left_by goes_on after) new (Ok tt)
TakesSoFar count before old after new (Err cause) = cause ≡ NoMemory

-- the same of a consumer that asks for a search in this mode, which answers whether its
-- cookie does not serve
abbrev pub Opens : Mode → Agreement → Report → Agreement → Report → Result Bool Cause → Type 0
Opens mode before old after new (Ok again) =
    Does (opened_idle mode before) old after new (Ok tt)
    × (again ≡ is_required (answer_of mode before))
Opens mode before old after new (Err cause) =
    Does (opened_idle mode before) old after new (Err cause)

-- the same of a search that is refused, whose consumer takes its end; the answer is whether its
-- cookie does not serve
abbrev pub Refuses : ConsumerNode → ℕ → Report → ConsumerNode → Report → Result Bool Cause → Type 0
Refuses before code old after new (Ok again) =
    (after ≡ with_copy before (refused_copy before.consumer.copy code))
    × ((persists : Bool) → new ≡ said old (Refused before.name persists code ∷ []))
    × (again ≡ (code == E_SYNC_REFRESH_REQUIRED))
Refuses before code old after new (Err NoMemory) = Unit {0}
Refuses before code old after new (Err cause) = ⊥

-- the same of a consumer node that is given this text for its cookie
abbrev pub SetsCookie : ConsumerNode → List ℕ → ConsumerNode → Result (Unit {0}) Cause → Type 0
SetsCookie before text after (Ok done) =
    (is_later before.consumer.copy.cookie text ≡ false) × (after ≡ with_text before (Some text))
SetsCookie before text after (Err NoMemory) = Unit {0}
SetsCookie before text after (Err cause) =
    (is_later before.consumer.copy.cookie text ≡ true)
    × (cause ≡ LaterCookie before.consumer.copy.cookie text)

-- the value of the first control
abbrev pub value_or_empty : Option (List ℕ) → List ℕ
value_or_empty None = []
value_or_empty (Some value) = value

abbrev pub first_value : List Control → List ℕ
first_value [] = []
first_value (control ∷ controls) = value_or_empty control.value
