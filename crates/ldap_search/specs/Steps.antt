-- What is read and printed step by step, whatever came before.
use Rattle.std.specs.Prelude.{◌≡◌, ◌⊎◌, ◌<◌, ◌+◌, ℕ, ℤ, List, [], ◌∷◌, ◌++◌, Option, Some, None, Result, Ok, Err, IfOk, IfSome, is_some, false, true}
use Rattle.std.specs.Io.KnownBytes.{Appends}
use Rattle.entry_tree.specs.Selection.{Search}
use Rattle.ldap_client.specs.Clients.{Asks, ClientState, HasGiven}
use Rattle.ldap_client.specs.declared.fault.ClientFault.TheVariants.{WriteFault}
use Rattle.ldap_client.specs.declared.fault.ClientFault.TheVariants as client_fault
use Rattle.ldap_client.specs.Links.{LinkState}
use Rattle.ldap_messages.specs.Whole.{MessageValue, message_octets}
use Rattle.sync_consumer.specs.Taking.{ConsumerState}
use Rattle.sync_consumer.specs.Taking as taking
use Rattle.sync_consumer.specs.declared.commit.Commit.{Commit}
use Rattle.sync_consumer.specs.declared.consumer.Taken.{Taken}
use Rattle.sync_consumer.specs.declared.consumer.Taken.TheVariants.{Staged, Stored, Copied, Over, Fault, NoMemory}
use Rattle.sync_messages.specs.declared.request.Mode.TheVariants.{RefreshAndPersist}
use Rattle.sync_io.specs.Faults.{CountHasRisen}
use Rattle.sync_io.specs.Sink.{AppendsPrefix}
use Rattle.sync_model.specs.Copy as model
use Rattle.ldap_search.specs.Answers.{AnswerPart, AreParts, End, Stray, goes_on, part_text, result_text, search_id, texts_of}
use Rattle.ldap_search.specs.Copies.{TakenMessage, TakesAll, stored_count, stored_text, taken_texts, values_of}
use Rattle.ldap_search.specs.Printing.{PrintsLast}
use Rattle.ldap_search.specs.Requests.{unbind_request}
use Rattle.ldap_search.specs.Talks.{AreFaultless, EndsAnswer, EndsFollowing, FaultsEnd, HasReadAtLeast, OutputState, StopsAfter, asked_octets, begun}
use Rattle.ldap_search.specs.declared.end.SearchEnd.{SearchEnd}
use Rattle.ldap_search.specs.declared.end.SearchEnd.TheVariants.{Done, OutputFault, NetFault, PeerFault}

-- ---- an answer

-- a part of an answer was printed, after which more comes or nothing; or it is no part of one, or
-- the output failed
abbrev pub PrintsPart : {E : Type 0} → AnswerPart → OutputState
    → Result (Option SearchEnd) E → OutputState → Type 0
PrintsPart part old (Ok None) new =
    (goes_on part ≡ true)
    × Appends old.held new.held (part_text part) × (new.faults ≡ old.faults)
PrintsPart part old (Ok (Some Done)) new =
    (code : ℤ) × (part ≡ End code)
    × Appends old.held new.held (part_text (End code)) × (new.faults ≡ old.faults)
PrintsPart part old (Ok (Some PeerFault)) new = (part ≡ Stray) × (new ≡ old)
PrintsPart part old (Ok (Some OutputFault)) new =
    AppendsPrefix old.held new.held (part_text part) × CountHasRisen old.faults new.faults
PrintsPart part old (Ok (Some NetFault)) new = ⊥
PrintsPart part old (Err fault) new = Unit {0}

-- these messages were given since a link was seen so, and what they say was printed
pub record IsPrinted
    (first : LinkState) (start : OutputState) (messages : List MessageValue)
    (client : ClientState) (output : OutputState) : Type 0 where
  pub given : HasGiven first messages client
  pub live : client.fault ≡ None
  pub parts : AreParts messages
  pub printed : Appends start.held output.held (texts_of messages)
  pub faults : output.faults ≡ start.faults
  pub reads : client.link.read_faults ≡ first.read_faults
  pub writes : client.link.write_faults ≡ first.write_faults

-- one message more was given and printed, or the answer ended
abbrev pub PrintsNext : {E : Type 0} → ClientState → OutputState → Result (Option SearchEnd) E
    → ClientState → OutputState → Type 0
PrintsNext client output (Ok None) client' output' =
    (first : LinkState) (start : OutputState) (messages : List MessageValue)
    → IsPrinted first start messages client output
    → (whole : MessageValue)
    × IsPrinted first start (messages ++ whole ∷ []) client' output'
PrintsNext client output (Ok (Some end)) client' output' =
    (first : LinkState) (start : OutputState) (messages : List MessageValue)
    → IsPrinted first start messages client output
    → EndsAnswer first client'.link messages start end output'
    × FaultsEnd first client'.link start end output'
PrintsNext client output (Err fault) client' output' = Unit {0}

-- memory ran out at the next part, of which nothing was printed
abbrev pub StopsPrinting : ClientState → OutputState → ClientState → OutputState → Type 0
StopsPrinting client output client' output' =
    (first : LinkState) (start : OutputState) (messages : List MessageValue)
    → IsPrinted first start messages client output
    → HasReadAtLeast first client'.link messages
    × Appends start.held output'.held (texts_of messages)
    × AreFaultless first client'.link start output'

-- ---- a copy

-- a consumer was asked for its search, took these messages since, and a line was printed for each of
-- the cookies, of which n more are wanted
pub record IsFollowed
    (spec : Search) (count : ℕ) (first : LinkState) (start : OutputState)
    (messages : List TakenMessage) (wanted : ℕ)
    (client : ClientState) (consumer : ConsumerState) (output : OutputState) : Type 0 where
  pub given : HasGiven first (values_of messages) client
  pub live : client.fault ≡ None
  pub takes : TakesAll begun messages consumer.copy
  pub printed : Appends start.held output.held (taken_texts messages)
  pub faults : output.faults ≡ start.faults
  pub written : Appends first.held client.link.held (asked_octets spec false)
  pub reads : client.link.read_faults ≡ first.read_faults
  pub writes : client.link.write_faults ≡ first.write_faults
  pub counted : stored_count messages + wanted ≡ count
  pub some : 0 < wanted

-- one message more was taken, or the search ended
abbrev pub FollowsNext : {E : Type 0}
    → (wanted : ℕ) → ClientState → ConsumerState → OutputState → Result (Option SearchEnd) E
    → (wanted' : ℕ) → ClientState → ConsumerState → OutputState → Type 0
FollowsNext wanted client consumer output (Ok None) wanted' client' consumer' output' =
    (spec : Search) (count : ℕ) (first : LinkState) (start : OutputState)
    (messages : List TakenMessage)
    → IsFollowed spec count first start messages wanted client consumer output
    → (one : TakenMessage)
    × IsFollowed spec count first start (messages ++ one ∷ []) wanted' client' consumer' output'
FollowsNext wanted client consumer output (Ok (Some end)) wanted' client' consumer' output' =
    (spec : Search) (count : ℕ) (first : LinkState) (start : OutputState)
    (messages : List TakenMessage)
    → IsFollowed spec count first start messages wanted client consumer output
    → EndsFollowing spec count first client'.link messages consumer.copy start end output'
    × FaultsEnd first client'.link start end output'
FollowsNext wanted client consumer output (Err fault) wanted' client' consumer' output' = Unit {0}

-- a consumer asked for its search over a link on which nothing was said, or the link failed
abbrev pub StartsFollowing : {E : Type 0} → ClientState → ConsumerState
    → Result (Option SearchEnd) E → ClientState → ConsumerState → Type 0
StartsFollowing client consumer (Ok None) client' consumer' =
    Asks (message_octets (taking.request_of consumer search_id RefreshAndPersist)) client (Ok tt)
    client'
    × (consumer' ≡ record consumer { copy = model.asked search_id true consumer.copy })
StartsFollowing client consumer (Ok (Some NetFault)) client' consumer' =
    Asks (message_octets (taking.request_of consumer search_id RefreshAndPersist)) client
    (Err WriteFault) client'
StartsFollowing client consumer (Ok (Some Done)) client' consumer' = ⊥
StartsFollowing client consumer (Ok (Some OutputFault)) client' consumer' = ⊥
StartsFollowing client consumer (Ok (Some PeerFault)) client' consumer' = ⊥
StartsFollowing client consumer (Err fault) client' consumer' = Unit {0}

-- the session was ended, or the link failed
abbrev pub Unbinds : {E : Type 0} → ClientState → Result (Option SearchEnd) E → ClientState
    → Type 0
Unbinds client (Ok (Some Done)) client' =
    Asks (message_octets unbind_request) client (Ok tt) client'
Unbinds client (Ok (Some NetFault)) client' =
    Asks (message_octets unbind_request) client (Err WriteFault) client'
Unbinds client (Ok None) client' = ⊥
Unbinds client (Ok (Some OutputFault)) client' = ⊥
Unbinds client (Ok (Some PeerFault)) client' = ⊥
Unbinds client (Err fault) client' = Unit {0}

-- the line of a stored cookie was printed; after the last one that is wanted the session was ended
abbrev pub StoresOne : {E : Type 0} → model.Copy → (wanted : ℕ) → ClientState → OutputState
    → Result (Option SearchEnd) E → (wanted' : ℕ) → ClientState → OutputState → Type 0
StoresOne copy wanted client output (Ok None) wanted' client' output' =
    (wanted' + 1 ≡ wanted) × (0 < wanted') × (client' ≡ client)
    × Appends output.held output'.held (stored_text copy.held) × (output'.faults ≡ output.faults)
StoresOne copy wanted client output (Ok (Some OutputFault)) wanted' client' output' =
    (client' ≡ client) × AppendsPrefix output.held output'.held (stored_text copy.held)
    × CountHasRisen output.faults output'.faults
StoresOne copy wanted client output (Ok (Some end)) wanted' client' output' =
    (wanted ≡ 1) × Unbinds {E = Unit} client (Ok (Some end)) client'
    × Appends output.held output'.held (stored_text copy.held) × (output'.faults ≡ output.faults)
StoresOne copy wanted client output (Err fault) wanted' client' output' = Unit {0}

-- what came of a message that the copy took, by which the search goes on or ends
abbrev pub EndsBy : {E : Type 0} → Taken → model.Copy → (wanted : ℕ) → ClientState → OutputState
    → Result (Option SearchEnd) E → (wanted' : ℕ) → ClientState → OutputState → Type 0
EndsBy Staged copy wanted client output result wanted' client' output' =
    IfOk result (λ end. (end ≡ None) × (wanted' ≡ wanted) × (client' ≡ client)
    × (output' ≡ output))
EndsBy (Copied commit) copy wanted client output result wanted' client' output' =
    IfOk result (λ end. (end ≡ None) × (wanted' ≡ wanted) × (client' ≡ client)
    × (output' ≡ output))
EndsBy (Stored commit) copy wanted client output result wanted' client' output' =
    StoresOne copy wanted client output result wanted' client' output'
EndsBy (Over code) copy wanted client output result wanted' client' output' =
    (client' ≡ client)
    × IfOk result (λ end. IfSome end (λ last. PrintsLast (result_text code)
    output.held output.faults last output'.held output'.faults) × (is_some end ≡ true))
EndsBy (Fault found) copy wanted client output result wanted' client' output' =
    (client' ≡ client) × (output' ≡ output) × IfOk result (λ end. end ≡ Some PeerFault)
EndsBy NoMemory copy wanted client output result wanted' client' output' =
    IfOk result (λ end. ⊥)

-- ---- out of memory

-- memory ran out, and nothing of these octets was written
abbrev pub IsUnwritten : List ℕ → ClientState → ClientState → Type 0
IsUnwritten octets client client' = Asks octets client (Err client_fault.NoMemory) client'

-- memory ran out before the line of a stored cookie was printed; or that of the last one that is
-- wanted was printed, and the session was not ended
abbrev pub StopsStoring : model.Copy → (wanted : ℕ) → ClientState → OutputState → ClientState
    → OutputState → Type 0
StopsStoring copy wanted client output client' output' =
    ((client' ≡ client) × (output' ≡ output))
    ⊎ ((wanted ≡ 1) × IsUnwritten (message_octets unbind_request) client client'
    × Appends output.held output'.held (stored_text copy.held) × (output'.faults ≡ output.faults))

-- memory ran out after a message was taken: nothing came of it; or it stored a cookie
abbrev pub StopsBy : Taken → model.Copy → (wanted : ℕ) → ClientState → OutputState → ClientState
    → OutputState → Type 0
StopsBy taken copy wanted client output client' output' =
    ((client' ≡ client) × (output' ≡ output))
    ⊎ ((commit : Commit) × (taken ≡ Stored commit)
    × StopsStoring copy wanted client output client' output')

-- memory ran out at the next message
abbrev pub StopsFollowing : (wanted : ℕ) → ClientState → ConsumerState → OutputState → ClientState
    → OutputState → Type 0
StopsFollowing wanted client consumer output client' output' =
    (spec : Search) (count : ℕ) (first : LinkState) (start : OutputState)
    (messages : List TakenMessage)
    → IsFollowed spec count first start messages wanted client consumer output
    → Appends first.held client'.link.held (asked_octets spec false)
    × StopsAfter count first client'.link messages consumer.copy start output'
    × AreFaultless first client'.link start output'
