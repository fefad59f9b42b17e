-- What is written to the link of a search and read from it, and what of it is printed.
use Rattle.std.specs.Prelude.{◌≡◌, ◌⊎◌, ◌<◌, ◌+◌, ℕ, ℤ, Bool, true, false, if◌then◌else◌, List, [], ◌∷◌, ◌++◌, map, Option}
use Rattle.std.specs.Io.KnownBytes.{Appends, IsAtEnd}
use Rattle.ldap_client.specs.Clients.{HasRead}
use Rattle.ldap_client.specs.Links.{LinkState}
use Rattle.ldap_client.specs.declared.fault.ClientFault.{ClientFault}
use Rattle.ldap_client.specs.declared.fault.ClientFault.TheVariants.{ReadFault, WriteFault, PeerMessage, EndOfInput, NoMemory}
use Rattle.ldap_messages.specs.Whole.{MessageValue, message_octets, message_value}
use Rattle.ldap_messages.specs.declared.message.Message.{Message}
use Rattle.ldap_session.specs.Incoming.{Incoming, Arrived, Wrong}
use Rattle.sync_consumer.specs.Taking as taking
use Rattle.sync_consumer.specs.declared.commit.Commit.{Commit}
use Rattle.sync_consumer.specs.declared.consumer.Taken.{Taken}
use Rattle.sync_consumer.specs.declared.consumer.Taken.TheVariants.{Stored, Over, Fault}
use Rattle.entry_tree.specs.declared.entry.Entry.{Entry}
use Rattle.entry_tree.specs.Selection.{Search}
use Rattle.sync_consumer.specs.declared.fault.PeerFault as peer
use Rattle.sync_io.specs.Faults.{CountHasRisen}
use Rattle.sync_io.specs.Sink.{AppendsPrefix}
use Rattle.sync_messages.specs.declared.request.Mode.TheVariants.{RefreshAndPersist}
use Rattle.sync_model.specs.Copy as model
use Rattle.ldap_search.specs.Answers.{AreParts, End, Stray, part_of, result_text, search_id, texts_of}
use Rattle.ldap_search.specs.Copies.{TakenMessage, TakesAll, stored_count, stored_text, taken_texts, values_of}
use Rattle.ldap_search.specs.Requests.{plain_request, unbind_request}
use Rattle.ldap_search.specs.declared.end.SearchEnd.{SearchEnd}
use Rattle.ldap_search.specs.declared.end.SearchEnd.TheVariants.{Done, OutputFault, NetFault, PeerFault}

-- an output: what it holds, where it reports that, and how many of its writes have failed
pub record OutputState : Type 0 where
  pub held : Option (List ℕ)
  pub faults : ℕ

abbrev pub output_by : {O : Type 0} → (held : O → Option (List ℕ)) → (faults : O → ℕ) → O
    → OutputState
output_by held faults output = record { held = held output; faults = faults output }

-- how a fault of the client ends the search
abbrev pub end_by : ClientFault → SearchEnd
end_by ReadFault = NetFault
end_by WriteFault = NetFault
end_by (PeerMessage place) = PeerFault
end_by EndOfInput = PeerFault
end_by NoMemory = NetFault

-- no more than these messages came, and then a read failed
abbrev pub ReadingFails : (first now : LinkState) → List MessageValue → Type 0
ReadingFails first now messages =
    HasRead first now (map Arrived messages)
    × CountHasRisen first.read_faults now.read_faults

-- of these octets a prefix was written, and then a write failed
abbrev pub WritingFails : (first now : LinkState) → List ℕ → Type 0
WritingFails first now octets =
    AppendsPrefix first.held now.held octets
    × CountHasRisen first.write_faults now.write_faults

-- after these messages something came that is outside the grammar, or the input ended
abbrev pub EndsEarly : (first now : LinkState) → List MessageValue → Type 0
EndsEarly first now messages =
    ((place : ℕ) × HasRead first now (map Arrived messages ++ Wrong place ∷ []))
    ⊎ (HasRead first now (map Arrived messages) × IsAtEnd now.left)

-- these messages came, and then this one
abbrev pub HasReadUpTo : (first now : LinkState) → List MessageValue → MessageValue → Type 0
HasReadUpTo first now messages whole =
    (later : List Incoming)
    × HasRead first now (map Arrived messages ++ Arrived whole ∷ later)

-- these messages came, and perhaps more
abbrev pub HasReadAtLeast : (first now : LinkState) → List MessageValue → Type 0
HasReadAtLeast first now messages =
    (later : List Incoming) × HasRead first now (map Arrived messages ++ later)

-- no call of the link has failed since
abbrev pub IsLinkSound : (first now : LinkState) → Type 0
IsLinkSound first now =
    (now.read_faults ≡ first.read_faults) × (now.write_faults ≡ first.write_faults)

-- no call of the link or of the output has failed since
abbrev pub AreFaultless : (first now : LinkState) → (old new : OutputState) → Type 0
AreFaultless first now old new = IsLinkSound first now × (new.faults ≡ old.faults)

-- nothing was written, nothing printed, and no call of the link has failed
abbrev pub IsUnasked : (first now : LinkState) → (old new : OutputState) → Type 0
IsUnasked first now old new = (now.held ≡ first.held) × IsLinkSound first now × (new ≡ old)

-- a call of the link or of the output fails only where that ends the search
abbrev pub FaultsEnd : (first now : LinkState) → OutputState → SearchEnd → OutputState → Type 0
FaultsEnd first now old Done new = AreFaultless first now old new
FaultsEnd first now old PeerFault new = AreFaultless first now old new
FaultsEnd first now old NetFault new = new.faults ≡ old.faults
FaultsEnd first now old OutputFault new = IsLinkSound first now

-- ---- without a count

-- its end was printed; or what came is no part of an answer, or came to an end; or a read failed; or
-- the output did, at what was to be printed next
abbrev pub EndsAnswer : (first now : LinkState) → List MessageValue → OutputState → SearchEnd
    → OutputState → Type 0
EndsAnswer first now messages old Done new =
    (whole : MessageValue) × (code : ℤ) × (part_of whole ≡ End code)
    × HasReadUpTo first now messages whole
    × Appends old.held new.held (texts_of messages ++ result_text code)
EndsAnswer first now messages old PeerFault new =
    (EndsEarly first now messages
    ⊎ ((whole : MessageValue) × (part_of whole ≡ Stray)
    × HasReadUpTo first now messages whole))
    × Appends old.held new.held (texts_of messages)
EndsAnswer first now messages old NetFault new =
    ReadingFails first now messages × Appends old.held new.held (texts_of messages)
EndsAnswer first now messages old OutputFault new =
    (whole : MessageValue) × HasReadUpTo first now messages whole
    × AppendsPrefix old.held new.held (texts_of (messages ++ whole ∷ []))
    × CountHasRisen old.faults new.faults

-- entries and references came, and were printed, and then the search ended
pub record Answers
    (first now : LinkState) (old : OutputState) (end : SearchEnd) (new : OutputState)
    : Type 0 where
  pub messages : List MessageValue
  pub parts : AreParts messages
  pub ends : EndsAnswer first now messages old end new
  pub faults : FaultsEnd first now old end new

-- the request was written, and its answer was printed; or writing it failed
abbrev pub AsksPlainly : Search → (first now : LinkState) → OutputState → SearchEnd → OutputState
    → Type 0
AsksPlainly spec first now old end new =
    (Appends first.held now.held (message_octets (plain_request spec))
    × Answers first now old end new)
    ⊎ ((end ≡ NetFault) × (new ≡ old)
    × WritingFails first now (message_octets (plain_request spec)))

-- Where memory ran out: entries and references came, and perhaps more, and what they say was
-- printed, and no call failed.
pub record AnswersInPart (first now : LinkState) (old new : OutputState) : Type 0 where
  pub messages : List MessageValue
  pub parts : AreParts messages
  pub read : HasReadAtLeast first now messages
  pub printed : Appends old.held new.held (texts_of messages)
  pub faults : AreFaultless first now old new

-- the search was not asked; or the request was written, and its answer was printed in part
abbrev pub AsksPlainlyInPart : Search → (first now : LinkState) → (old new : OutputState) → Type 0
AsksPlainlyInPart spec first now old new =
    IsUnasked first now old new
    ⊎ (Appends first.held now.held (message_octets (plain_request spec))
    × AnswersInPart first now old new)

-- ---- with a count

-- what is printed of the message that ends the search
abbrev pub last_text : Taken → List Entry → List ℕ
last_text (Stored commit) held = stored_text held
last_text (Over code) held = result_text code
last_text _ held = []

-- the copy that a consumer begins with, which has asked for its search
abbrev pub begun : model.Copy
begun = model.asked search_id true taking.nothing

-- the consumer that follows a search, before it has asked for it
abbrev pub first_consumer : Search → taking.ConsumerState
first_consumer spec = record { spec = spec; reload = false; copy = taking.nothing }

-- the request with which it begins
abbrev pub sync_request : Search → MessageValue
sync_request spec = taking.request_of (first_consumer spec) search_id RefreshAndPersist

-- what is written at the end: the request, and after as many stored cookies as are wanted the end
-- of the session
abbrev pub asked_octets : Search → (unbinds : Bool) → List ℕ
asked_octets spec unbinds =
    message_octets (sync_request spec)
    ++ (if unbinds then message_octets unbind_request else [])

-- the last message that was taken stored the last of the cookies that were wanted, and its line was
-- printed
pub record StoresLast
    (count : ℕ) (first now : LinkState) (messages : List TakenMessage) (copy : model.Copy)
    (old new : OutputState) : Type 0 where
  pub message : Message
  pub after : model.Copy
  pub commit : Commit
  pub takes : taking.Takes copy message after (Stored commit)
  pub last : stored_count messages + 1 ≡ count
  pub read : HasReadUpTo first now (values_of messages) (message_value message)
  pub printed : Appends old.held new.held (taken_texts messages ++ stored_text after.held)

-- the last message that was taken ended the search with a result, which was printed
pub record IsOver
    (first now : LinkState) (messages : List TakenMessage) (copy : model.Copy)
    (old new : OutputState) : Type 0 where
  pub message : Message
  pub after : model.Copy
  pub code : ℤ
  pub takes : taking.Takes copy message after (Over code)
  pub read : HasReadUpTo first now (values_of messages) (message_value message)
  pub printed : Appends old.held new.held (taken_texts messages ++ result_text code)

-- the message after these is refused by the copy
abbrev pub IsRefusedMessage : (first now : LinkState) → List TakenMessage → model.Copy → Type 0
IsRefusedMessage first now messages copy =
    (message : Message) × (after : model.Copy) × (found : peer.PeerFault)
    × taking.Takes copy message after (Fault found)
    × HasReadUpTo first now (values_of messages) (message_value message)

-- the output failed at what was to be printed of the message after these
pub record PrintingFails
    (first now : LinkState) (messages : List TakenMessage) (copy : model.Copy)
    (old new : OutputState) : Type 0 where
  pub message : Message
  pub after : model.Copy
  pub taken : Taken
  pub takes : taking.Takes copy message after taken
  pub read : HasReadUpTo first now (values_of messages) (message_value message)
  pub printed : AppendsPrefix old.held new.held (taken_texts messages ++ last_text taken after.held)
  pub failed : CountHasRisen old.faults new.faults

-- The search was over, or the session was ended after the last cookie that was wanted; or what came
-- is refused or came to an end; or a read failed, or the writing of that end; or the output did.
abbrev pub EndsFollowing : Search → (count : ℕ) → (first now : LinkState) → List TakenMessage
    → model.Copy → OutputState → SearchEnd → OutputState → Type 0
EndsFollowing spec count first now messages copy old Done new =
    (IsOver first now messages copy old new
    × Appends first.held now.held (asked_octets spec false))
    ⊎ (StoresLast count first now messages copy old new
    × Appends first.held now.held (asked_octets spec true))
EndsFollowing spec count first now messages copy old PeerFault new =
    (EndsEarly first now (values_of messages) ⊎ IsRefusedMessage first now messages copy)
    × Appends old.held new.held (taken_texts messages)
    × Appends first.held now.held (asked_octets spec false)
EndsFollowing spec count first now messages copy old NetFault new =
    (ReadingFails first now (values_of messages)
    × Appends old.held new.held (taken_texts messages)
    × Appends first.held now.held (asked_octets spec false))
    ⊎ (StoresLast count first now messages copy old new
    × WritingFails first now (asked_octets spec true))
EndsFollowing spec count first now messages copy old OutputFault new =
    PrintingFails first now messages copy old new
    × Appends first.held now.held (asked_octets spec false)

-- A copy followed the search: it took the messages that came, one after another, and a line was
-- printed for each cookie that it stored, fewer than are wanted; and then the search ended.
pub record Follows
    (spec : Search) (count : ℕ) (first now : LinkState) (old : OutputState) (end : SearchEnd)
    (new : OutputState) : Type 0 where
  pub messages : List TakenMessage
  pub copy : model.Copy
  pub takes : TakesAll begun messages copy
  pub fewer : stored_count messages < count
  pub ends : EndsFollowing spec count first now messages copy old end new
  pub faults : FaultsEnd first now old end new

-- the request was written, and the search followed; or writing it failed
abbrev pub AsksToFollow : Search → (count : ℕ) → (first now : LinkState) → OutputState
    → SearchEnd → OutputState → Type 0
AsksToFollow spec count first now old end new =
    Follows spec count first now old end new
    ⊎ ((end ≡ NetFault) × (new ≡ old) × WritingFails first now (asked_octets spec false))

-- Where memory ran out: of the messages that came perhaps more than these, nothing was printed; or
-- the next one stored the last of the cookies that were wanted, and its line was printed.
abbrev pub StopsAfter : (count : ℕ) → (first now : LinkState) → List TakenMessage → model.Copy
    → (old new : OutputState) → Type 0
StopsAfter count first now messages copy old new =
    (HasReadAtLeast first now (values_of messages)
    × Appends old.held new.held (taken_texts messages))
    ⊎ StoresLast count first now messages copy old new

-- a copy took messages that came, one after another, and a line was printed for each cookie that it
-- stored, fewer than are wanted; and then memory ran out, before the session was ended and before a
-- call failed
pub record FollowsInPart
    (spec : Search) (count : ℕ) (first now : LinkState) (old new : OutputState) : Type 0 where
  pub messages : List TakenMessage
  pub copy : model.Copy
  pub takes : TakesAll begun messages copy
  pub fewer : stored_count messages < count
  pub written : Appends first.held now.held (asked_octets spec false)
  pub stops : StopsAfter count first now messages copy old new
  pub faults : AreFaultless first now old new

-- the search was not asked; or the request was written, and it was followed in part
abbrev pub AsksToFollowInPart : Search → (count : ℕ) → (first now : LinkState)
    → (old new : OutputState) → Type 0
AsksToFollowInPart spec count first now old new =
    IsUnasked first now old new ⊎ FollowsInPart spec count first now old new
