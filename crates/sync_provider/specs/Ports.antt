-- What is done through a port of a directory: each reply is the one that a provider of one thread
-- gives at its place in the directory's journal.
use Rattle.std.specs.Prelude.{◌≡◌, ◌≢◌, ◌<◌, ◌≤◌, ◌↔◌, ◌⊎◌, ℕ, ◌+◌, ◌^◌, Bool, true, false, cond, not, ◌||◌, ◌&&◌, nat_eq, if◌then◌else◌, List, [], ◌∷◌, ◌++◌, length, drop, find, Option, Some, None, option_map, is_some, Result, Ok, Err, IfOk, IfErr, IfSome, OnOk, OnErr, IsErrOf, All}
use Rattle.ldap_constants.specs.declared.result_codes.TheConstants.{NO_SUCH_OBJECT, OTHER, PROTOCOL_ERROR}
use Rattle.dn_names.specs.Names.{TypeAndValue, is_at_or_below}
use Rattle.entry_tree.specs.declared.entry.Entry.{Entry}
use Rattle.entry_tree.specs.declared.op.Op.{Op}
use Rattle.entry_tree.specs.declared.op.Op.TheVariants.{Commit}
use Rattle.entry_tree.specs.declared.op.Write.{Write}
use Rattle.sync_messages.specs.Request.{request_of}
use Rattle.sync_messages.specs.declared.fault.SyncFault.{SyncFault}
use Rattle.sync_messages.specs.declared.request.SyncRequest.{SyncRequest}
use Rattle.sync_model.specs.Message.{SyncMessage}
use Rattle.ldap_messages.specs.declared.message.Message.{Message}
use Rattle.directory_writes.specs.Directory.{DirectoryState, entries_of, judged, with_write, code_of_judged, AreAccepted, CsnsRise}
use Rattle.directory_writes.specs.Formed.{AreFormed}
use Rattle.sync_provider.specs.Accepting.{AnswersAccept, numbers_from, numbered}
use Rattle.sync_provider.specs.Committing.{commit_refusal, RejectsCommit}
use Rattle.sync_provider.specs.Comparing.{compare_code}
use Rattle.sync_provider.specs.HandingOut.{HandOut, reply_of, turn_of, turn_of_pending, has_message}
use Rattle.sync_provider.specs.HandingOut.HandOut.{Hands, Closes, Waits, Unknown}
use Rattle.sync_slices.specs.Slices.{stream_upto, marks_then, is_too_much}
use Rattle.sync_provider.specs.Queueing.{limits_of}
use Rattle.sync_provider.specs.Machine.{judged_by}
use Rattle.sync_provider.specs.Opened.{SearchOpening, opening_of_ask, sliced_of}
use Rattle.sync_provider.specs.Search.{busy_end}
use Rattle.sync_provider.specs.Searching.{reply_to}
use Rattle.sync_provider.specs.declared.handed.Handed.{Handed}
use Rattle.sync_provider.specs.declared.handed.Handed.TheVariants as turns
use Rattle.sync_provider.specs.declared.handed_messages.HandedMessages.{HandedMessages}
use Rattle.sync_provider.specs.declared.handed_messages.HandOutStop.{HandOutStop}
use Rattle.sync_provider.specs.declared.handed_messages.HandOutStop.TheVariants as stops
use Rattle.sync_provider.specs.declared.journal_note.ClosedSearch.{ClosedSearch}
use Rattle.sync_provider.specs.declared.journal_note.JournalNote.{JournalNote}
use Rattle.sync_provider.specs.declared.journal_note.JournalNote.TheVariants.{Wrote, Opened, Closed}
use Rattle.sync_provider.specs.declared.provider.Kind.{Kind}
use Rattle.sync_provider.specs.declared.provider.Kind.TheVariants.{Root}
use Rattle.sync_provider.specs.declared.searches.Accepted.{Accepted}
use Rattle.sync_provider.specs.declared.searches.Accepted.TheVariants as accepted
use Rattle.sync_provider.specs.declared.searches.SyncSearch.{SyncSearch}
use Rattle.sync_provider.specs.declared.searching.PlainSearch.{PlainSearch}
use Rattle.sync_provider.specs.declared.searching.SearchReply.{SearchReply}
use Rattle.sync_provider.specs.declared.searching.SearchReply.TheVariants as found
use Rattle.sync_provider.specs.declared.writing.CommitFault.{CommitFault}
use Rattle.sync_provider.specs.declared.writing.CommitFault.TheVariants.{NotAReplica}
use Rattle.sync_provider.specs.declared.writing.Reply.{Reply}

-- ---- the journal

-- the entries of a journal, each with the number of the port whose call added it
abbrev pub Journal : Type 0
Journal = List (JournalNote × ℕ)

-- the writes of a journal
abbrev pub write_in : JournalNote → List Write
write_in (Wrote write) = write ∷ []
write_in (Opened opening) = []
write_in (Closed end) = []

abbrev pub writes_in : Journal → List Write
writes_in [] = []
writes_in (e ∷ journal) = write_in e.0 ++ writes_in journal

-- whether a search is open under a number after an entry, by whether one was before
abbrev pub open_after : ℕ → Bool → JournalNote → Bool
open_after number was (Wrote write) = was
open_after number was (Opened opening) = cond (nat_eq number opening.number) true was
open_after number was (Closed end) = cond (nat_eq number end.number) false was

abbrev pub open_from : ℕ → Bool → Journal → Bool
open_from number was [] = was
open_from number was (e ∷ journal) = open_from number (open_after number was e.0) journal

-- a search is open under this number
abbrev pub is_open : Journal → ℕ → Bool
is_open journal number = open_from number false journal

-- the smallest number, of those up to 64, under which no search is open
abbrev pub free_in : Journal → Option ℕ
free_in journal = find (λ number. not (is_open journal number)) (numbers_from 1 64)

-- ---- a search that a port opened

-- how it was opened, how many of its messages were handed out, at which numbers of writes its
-- pieces were decided, and whether a write was too much for it since
pub record FollowedSearch : Type 0 where
  pub opened : SearchOpening
  pub handed : ℕ
  pub marks : List ℕ
  pub over : Bool

-- all its messages up to the writes of a directory, where what is left of its walk is decided there
abbrev pub stream_in : DirectoryState → FollowedSearch → List SyncMessage
stream_in d f = stream_upto (sliced_of d f.opened) f.marks (length d.writes)

-- those that are not handed out; where a write was too much, the end with the code busy
abbrev pub pending_in : DirectoryState → FollowedSearch → List SyncMessage
pending_in d f = cond f.over (busy_end ∷ []) (drop f.handed (stream_in d f))

abbrev pub turn_in : DirectoryState → Option FollowedSearch → HandOut
turn_in d None = Unknown
turn_in d (Some f) = turn_of_pending f.opened.id (pending_in d f)

-- after a write: too much are more messages of later writes, or heavier ones, that are not handed
-- out than the search may have pending, or while pieces are left more identities that changed
abbrev pub followed_after : ℕ → DirectoryState → Write → FollowedSearch → FollowedSearch
followed_after limit d write f = record f {
  over =
      f.over
      || is_too_much (limits_of limit) (sliced_of (with_write d write) f.opened) f.marks f.handed
      (length d.writes);
}

-- how many messages had been handed out when a write was too much
abbrev pub over_at : FollowedSearch → Option ℕ
over_at f = cond f.over (Some f.handed) None

-- ---- what a port knows

-- its number and how many ports its directory has, 0 and 0 for a provider by itself; the kind of
-- the directory, the directory after the writes of the journal, and how many messages of later
-- writes each search may have pending; the journal that it has seen; and the searches that it
-- opened and that are open, by their numbers
pub record PortState : Type 0 where
  pub number : ℕ
  pub ports : ℕ
  pub kind : Kind
  pub directory : DirectoryState
  pub queue_limit : ℕ
  pub journal : Journal
  pub followed : ℕ → Option FollowedSearch

-- the directory has the writes of the journal
abbrev pub HasItsWrites : PortState → Type 0
HasItsWrites p = writes_in p.journal ≡ p.directory.writes

abbrev pub with_entry : PortState → JournalNote → ℕ → PortState
with_entry p note by = record p { journal = p.journal ++ (note, by) ∷ [] }

-- after an entry: a write is made, and noted for each search
abbrev pub noted : PortState → JournalNote → ℕ → PortState
noted p (Wrote write) by = record p {
  journal = p.journal ++ (Wrote write, by) ∷ [];
  directory = with_write p.directory write;
  followed = λ n. option_map (followed_after p.queue_limit p.directory write) (p.followed n);
}
noted p (Opened opening) by = with_entry p (Opened opening) by
noted p (Closed end) by = with_entry p (Closed end) by

abbrev pub noted_all : PortState → Journal → PortState
noted_all p [] = p
noted_all p (e ∷ journal) = noted_all (noted p e.0 e.1) journal

-- entries of other ports of its directory came in since, whose numbers go from 1 up to how many
-- ports it has
pub record IsLater (old new : PortState) : Type 0 where
  pub entries : Journal
  pub others : All (λ e. (e.1 ≢ old.number) × (1 ≤ e.1) × (e.1 ≤ old.ports)) entries
  pub is : new ≡ noted_all old entries

-- a call at a port: entries of other ports come in first, and then it is replied to
pub record IsReplied (old : PortState) (Replies : PortState → Type 0) : Type 0 where
  pub place : PortState
  pub later : IsLater old place
  pub replies : Replies place

-- what another port has seen is how the journal begins that a port has seen
pub record HasSeenAllOf (port other : PortState) : Type 0 where
  pub more : Journal
  pub begins : port.journal ≡ other.journal ++ more

-- a port may meet another one where they are ports of a directory, or where it would learn nothing
abbrev pub CanMeet : (port other : PortState) → Type 0
CanMeet port other = (0 < port.ports) ⊎ HasSeenAllOf port other

-- a port that met another one of its directory: entries of other ports came in, and its journal
-- goes on from what the other port has seen
pub record HasMet (old beside new : PortState) : Type 0 where
  pub later : IsLater old new
  pub seen : HasSeenAllOf new beside

-- ---- writes

-- an accepted write is an entry of this port
abbrev pub wrote_in : PortState → Result Write ℕ → PortState
wrote_in p (Ok write) = noted p (Wrote write) p.number
wrote_in p (Err code) = p

pub record WriteReplies
    (p : PortState) (op : Op) (now : ℕ) (reply : Reply) (new : PortState) : Type 0 where
  pub code :
      reply.code ≢ OTHER → reply.code ≡ code_of_judged (judged_by p.kind p.directory op now)
  pub state : reply.code ≢ OTHER → new ≡ wrote_in p (judged_by p.kind p.directory op now)
  pub err : reply.code ≡ OTHER → new ≡ p
  pub number : reply.number ≡ length new.directory.writes

abbrev pub committed_by : PortState → Op → ℕ → Option CommitFault → PortState
committed_by p op now None = wrote_in p (judged p.directory op now)
committed_by p op now (Some fault) = p

-- a commit that nothing rejects is an entry of this port
abbrev pub committed_in : PortState → List Entry → List ℕ → ℕ → PortState
committed_in p puts drops now =
    committed_by p (Commit puts drops) now (commit_refusal p.kind p.directory puts drops now)

pub record CommitReplies
    (p : PortState) (puts : List Entry) (drops : List ℕ) (now : ℕ)
    (result : Result ℕ CommitFault) (new : PortState) : Type 0 where
  pub accepted : OnOk result (commit_refusal p.kind p.directory puts drops now ≡ None)
  pub refused : IfErr result (RejectsCommit (commit_refusal p.kind p.directory puts drops now))
  pub root : IsErrOf result NotAReplica ↔ p.kind ≡ Root
  pub state : OnOk result (new ≡ committed_in p puts drops now)
  pub err : OnErr result (new ≡ p)
  pub number : IfOk result (λ number. number ≡ length new.directory.writes)
  pub one : IfOk result (λ number. number ≡ length p.directory.writes + 1)

-- ---- questions

pub record SearchReplies
    (p : PortState) (ask : PlainSearch) (reply : SearchReply) (new : PortState) : Type 0 where
  pub answer : reply ≢ found.NoMemory → reply ≡ reply_to (entries_of p.directory) ask
  pub state : new ≡ p

pub record CompareReplies
    (p : PortState) (dn : List (List TypeAndValue)) (name value : List ℕ) (code : ℕ)
    (new : PortState) : Type 0 where
  pub answer : code ≢ OTHER → code ≡ compare_code (entries_of p.directory) dn name value
  pub state : new ≡ p

-- each write was accepted on the entries before it, and has a CSN above those before it; each CSN
-- is in range, and what a client asked for is well formed
pub record WritesReplies (p : PortState) (number : ℕ) (new : PortState) : Type 0 where
  pub answer : number ≡ length p.directory.writes
  pub small : number < 2 ^ 63
  pub accepted : AreAccepted p.directory.suffix p.directory.history p.directory.writes
  pub rises : CsnsRise p.directory.sid p.directory.writes
  pub formed : AreFormed p.directory.writes
  pub state : new ≡ p

-- ---- searches with content synchronisation

-- the answer to a search by its request, where this number is free
abbrev pub answer_by :
    DirectoryState → Option ℕ → SyncSearch → Result SyncRequest SyncFault → Accepted
answer_by d free ask (Err fault) = accepted.Refused PROTOCOL_ERROR
answer_by d free ask (Ok request) =
    if is_at_or_below ask.spec.base d.suffix then numbered d request free
    else accepted.Refused NO_SUCH_OBJECT

abbrev pub answer_in : PortState → SyncSearch → Accepted
answer_in p ask = answer_by p.directory (free_in p.journal) ask (request_of ask.control)

-- a search that is opened is an entry of this port, which follows it
abbrev pub opened_in : PortState → SearchOpening → PortState
opened_in p opened = record p {
  journal = p.journal ++ (Opened opened, p.number) ∷ [];
  followed = λ n. cond (nat_eq n opened.number)
      (Some
      (record { opened = opened; handed = 0; marks = opened.accepted ∷ []; over = false }))
      (p.followed n);
}

abbrev pub accepted_in : PortState → SyncSearch → Accepted → PortState
accepted_in p ask (accepted.Opened number writes) =
    opened_in p (opening_of_ask p.directory ask number)
accepted_in p ask (accepted.Refused code) = p
accepted_in p ask accepted.NoMemory = p

pub record AcceptReplies
    (p : PortState) (ask : SyncSearch) (result : Accepted) (new : PortState) : Type 0 where
  pub answer : AnswersAccept result (answer_in p ask)
  pub state : new ≡ accepted_in p ask result

-- the numbers of writes at its pieces once one of its messages more is handed out at these writes
abbrev pub marks_in : DirectoryState → FollowedSearch → List ℕ
marks_in d f = marks_then (sliced_of d f.opened) f.handed (length d.writes) f.marks

-- one of its messages more was handed out
abbrev pub followed_on : DirectoryState → FollowedSearch → FollowedSearch
followed_on d f = record f { handed = f.handed + 1; marks = marks_in d f }

abbrev pub handed_in : PortState → ℕ → FollowedSearch → PortState
handed_in p number f = record p {
  followed = λ n. cond (nat_eq n number) (Some (followed_on p.directory f)) (p.followed n);
}

-- the end of a search is an entry of this port, which follows it no more
abbrev pub ended_in : PortState → ℕ → ClosedSearch → PortState
ended_in p number end = record p {
  journal = p.journal ++ (Closed end, p.number) ∷ [];
  followed = λ n. cond (nat_eq n number) None (p.followed n);
}

abbrev pub end_of : ℕ → FollowedSearch → ClosedSearch
end_of number f =
    record { number = number; handed = f.handed; over = over_at f }

-- the end of a search that its last message closes
abbrev pub closing_of : ℕ → FollowedSearch → ClosedSearch
closing_of number f = record (end_of number f) { handed = f.handed + 1 }

-- out of memory is no turn; only a search that the port follows has a message
abbrev pub after_turn_in : PortState → ℕ → Option FollowedSearch → Option HandOut → PortState
after_turn_in p number search None = p
after_turn_in p number None (Some turn) = p
after_turn_in p number (Some f) (Some (Hands message)) = handed_in p number f
after_turn_in p number (Some f) (Some (Closes code message)) =
    ended_in p number (closing_of number f)
after_turn_in p number (Some f) (Some Waits) = p
after_turn_in p number (Some f) (Some Unknown) = p

pub record HandOutReplies
    (p : PortState) (number : ℕ) (result : Handed) (new : PortState) : Type 0 where
  pub turn : IfSome (turn_of result) (λ turn. turn ≡ turn_in p.directory (p.followed number))
  pub memory :
      result ≡ turns.NoMemory → has_message (turn_in p.directory (p.followed number)) ≡ true
  pub state : new ≡ after_turn_in p number (p.followed number) (turn_of result)

-- messages of one search, one after the other, and then one reply more, or none
abbrev pub MessagesReply : PortState → ℕ → List Message → Option Handed → PortState → Type 0
MessagesReply p number [] None new = new ≡ p
MessagesReply p number [] (Some reply) new = HandOutReplies p number reply new
MessagesReply p number (message ∷ messages) reply new =
    (between : PortState) × HandOutReplies p number (turns.Message message) between
    × MessagesReply between number messages reply new

-- as many messages as were asked for, or fewer, which something else stops
abbrev pub IsWithin : (most count : ℕ) → HandOutStop → Type 0
IsWithin most count stops.Enough = count ≡ most
IsWithin most count (stops.Ended code message) = count < most
IsWithin most count stops.Nothing = count < most
IsWithin most count stops.NoSuchSearch = count < most
IsWithin most count stops.NoMemory = count < most

pub record SeveralReplies
    (p : PortState) (number most : ℕ) (given : HandedMessages) (new : PortState) : Type 0 where
  pub within : IsWithin most (length given.messages.items) given.stop
  pub replies : MessagesReply p number given.messages.items (reply_of given.stop) new

abbrev pub dropped_in : PortState → ℕ → Option FollowedSearch → PortState
dropped_in p number None = p
dropped_in p number (Some f) = ended_in p number (end_of number f)

pub record DropReplies
    (p : PortState) (number : ℕ) (result : Bool) (new : PortState) : Type 0 where
  pub was_open : result ≡ is_some (p.followed number)
  pub state : new ≡ dropped_in p number (p.followed number)
