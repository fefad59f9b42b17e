-- A consumer, what it asks for, and what it makes of each message.
use Rattle.std.specs.Prelude.{◌≡◌, ⊤, ℕ, Bool, true, false, ◌==◌, nat_lt, if◌then◌else◌, List, [], Option, Some, None, Result, Ok, Err}
use Rattle.std.specs.List.{list_all}
use Rattle.entry_tree.specs.Fitting.{is_within_entry_limit}
use Rattle.entry_tree.specs.Selection.{Search}
use Rattle.entry_tree.specs.Sound.{is_sound_put}
use Rattle.entry_tree.specs.declared.commit.CommitRefusal.{CommitRefusal}
use Rattle.entry_tree.specs.declared.commit.CommitRefusal.TheVariants as opposing
use Rattle.entry_tree.specs.declared.entry.Entry.{Entry}
use Rattle.ldap_messages.specs.declared.message.Message.{Message}
use Rattle.ldap_messages.specs.Whole.{MessageValue}
use Rattle.sync_messages.specs.Request as control
use Rattle.sync_messages.specs.declared.request.Mode.{Mode}
use Rattle.sync_messages.specs.declared.request.SyncRequest.{SyncRequest}
use Rattle.sync_model.specs.Message.{SyncMessage}
use Rattle.sync_model.specs.Copy as model
use Rattle.sync_model.specs.Copy.{Answer as answer, Fault as fault}
use Rattle.sync_model.specs.Within.{taken_within}
use Rattle.sync_wire.specs.Decoding.{said}
use Rattle.sync_wire.specs.Kind.{tag_of}
use Rattle.sync_wire.specs.Requesting.{persists, search_request}
use Rattle.sync_wire.specs.declared.fault.DecodeFault.{DecodeFault}
use Rattle.sync_wire.specs.declared.fault.DecodeFault.TheVariants as decoding
use Rattle.sync_consumer.specs.declared.commit.Commit.{Commit}
use Rattle.sync_consumer.specs.Staging.{is_above, up_to}
use Rattle.sync_consumer.specs.declared.consumer.Taken.{Taken}
use Rattle.sync_consumer.specs.declared.consumer.Taken.TheVariants.{Staged, Stored, Copied, Over, Fault, NoMemory}
use Rattle.sync_consumer.specs.declared.fault.PeerFault.{PeerFault}
use Rattle.sync_consumer.specs.declared.fault.PeerFault.TheVariants as peer
use Rattle.sync_consumer.specs.declared.fault.Refusal.{Refusal}
use Rattle.sync_consumer.specs.declared.fault.Refusal.TheVariants as refusal

-- what is wanted, whether it is taken as new where the cookie does not serve, and the copy
pub record ConsumerState : Type 0 where
  pub spec : Search
  pub reload : Bool
  pub copy : model.Copy

-- no entries, no cookie and no search
abbrev pub nothing : model.Copy
nothing = record { held = []; cookie = None; session = None }

-- the same entries, of which another search reports from now on: no cookie reports what it
-- selected, and no search runs
abbrev pub wanting : ConsumerState → Search → ConsumerState
wanting following search =
    record following {
      spec = search;
      copy = record following.copy { cookie = None; session = None };
    }

-- ---- the request

-- what is asked for with its control
abbrev pub asked_of : ConsumerState → Mode → SyncRequest
asked_of following mode =
    record { mode = mode; cookie = following.copy.cookie; reload_hint = following.reload }

abbrev pub request_of : ConsumerState → ℕ → Mode → MessageValue
request_of following id mode =
    search_request following.spec id mode following.reload following.copy.cookie

-- the value of the control of a request is read again as what is asked
abbrev pub IsReadAgain : ConsumerState → Mode → Type 0
IsReadAgain following mode =
    control.request_of (control.request_octets (asked_of following mode))
    ≡ Ok (asked_of following mode)

-- the search that was asked for with this message ID has begun
abbrev pub requesting : ConsumerState → ℕ → Mode → ConsumerState
requesting following id mode =
    record following { copy = model.asked id (persists mode) following.copy }

-- ---- what is reported

abbrev pub taken_fault : ℕ → model.Fault → PeerFault
taken_fault tag fault.OutOfPlace = peer.OutOfPlace tag
taken_fault tag (fault.PresentUnknown uuid) = peer.PresentUnknown uuid
taken_fault tag fault.StageFull = peer.StageFull
taken_fault tag (fault.DuplicateName one other) = peer.DuplicateName one other

abbrev pub taken_commit : model.Commit → Commit
taken_commit commit = record { puts = commit.puts; drops = commit.drops; cookie = commit.cookie }

-- of a message whose operation has this tag
abbrev pub answer_taken : ℕ → model.Answer → Taken
answer_taken tag answer.Staged = Staged
answer_taken tag (answer.Stored commit) = Stored (taken_commit commit)
answer_taken tag (answer.Copied commit) = Copied (taken_commit commit)
answer_taken tag (answer.Over code) = Over code
answer_taken tag (answer.Refused found) = Fault (taken_fault tag found)

-- what is reported of a message that says nothing
abbrev pub refusal_of : DecodeFault → Refusal
refusal_of decoding.OutOfPlace = refusal.OutOfPlace
refusal_of decoding.BadValue = refusal.Fault peer.BadValue
refusal_of (decoding.UuidDiffers uuid other) = refusal.Fault (peer.UuidDiffers uuid other)
refusal_of (decoding.BadEntry code) = refusal.Fault (peer.BadEntry code)
refusal_of decoding.NoMemory = refusal.NoMemory

-- what is reported of entries that a directory may not have
abbrev pub refusal_against : CommitRefusal → Refusal
refusal_against opposing.TooMany = refusal.Fault peer.StageFull
refusal_against opposing.TooHeavy = refusal.Fault peer.StageFull
refusal_against (opposing.SameName one other) = refusal.Fault (peer.DuplicateName one other)
refusal_against opposing.NoMemory = refusal.NoMemory

abbrev pub taken_refusal : ℕ → Refusal → Taken
taken_refusal tag refusal.OutOfPlace = Fault (peer.OutOfPlace tag)
taken_refusal tag (refusal.Fault found) = Fault found
taken_refusal tag refusal.NoMemory = NoMemory

-- ---- each message

-- a search runs whose refresh is done, and which goes on
abbrev pub is_persisting : Option model.SyncSession → Bool
is_persisting None = false
is_persisting (Some session) = session.persisting

abbrev pub without_search : model.Copy → model.Copy
without_search copy = record copy { session = None }

abbrev pub taken_as : ℕ → ℕ → model.Copy → Result SyncMessage DecodeFault → model.Copy × Taken
taken_as tag id copy (Err found) = (without_search copy, taken_refusal tag (refusal_of found))
taken_as tag id copy (Ok message) =
    ((taken_within id copy message).0, answer_taken tag (taken_within id copy message).1)

-- by the search that runs: the ID of its messages comes first, then what the message says, then
-- what that leads to
abbrev pub taken_by : Option model.SyncSession → model.Copy → Message → model.Copy × Taken
taken_by None copy message = (without_search copy, Fault (peer.OutOfPlace (tag_of message.op)))
taken_by (Some session) copy message =
    if message.id == session.id
    then taken_as (tag_of message.op) message.id copy (said session.persisting message)
    else (without_search copy, Fault (peer.OutOfPlace (tag_of message.op)))

abbrev pub taken_of : model.Copy → Message → model.Copy × Taken
taken_of copy message = taken_by copy.session copy message

-- the copy before a message and after it, and what is reported of it; out of memory
-- leaves all as it was
abbrev pub Takes : model.Copy → Message → model.Copy → Taken → Type 0
Takes before message after NoMemory = after ≡ before
Takes before message after Staged = (after, Staged) ≡ taken_of before message
Takes before message after (Stored commit) = (after, Stored commit) ≡ taken_of before message
Takes before message after (Copied commit) = (after, Copied commit) ≡ taken_of before message
Takes before message after (Over code) = (after, Over code) ≡ taken_of before message
Takes before message after (Fault found) = (after, Fault found) ≡ taken_of before message

-- all that a stage puts and drops is above the identity
abbrev pub IsBeyond : ℕ → Commit → Type 0
IsBeyond uuid commit =
    (is_above uuid commit.puts ≡ true) × (list_all (nat_lt uuid) commit.drops ≡ true)

-- the entries up to an identity are as before where all that a stage puts and drops is above it
abbrev pub KeepsPrefix : model.Copy → model.Copy → Commit → Type 0
KeepsPrefix before after commit =
    (uuid : ℕ) → IsBeyond uuid commit → up_to uuid after.held ≡ up_to uuid before.held

-- the entries are as before, other than where a stage took effect, from the first identity on that
-- it puts or drops
abbrev pub KeepsEntries : model.Copy → model.Copy → Taken → Type 0
KeepsEntries before after Staged = after.held ≡ before.held
KeepsEntries before after (Stored commit) = KeepsPrefix before after commit
KeepsEntries before after (Copied commit) = KeepsPrefix before after commit
KeepsEntries before after (Over code) = after.held ≡ before.held
KeepsEntries before after (Fault found) = after.held ≡ before.held
KeepsEntries before after NoMemory = after.held ≡ before.held

-- the cookie is as before, other than where one came with a stage that took effect, or the search
-- was refused for it
abbrev pub KeepsCookie : model.Copy → model.Copy → Taken → Type 0
KeepsCookie before after Staged = after.cookie ≡ before.cookie
KeepsCookie before after (Stored commit) = after.cookie ≡ commit.cookie
KeepsCookie before after (Copied commit) = after.cookie ≡ before.cookie
KeepsCookie before after (Over code) = after.cookie ≡ (model.over before code).0.cookie
KeepsCookie before after (Fault found) = after.cookie ≡ before.cookie
KeepsCookie before after NoMemory = after.cookie ≡ before.cookie

-- ---- commits of replicas

-- entries as a commit of a replica puts them: their values are of their types' syntax, no type is
-- operational, and each weighs no more than an entry of a directory may
pub record AreFit (entries : List Entry) : Type 0 where
  pub sound : list_all is_sound_put entries ≡ true
  pub light : list_all is_within_entry_limit entries ≡ true

-- what a stage that took effect puts is fit for a commit of a replica
abbrev pub PutsFit : Taken → Type 0
PutsFit Staged = ⊤
PutsFit (Stored commit) = AreFit commit.puts
PutsFit (Copied commit) = AreFit commit.puts
PutsFit (Over code) = ⊤
PutsFit (Fault found) = ⊤
PutsFit NoMemory = ⊤
