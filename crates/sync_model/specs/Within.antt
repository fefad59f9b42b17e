-- What a copy makes of each message within the limits of a directory.
use Rattle.std.specs.Prelude.{ℕ, Bool, true, false, cond, ◌&&◌, List, [], ◌∷◌, Option, Some, None, option_map}
use Rattle.entry_tree.specs.declared.entry.Entry.{Entry}
pub use Rattle.entry_tree.specs.State.{exceeds_limits, same_named}
use Rattle.sync_model.specs.Message.{SyncMessage}
use Rattle.sync_model.specs.Message.SyncMessage.{AddOrModify, Delete, Present, IdSet, NewCookie, RefreshDelete, RefreshPresent, Done, Ignored}
use Rattle.sync_model.specs.Copy.{SyncSession, Copy, Fault, Answer, puts_of, refused, taken}
use Rattle.sync_model.specs.Copy.Fault.{StageFull, DuplicateName}
use Rattle.sync_model.specs.Copy.Answer.{Staged, Stored, Copied, Over, Refused}

abbrev pub puts_entry : SyncMessage → Bool
puts_entry (AddOrModify adds entry cookie) = true
puts_entry (Delete uuid name cookie) = false
puts_entry (Present uuid cookie) = false
puts_entry (IdSet deletes uuids cookie) = false
puts_entry (NewCookie cookie) = false
puts_entry (RefreshDelete done cookie) = false
puts_entry (RefreshPresent done cookie) = false
puts_entry (Done code control) = false
puts_entry Ignored = false

abbrev pub staged_puts : Option SyncSession → List Entry
staged_puts None = []
staged_puts (Some session) = puts_of session.stage

-- what rejects the entries that a stage left
abbrev pub against : List Entry → Option Fault
against entries =
    cond (exceeds_limits entries) (Some StageFull)
    (option_map (λ (pair : ℕ × ℕ). DuplicateName pair.0 pair.1) (same_named entries))

-- the puts of the stage are counted and weighed at each put, and the entries wherever
-- the stage takes effect
abbrev pub limit_fault : (puts : Bool) → Copy → Answer → Option Fault
limit_fault puts after Staged =
    cond (puts && exceeds_limits (staged_puts after.session)) (Some StageFull) None
limit_fault puts after (Stored commit) =
    cond (puts && exceeds_limits commit.puts) (Some StageFull) (against after.held)
limit_fault puts after (Copied commit) =
    cond (puts && exceeds_limits commit.puts) (Some StageFull) (against after.held)
limit_fault puts after (Over code) = None
limit_fault puts after (Refused fault) = None

abbrev pub refused_by : Option Fault → Copy → Copy × Answer → Copy × Answer
refused_by None before outcome = outcome
refused_by (Some fault) before outcome = refused before fault

-- a message of this ID
abbrev pub taken_within : ℕ → Copy → SyncMessage → Copy × Answer
taken_within id copy message =
    refused_by
    (limit_fault (puts_entry message) (taken id copy message).0 (taken id copy message).1) copy
    (taken id copy message)

abbrev pub taken_all_within : ℕ → Copy → List SyncMessage → Copy
taken_all_within id copy [] = copy
taken_all_within id copy (message ∷ messages) =
    taken_all_within id (taken_within id copy message).0 messages

abbrev pub answers_within : ℕ → Copy → List SyncMessage → List Answer
answers_within id copy [] = []
answers_within id copy (message ∷ messages) =
    (taken_within id copy message).1 ∷ answers_within id (taken_within id copy message).0 messages
