-- What the calls of a provider answer, and what they leave. Each call says so of itself by its
-- clause `leaves`, but for the changes of limits, whose only clause is what stands here.
use Rattle.std.specs.Prelude.{◌≡◌, ◌≢◌, ◌↔◌, ℕ, ◌+◌, Bool, true, cond, nat_eq, List, [], ◌∷◌, length, flat_map, None, is_some, Result, Ok, Err, IfOk, IfErr, IfSome, OnOk, OnErr, IsErrOf}
use Rattle.ldap_constants.specs.declared.result_codes.TheConstants.{SUCCESS, OTHER}
use Rattle.entry_tree.specs.declared.entry.Entry.{Entry}
use Rattle.entry_tree.specs.declared.op.Op.{Op}
use Rattle.sync_provider.specs.Accepting as accepting
use Rattle.sync_provider.specs.Committing.{commit_refusal, RejectsCommit}
use Rattle.sync_provider.specs.HandingOut as handing
use Rattle.sync_provider.specs.Machine.{ProviderState, ProviderCall, wrote, write_code, committed, commit_calls, committed_each, refusal_of_each, dropped, log_limited, queue_limited, run}
use Rattle.sync_provider.specs.Machine.{ProviderCall as calls}
use Rattle.sync_provider.specs.declared.committing.StagedCommit.{StagedCommit}
use Rattle.sync_provider.specs.declared.handed.Handed.{Handed}
use Rattle.sync_provider.specs.declared.handed.Handed.TheVariants as handed
use Rattle.sync_provider.specs.declared.provider.Kind.TheVariants.{Root}
use Rattle.sync_provider.specs.declared.searches.Accepted.{Accepted}
use Rattle.sync_provider.specs.declared.searches.Accepted.TheVariants as accepted
use Rattle.sync_provider.specs.declared.searches.SyncSearch.{SyncSearch}
use Rattle.sync_provider.specs.declared.writing.CommitFault.{CommitFault}
use Rattle.sync_provider.specs.declared.writing.CommitFault.TheVariants.{NotAReplica}
use Rattle.sync_provider.specs.declared.writing.Reply.{Reply}

-- ---- what each call may leave, by its answer

pub record WriteLeaves
    (old : ProviderState) (op : Op) (now : ℕ) (reply : Reply) (new : ProviderState) : Type 0 where
  pub code : reply.code ≢ OTHER → reply.code ≡ write_code old op now
  pub state : reply.code ≢ OTHER → new ≡ wrote old op now
  pub err : reply.code ≡ OTHER → new ≡ old
  pub number : reply.number ≡ length new.directory.writes

pub record CommitLeaves
    (old : ProviderState) (puts : List Entry) (drops : List ℕ) (now : ℕ)
    (result : Result ℕ CommitFault) (new : ProviderState) : Type 0 where
  pub accepted : OnOk result (commit_refusal old.kind old.directory puts drops now ≡ None)
  pub refused : IfErr result (RejectsCommit (commit_refusal old.kind old.directory puts drops now))
  pub root : IsErrOf result NotAReplica ↔ old.kind ≡ Root
  pub state : OnOk result (new ≡ committed old puts drops now)
  pub err : OnErr result (new ≡ old)
  pub number : IfOk result (λ number. number ≡ length new.directory.writes)
  pub one : IfOk result (λ number. number ≡ length old.directory.writes + 1)

pub record CommitsLeave
    (old : ProviderState) (commits : List StagedCommit) (now : ℕ)
    (result : Result ℕ CommitFault) (new : ProviderState) : Type 0 where
  pub accepted : OnOk result (refusal_of_each old commits now ≡ None)
  pub refused : IfErr result (RejectsCommit (refusal_of_each old commits now))
  pub state : OnOk result (new ≡ committed_each old commits now)
  pub err : OnErr result (new ≡ old)
  pub number : IfOk result (λ number. number ≡ length new.directory.writes)

pub record AcceptLeaves
    (old : ProviderState) (ask : SyncSearch) (result : Accepted)
    (new : ProviderState) : Type 0 where
  pub answer : accepting.AnswersAccept result (accepting.answer_to old.directory old.searches ask)
  pub state :
      new ≡ record old { searches = accepting.after_answer old.directory old.searches ask result }

pub record HandOutLeaves
    (old : ProviderState) (number : ℕ) (result : Handed) (new : ProviderState) : Type 0 where
  pub turn : IfSome (handing.turn_of result) (λ turn.
      turn ≡ handing.turn_at old.directory old.searches number)
  pub memory :
      result ≡ handed.NoMemory
      → handing.has_message (handing.turn_at old.directory old.searches number) ≡ true
  pub state :
      new
      ≡ record old {
        searches =
            handing.after_a_turn old.directory old.searches number (handing.turn_of result);
      }

pub record DropLeaves
    (old : ProviderState) (number : ℕ) (result : Bool) (new : ProviderState) : Type 0 where
  pub was_open : result ≡ is_some (handing.search_at old.searches number)
  pub state : new ≡ dropped old number

-- ---- lists of calls with their answers

-- a call, and what it answered
pub data Answered : Type 0 where
  Wrote : (op : Op) (now : ℕ) (reply : Reply) → Answered
  Committed :
      (puts : List Entry) (drops : List ℕ) (now : ℕ) (result : Result ℕ CommitFault) → Answered
  CommittedEach : (commits : List StagedCommit) (now : ℕ) (result : Result ℕ CommitFault) → Answered
  Accepts : (ask : SyncSearch) (result : Accepted) → Answered
  HandedOut : (number : ℕ) (result : Handed) → Answered
  Dropped : (number : ℕ) (result : Bool) → Answered
  LimitedLog : (limit : ℕ) → Answered
  LimitedQueue : (limit : ℕ) → Answered

-- what may be left of a provider where a call answered so
abbrev pub MayLeave : ProviderState → Answered → ProviderState → Type 0
MayLeave old (Wrote op now reply) new = WriteLeaves old op now reply new
MayLeave old (Committed puts drops now result) new = CommitLeaves old puts drops now result new
MayLeave old (CommittedEach commits now result) new = CommitsLeave old commits now result new
MayLeave old (Accepts ask result) new = AcceptLeaves old ask result new
MayLeave old (HandedOut number result) new = HandOutLeaves old number result new
MayLeave old (Dropped number result) new = DropLeaves old number result new
MayLeave old (LimitedLog limit) new = new ≡ log_limited old limit
MayLeave old (LimitedQueue limit) new = new ≡ queue_limited old limit

-- what may be left where calls answered so one after another
abbrev pub Leads : ProviderState → List Answered → ProviderState → Type 0
Leads old [] new = new ≡ old
Leads old (call ∷ later) new =
    (between : ProviderState) × MayLeave old call between × Leads between later new

-- ---- the calls that count

abbrev pub calls_of_result : List ProviderCall → Result ℕ CommitFault → List ProviderCall
calls_of_result calls (Ok number) = calls
calls_of_result calls (Err fault) = []

abbrev pub calls_of_accepted : SyncSearch → Accepted → List ProviderCall
calls_of_accepted ask (accepted.Opened number writes) = calls.Accepts ask ∷ []
calls_of_accepted ask (accepted.Refused code) = []
calls_of_accepted ask accepted.NoMemory = []

abbrev pub calls_of_handed : ℕ → Handed → List ProviderCall
calls_of_handed number (handed.Message message) = calls.HandsOut number ∷ []
calls_of_handed number (handed.Ended code message) = calls.HandsOut number ∷ []
calls_of_handed number handed.Nothing = []
calls_of_handed number handed.NoSuchSearch = []
calls_of_handed number handed.NoMemory = []

-- a call that was refused, also when out of memory, counts as none, and so does
-- a hand-out of nothing
abbrev pub calls_of : Answered → List ProviderCall
calls_of (Wrote op now reply) = cond (nat_eq reply.code SUCCESS) (calls.Writes op now ∷ []) []
calls_of (Committed puts drops now result) =
    calls_of_result (calls.Commits puts drops now ∷ []) result
calls_of (CommittedEach commits now result) = calls_of_result (commit_calls commits now) result
calls_of (Accepts ask result) = calls_of_accepted ask result
calls_of (HandedOut number result) = calls_of_handed number result
calls_of (Dropped number result) = calls.Drops number ∷ []
calls_of (LimitedLog limit) = calls.SetsLogLimit limit ∷ []
calls_of (LimitedQueue limit) = calls.SetsQueueLimit limit ∷ []

-- over every list of calls, whatever they answered, the provider is as after those that count
-- alone, each of which does all that it does where memory suffices
abbrev pub RefusalsCountAsNone : Type 0
RefusalsCountAsNone =
    (old new : ProviderState) (answered : List Answered) → Leads old answered new
    → new ≡ run old (flat_map calls_of answered)
