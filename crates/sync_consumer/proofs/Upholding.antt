-- What each message leaves of a consumer's copy: entries that may be held, and a stage that is ready; what took effect can be committed.
use Rattle.std.proofs.Common.{◌≡◌, ℕ, Bool, true, false, ◌&&◌, cond, nat_eq, List, [], Option, Some, None, Result, Ok, Err, refl, sym, ap, ◌∙◌, subst}
use Rattle.std.specs.List.{list_all}
use Rattle.std.proofs.lemmas.Bool.{and_from}
use Rattle.entry_tree.specs.Effects.{committed}
use Rattle.entry_tree.specs.Fitting.{is_within_entry_limit, is_directory_content}
use Rattle.entry_tree.specs.declared.entry.Entry.{Entry}
use Rattle.ldap_messages.specs.declared.message.Message.{Message}
use Rattle.sync_model.specs.Message.{SyncMessage}
use Rattle.sync_model.specs.Copy as model
use Rattle.sync_model.specs.Copy.{Answer as answer, Copy, SyncSession, taken}
use Rattle.sync_model.specs.Copy.Fault.{StageFull}
use Rattle.sync_model.specs.Keeping.{Keeps, IsEffected}
use Rattle.sync_model.specs.Within.{exceeds_limits, puts_entry, against, limit_fault, refused_by, taken_within}
use Rattle.sync_model.proofs.Keeping.{taking_keeps}
use Rattle.sync_wire.specs.Decoding.{said}
use Rattle.sync_wire.specs.Kind.{tag_of}
use Rattle.sync_wire.specs.declared.fault.DecodeFault.{DecodeFault}
use Rattle.sync_consumer.specs.declared.consumer.Taken.{Taken}
use Rattle.sync_consumer.specs.declared.consumer.Taken.TheVariants.{Staged, Stored, Copied, Over, Fault, NoMemory}
use Rattle.sync_consumer.specs.declared.fault.PeerFault.TheVariants as peer
use Rattle.sync_consumer.specs.declared.fault.Refusal.{Refusal}
use Rattle.sync_consumer.specs.declared.fault.Refusal.TheVariants as refusal
use Rattle.sync_consumer.specs.declared.held.HeldContent.{HeldContent}
use Rattle.sync_consumer.specs.declared.session.SyncSession as own
use Rattle.sync_consumer.specs.Committing.{HaveUniqueNames, IsCommit, CanBeCommitted, IsReady, IsReadyOn, stage_in}
use Rattle.sync_consumer.specs.Holding.{IsConsumerContent}
use Rattle.sync_consumer.specs.SyncSession.{copy_with}
use Rattle.sync_consumer.specs.Taking.{PutsFit, Takes, KeepsEntries, KeepsCookie, refusal_of, taken_commit, answer_taken, taken_refusal, without_search, taken_as, taken_by, taken_of}
use Rattle.sync_consumer.proofs.Fits.{Leaves, AnswerFits, Says, none_ready, taking_fits, says_operation}
use Rattle.sync_consumer.proofs.Naming.{named_apart, held_allowed}
use Rattle.sync_consumer.proofs.Effecting.{nothing_held, after_held}
use Rattle.sync_consumer.proofs.Takings.{takes_keeps}

-- ---- without a search, and where one begins

held_same : (before after : List Entry) → after ≡ before → IsConsumerContent before → IsConsumerContent after
held_same before after same held = subst (λ (es : List Entry). IsConsumerContent es) (sym same) held

-- a consumer without entries keeps its invariant
pub nothing_kept : (entries : List Entry) → entries ≡ [] → IsReadyOn entries []
nothing_kept entries none = record { held = held_same [] entries none nothing_held; staged = none_ready }

-- the invariant holds without a search
pub idle_kept : (entries : List Entry) (stage : model.Stage) → IsReadyOn entries stage → IsReadyOn entries []
idle_kept entries stage kept = record { held = kept.held; staged = none_ready }

-- the invariant holds when a search begins
pub begun_kept : (entries : List Entry) (stage : model.Stage) (id : ℕ) (persists : Bool) (copy : Copy) (session : Option SyncSession) → IsReadyOn entries stage
    → session ≡ (model.asked id persists copy).session → IsReadyOn entries (stage_in session)
begun_kept entries stage id persists copy session kept is = subst (λ (r : Option SyncSession). IsReadyOn entries (stage_in r)) (sym is) (idle_kept entries stage kept)

-- the invariant holds of an equal consumer
pub same_kept : (entries entries' : List Entry) (session session' : Option SyncSession) → entries' ≡ entries → session' ≡ session → IsReadyOn entries (stage_in session)
    → IsReadyOn entries' (stage_in session')
same_kept entries entries' session session' is same kept =
    subst (λ (es : List Entry). IsReadyOn es (stage_in session')) (sym is) (subst (λ (r : Option SyncSession). IsReadyOn entries (stage_in r)) (sym same) kept)

-- ---- the entries may be held

held_effected : (before after : Copy) (commit : model.Commit) → IsEffected before after commit → against after.held ≡ None → IsConsumerContent before.held → IsConsumerContent after.held
held_effected before after commit is none held =
    after_held before.held after.held is.stage held.0 (ap (λ es. against es) (sym is.held) ∙ none) is.held

nothing_against : (crowded : Bool) (found : Option model.Fault) → cond crowded (Some StageFull) found ≡ None → found ≡ None
nothing_against true found none = absurd (cc)
nothing_against false found none = none

answer_held : (puts : Bool) (before after : Copy) (given : model.Answer) → Keeps before after given → limit_fault puts after given ≡ None → IsConsumerContent before.held → IsConsumerContent after.held
answer_held puts before after answer.Staged keeps none held = held_same before.held after.held keeps.held held
answer_held puts before after (answer.Stored commit) keeps none held =
    held_effected before after commit keeps.0 (nothing_against (puts && exceeds_limits commit.puts) (against after.held) none) held
answer_held puts before after (answer.Copied commit) keeps none held =
    held_effected before after commit keeps.0 (nothing_against (puts && exceeds_limits commit.puts) (against after.held) none) held
answer_held puts before after (answer.Over code) keeps none held = held_same before.held after.held (ap (λ (c : Copy). c.held) keeps) held
answer_held puts before after (answer.Refused found) keeps none held = held_same before.held after.held (ap (λ (c : Copy). c.held) keeps) held

limits_held : (puts : Bool) (before : Copy) (found : Option model.Fault) (outcome : Copy × model.Answer) → limit_fault puts outcome.0 outcome.1 ≡ found
    → Keeps before (refused_by found before outcome).0 (refused_by found before outcome).1 → IsConsumerContent before.held → IsConsumerContent (refused_by found before outcome).0.held
limits_held puts before None outcome is keeps held = answer_held puts before outcome.0 outcome.1 keeps is held
limits_held puts before (Some found) outcome is keeps held = held

-- what a copy holds after a message may be held
pub message_held : (id : ℕ) (copy : Copy) (message : SyncMessage) → IsConsumerContent copy.held → IsConsumerContent (taken_within id copy message).0.held
message_held id copy message held =
    limits_held (puts_entry message) copy (limit_fault (puts_entry message) (taken id copy message).0 (taken id copy message).1) (taken id copy message) refl
    (taking_keeps id copy message) held

-- ---- and what takes effect can be committed

record Upholds (before : Copy) (outcome : Copy × Taken) : Type 0 where
  pub kept : IsConsumerContent before.held → IsReadyOn outcome.0.held (stage_in outcome.0.session)
  pub fit : PutsFit outcome.1
  pub committed : IsConsumerContent before.held → CanBeCommitted before outcome.0 outcome.1

commit_is : (before after : List Entry) (commit : model.Commit) → Leaves before after commit → IsConsumerContent before → IsConsumerContent after → IsCommit before after (taken_commit commit)
commit_is before after commit leaves held held' = record {
  fits = and_from (list_all is_within_entry_limit commit.puts) (is_directory_content (committed before commit.puts commit.drops)) leaves.0.light (ap (λ es. is_directory_content es) (leaves.1 held.0) ∙ held_allowed after held'.1);
  leaves = leaves.1 held.0;
}

answered_upholds : (tag : ℕ) (before after : Copy) (given : model.Answer) → IsReady (stage_in after.session) → AnswerFits before.held after.held given
    → (IsConsumerContent before.held → IsConsumerContent after.held) → Upholds before (after, answer_taken tag given)
answered_upholds tag before after answer.Staged ready fit held = record { kept = λ h. record { held = held h; staged = ready }; fit = tt; committed = λ h. tt }
answered_upholds tag before after (answer.Stored commit) ready fit held =
    record { kept = λ h. record { held = held h; staged = ready }; fit = fit.0; committed = λ h. commit_is before.held after.held commit fit h (held h) }
answered_upholds tag before after (answer.Copied commit) ready fit held =
    record { kept = λ h. record { held = held h; staged = ready }; fit = fit.0; committed = λ h. commit_is before.held after.held commit fit h (held h) }
answered_upholds tag before after (answer.Over code) ready fit held = record { kept = λ h. record { held = held h; staged = ready }; fit = tt; committed = λ h. tt }
answered_upholds tag before after (answer.Refused found) ready fit held = record { kept = λ h. record { held = held h; staged = ready }; fit = tt; committed = λ h. tt }

refusal_upholds : (tag : ℕ) (before : Copy) (found : Refusal) → Upholds before (without_search before, taken_refusal tag found)
refusal_upholds tag before refusal.OutOfPlace = record { kept = λ h. record { held = h; staged = none_ready }; fit = tt; committed = λ h. tt }
refusal_upholds tag before (refusal.Fault found) = record { kept = λ h. record { held = h; staged = none_ready }; fit = tt; committed = λ h. tt }
refusal_upholds tag before refusal.NoMemory = record { kept = λ h. record { held = h; staged = none_ready }; fit = tt; committed = λ h. tt }

said_upholds : (tag id : ℕ) (before : Copy) (what : Result SyncMessage DecodeFault) → Says what → IsReady (stage_in before.session) → Upholds before (taken_as tag id before what)
said_upholds tag id before (Err found) says ready = refusal_upholds tag before (refusal_of found)
said_upholds tag id before (Ok message) says ready =
    let fit = taking_fits id before message says ready in
    answered_upholds tag before (taken_within id before message).0 (taken_within id before message).1 fit.0 fit.1 (message_held id before message)

own_upholds : (own : Bool) (before : Copy) (one other : Copy × Taken) → Upholds before one → Upholds before other → Upholds before (cond own one other)
own_upholds true before one other upholds upholds' = upholds
own_upholds false before one other upholds upholds' = upholds'

by_upholds : (search : Option SyncSession) (before : Copy) (message : Message) → IsReady (stage_in before.session) → Upholds before (taken_by search before message)
by_upholds None before message ready = refusal_upholds (tag_of message.op) before refusal.OutOfPlace
by_upholds (Some session) before message ready =
    own_upholds (nat_eq message.id session.id) before (taken_as (tag_of message.op) message.id before (said session.persisting message))
    (without_search before, Fault (peer.OutOfPlace (tag_of message.op)))
    (said_upholds (tag_of message.op) message.id before (said session.persisting message) (says_operation session.persisting message.controls message.op) ready)
    (refusal_upholds (tag_of message.op) before refusal.OutOfPlace)

outcome_upholds : (before after : Copy) (message : Message) (result : Taken) → (after, result) ≡ taken_of before message → IsReady (stage_in before.session) → Upholds before (after, result)
outcome_upholds before after message result is ready = subst (λ (o : Copy × Taken). Upholds before o) (sym is) (by_upholds before.session before message ready)

takes_upholds : (result : Taken) (before : Copy) (message : Message) (after : Copy) → Takes before message after result → IsReady (stage_in before.session) → Upholds before (after, result)
takes_upholds NoMemory before message after is ready =
    subst (λ (c : Copy). Upholds before (c, NoMemory)) (sym is) (record { kept = λ h. record { held = h; staged = ready }; fit = tt; committed = λ h. tt })
takes_upholds Staged before message after is ready = outcome_upholds before after message Staged is ready
takes_upholds (Stored commit) before message after is ready = outcome_upholds before after message (Stored commit) is ready
takes_upholds (Copied commit) before message after is ready = outcome_upholds before after message (Copied commit) is ready
takes_upholds (Over code) before message after is ready = outcome_upholds before after message (Over code) is ready
takes_upholds (Fault found) before message after is ready = outcome_upholds before after message (Fault found) is ready

-- ---- all that is reported of a message

-- what `Consumer::take` promises of a message
pub record IsTaken (before : Copy) (message : Message) (after : Copy) (result : Taken) : Type 0 where
  pub exact : Takes before message after result
  pub entries : KeepsEntries before after result
  pub cookie : KeepsCookie before after result
  pub fit : PutsFit result
  pub names : HaveUniqueNames after.held
  pub clear : is_directory_content after.held ≡ true
  pub committed : CanBeCommitted before after result
  pub kept : IsReadyOn after.held (stage_in after.session)

-- what is said of each answer
pub all_taken : (result : Taken) (before : Copy) (message : Message) (after : Copy) → Takes before message after result → IsReadyOn before.held (stage_in before.session)
    → IsTaken before message after result
all_taken result before message after is was =
    let stays = takes_keeps result before message after is in
    let upholds : Upholds before (after, result) = takes_upholds result before message after is was.staged in
    let now : IsReadyOn after.held (stage_in after.session) = upholds.kept was.held in
    record {
      exact = is;
      entries = stays.0;
      cookie = stays.1;
      fit = upholds.fit;
      names = named_apart after.held now.held.1;
      clear = held_allowed after.held now.held.1;
      committed = upholds.committed was.held;
      kept = now;
    }

-- what a search that runs makes of a message is all that `Consumer::take` promises
pub search_taken : (result : Taken) (held : HeldContent) (session : own.SyncSession) (message : Message) (before after : Copy)
    → before ≡ copy_with held session → Takes (copy_with held session) message after result
    → IsReadyOn before.held (stage_in before.session) → IsTaken before message after result
search_taken result held session message before after was is had =
    all_taken result before message after (subst (λ (b : Copy). Takes b message after result) (sym was) is) had
