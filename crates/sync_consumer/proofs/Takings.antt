-- What a consumer makes of a message, by its search's step.
use Rattle.std.proofs.Common.{◌≡◌, ℕ, Bool, true, false, cond, nat_eq, nat_lt, Option, Some, None, Result, Ok, Err, refl, sym, ap, ◌∙◌, subst}
use Rattle.std.proofs.lemmas.Bool.{eq-eqb, eqb-true}
use Rattle.ldap_messages.specs.declared.message.Message.{Message}
use Rattle.sync_model.specs.Message.{SyncMessage}
use Rattle.sync_model.specs.Copy as model
use Rattle.sync_model.specs.Copy.{Answer as answer, Fault as fault, taken, taken_in}
use Rattle.sync_model.specs.Keeping.{Keeps, IsEffected}
use Rattle.sync_model.specs.Within.{puts_entry, taken_within}
use Rattle.sync_model.proofs.Keeping.{taking_keeps}
use Rattle.sync_wire.specs.Decoding.{said}
use Rattle.sync_wire.specs.Kind.{tag_of}
use Rattle.sync_wire.specs.declared.fault.DecodeFault.{DecodeFault}
use Rattle.sync_consumer.specs.declared.consumer.Taken.{Taken}
use Rattle.sync_consumer.specs.declared.consumer.Taken.TheVariants.{Staged, Stored, Copied, Over, Fault, NoMemory}
use Rattle.sync_consumer.specs.declared.fault.PeerFault.{PeerFault}
use Rattle.sync_consumer.specs.declared.fault.PeerFault.TheVariants as peer
use Rattle.sync_consumer.specs.declared.fault.Refusal.{Refusal}
use Rattle.sync_consumer.specs.declared.fault.Refusal.TheVariants as refusal
use Rattle.sync_consumer.specs.declared.held.HeldContent.{HeldContent}
use Rattle.sync_consumer.specs.declared.session.SyncSession.{SyncSession}
use Rattle.sync_consumer.specs.declared.session.SearchStep.{SearchStep}
use Rattle.sync_consumer.specs.declared.session.SearchStep.TheVariants.{Goes, Ends}
use Rattle.std.specs.List.{list_all}
use Rattle.sync_consumer.specs.Staging.{is_above, up_to}
use Rattle.sync_consumer.proofs.Prefixes.{prefix_effected}
use Rattle.sync_consumer.specs.SyncSession.{session_of, copy_of, copy_with, within, IsTakenAs, refused_by, Refuses, StepsOn, decoded_by_search, taken_by_id, taken_by_search}
use Rattle.sync_consumer.specs.Taking.{refusal_of, taken_fault, taken_commit, answer_taken, taken_refusal, without_search, taken_as, taken_by, taken_of, Takes, KeepsPrefix, KeepsEntries, KeepsCookie}

-- ---- what stays

-- what an outcome keeps of the copy
abbrev KeepsBoth : model.Copy → model.Copy × Taken → Type 0
KeepsBoth before outcome = KeepsEntries before outcome.0 outcome.1 × KeepsCookie before outcome.0 outcome.1

refusal_keeps : (tag : ℕ) (before : model.Copy) (found : Refusal) → KeepsBoth before (without_search before, taken_refusal tag found)
refusal_keeps tag before refusal.OutOfPlace = (refl, refl)
refusal_keeps tag before (refusal.Fault answer_taken) = (refl, refl)
refusal_keeps tag before refusal.NoMemory = (refl, refl)

prefix_stays : (before after : model.Copy) (commit : model.Commit) → IsEffected before after commit → KeepsPrefix before after (taken_commit commit)
prefix_stays before after commit effect uuid beyond =
    ap (up_to uuid) effect.held
    ∙ prefix_effected uuid effect.stage before.held (ap (λ (c : model.Commit). is_above uuid c.puts) (sym effect.notified) ∙ beyond.0)
    (ap (λ (c : model.Commit). list_all (nat_lt uuid) c.drops) (sym effect.notified) ∙ beyond.1)

answer_keeps : (tag : ℕ) (before after : model.Copy) (given : model.Answer) → Keeps before after given → KeepsBoth before (after, answer_taken tag given)
answer_keeps tag before after answer.Staged keeps = (keeps.held, keeps.cookie)
answer_keeps tag before after (answer.Stored commit) keeps = (prefix_stays before after commit keeps.0, keeps.1)
answer_keeps tag before after (answer.Copied commit) keeps = (prefix_stays before after commit keeps.0, keeps.1)
answer_keeps tag before after (answer.Over code) keeps = (ap (λ (c : model.Copy). c.held) keeps, ap (λ (c : model.Copy). c.cookie) keeps)
answer_keeps tag before after (answer.Refused found) keeps = (ap (λ (c : model.Copy). c.held) keeps, ap (λ (c : model.Copy). c.cookie) keeps)

said_keeps : (tag id : ℕ) (before : model.Copy) (what : Result SyncMessage DecodeFault) → KeepsBoth before (taken_as tag id before what)
said_keeps tag id before (Err found) = refusal_keeps tag before (refusal_of found)
said_keeps tag id before (Ok message) =
    answer_keeps tag before (taken_within id before message).0 (taken_within id before message).1 (taking_keeps id before message)

own_keeps : (own : Bool) (before : model.Copy) (one other : model.Copy × Taken) → KeepsBoth before one → KeepsBoth before other → KeepsBoth before (cond own one other)
own_keeps true before one other keeps keeps' = keeps
own_keeps false before one other keeps keeps' = keeps'

by_keeps : (session : Option model.SyncSession) (before : model.Copy) (message : Message) → KeepsBoth before (taken_by session before message)
by_keeps None before message = (refl, refl)
by_keeps (Some session) before message =
    own_keeps (nat_eq message.id session.id) before (taken_as (tag_of message.op) message.id before (said session.persisting message))
    (without_search before, Fault (peer.OutOfPlace (tag_of message.op)))
    (said_keeps (tag_of message.op) message.id before (said session.persisting message)) (refl, refl)

outcome_keeps : (before after : model.Copy) (message : Message) (result : Taken) → (after, result) ≡ taken_of before message → KeepsBoth before (after, result)
outcome_keeps before after message result is = subst (λ (o : model.Copy × Taken). KeepsBoth before o) (sym is) (by_keeps before.session before message)

-- the entries and the cookie stay but where the answer says so
pub takes_keeps : (result : Taken) (before : model.Copy) (message : Message) (after : model.Copy)
    → Takes before message after result → KeepsEntries before after result × KeepsCookie before after result
takes_keeps NoMemory before message after is = (ap (λ (c : model.Copy). c.held) is, ap (λ (c : model.Copy). c.cookie) is)
takes_keeps Staged before message after is = outcome_keeps before after message Staged is
takes_keeps (Stored commit) before message after is = outcome_keeps before after message (Stored commit) is
takes_keeps (Copied commit) before message after is = outcome_keeps before after message (Copied commit) is
takes_keeps (Over code) before message after is = outcome_keeps before after message (Over code) is
takes_keeps (Fault found) before message after is = outcome_keeps before after message (Fault found) is

-- ---- a step is what the model says

-- what the model says that a message of the search leads to
abbrev outcome_of : HeldContent → SyncSession → SyncMessage → model.Copy × model.Answer
outcome_of held session message = within (puts_entry message) held session (taken_in (copy_with held session) (session_of session) message)

own_within : (held : HeldContent) (session : SyncSession) (id : ℕ) (message : SyncMessage) → id ≡ session.id
    → taken_within id (copy_with held session) message ≡ outcome_of held session message
own_within held session id message own = rw (eq-eqb id session.id own) refl

outcome_keeps_of : (held : HeldContent) (session : SyncSession) (message : SyncMessage)
    → Keeps (copy_with held session) (outcome_of held session message).0 (outcome_of held session message).1
outcome_keeps_of held session message =
    subst (λ (o : model.Copy × model.Answer). Keeps (copy_with held session) o.0 o.1) (own_within held session session.id message refl)
    (taking_keeps session.id (copy_with held session) message)

own_taken : (held : HeldContent) (session : SyncSession) (message : Message) (said_is : SyncMessage) → message.id ≡ session.id → said session.persisting message ≡ Ok said_is
    → taken_of (copy_with held session) message ≡ ((outcome_of held session said_is).0, answer_taken (tag_of message.op) (outcome_of held session said_is).1)
own_taken held session message said_is own is =
    rw (eq-eqb message.id session.id own, is) (ap (λ (o : model.Copy × model.Answer). (o.0, answer_taken (tag_of message.op) o.1)) (own_within held session message.id said_is own))

own_refused : (held : HeldContent) (session : SyncSession) (message : Message) (found : DecodeFault) → message.id ≡ session.id → said session.persisting message ≡ Err found
    → taken_of (copy_with held session) message ≡ (without_search (copy_with held session), taken_refusal (tag_of message.op) (refusal_of found))
own_refused held session message found own is = rw (eq-eqb message.id session.id own, is) refl

other_refused : (held : HeldContent) (session : SyncSession) (message : Message) → nat_eq message.id session.id ≡ false
    → taken_of (copy_with held session) message ≡ (without_search (copy_with held session), Fault (peer.OutOfPlace (tag_of message.op)))
other_refused held session message off = rw off refl

pair_of : {A B : Type 0} (a c : A) (b d : B) → a ≡ c → b ≡ d → ◌≡◌ {A = A × B} (a, b) (c, d)
pair_of a c b d p q = λ i. (p i, q i)

-- ---- steps that are no refusal

-- the copy after a step
abbrev pub after_step : SearchStep → HeldContent → SyncSession → model.Copy
after_step (Goes taken) held session = copy_of held (Some (session_of session))
after_step (Ends taken) held session = copy_of held None

-- what a step answers
abbrev pub answered_by : SearchStep → Taken
answered_by (Goes taken) = taken
answered_by (Ends taken) = taken

answers_answered : (result : Taken) (tag : ℕ) (given : model.Answer) → IsTakenAs result given → result ≡ answer_taken tag given
answers_answered Staged tag given answers = sym (ap (answer_taken tag) answers)
answers_answered (Stored commit) tag given answers = ap Stored answers.2 ∙ sym (ap (answer_taken tag) answers.1)
answers_answered (Copied commit) tag given answers = ap Copied answers.2 ∙ sym (ap (answer_taken tag) answers.1)
answers_answered (Over code) tag given answers = sym (ap (answer_taken tag) answers)
answers_answered (Fault found) tag given answers = absurd answers
answers_answered NoMemory tag given answers = absurd answers

takes_answered : (result : Taken) (before after : model.Copy) (message : Message) (given : model.Answer)
    → IsTakenAs result given → (after, result) ≡ taken_of before message → Takes before message after result
takes_answered Staged before after message given answers is = is
takes_answered (Stored commit) before after message given answers is = is
takes_answered (Copied commit) before after message given answers is = is
takes_answered (Over code) before after message given answers is = is
takes_answered (Fault found) before after message given answers is = is
takes_answered NoMemory before after message given answers is = absurd answers

answered_takes : (result : Taken) (after : model.Copy) (held : HeldContent) (session : SyncSession) (message : Message) (said_is : SyncMessage)
    → message.id ≡ session.id → said session.persisting message ≡ Ok said_is
    → (outcome_of held session said_is).0 ≡ after → IsTakenAs result (outcome_of held session said_is).1 → Takes (copy_with held session) message after result
answered_takes result after held session message said_is own is same answers =
    let outcome : model.Copy × model.Answer = outcome_of held session said_is in
    takes_answered result (copy_with held session) after message outcome.1 answers
    (pair_of after outcome.0 result (answer_taken (tag_of message.op) outcome.1) (sym same) (answers_answered result (tag_of message.op) outcome.1 answers)
    ∙ sym (own_taken held session message said_is own is))

step_takes : (step : SearchStep) (held : HeldContent) (session : SyncSession) (held' : HeldContent) (session' : SyncSession) (message : Message) (said_is : SyncMessage)
    → message.id ≡ session.id → said session.persisting message ≡ Ok said_is
    → StepsOn held session held' session' (Ok step) said_is → Takes (copy_with held session) message (after_step step held' session') (answered_by step)
step_takes (Goes taken) held session held' session' message said_is own is step =
    answered_takes taken (copy_of held' (Some (session_of session'))) held session message said_is own is step.0 step.1
step_takes (Ends taken) held session held' session' message said_is own is step =
    answered_takes taken (copy_of held' None) held session message said_is own is step.0 step.1

-- a step that is no refusal is what the model says
pub done_takes : (step : SearchStep) (held : HeldContent) (session : SyncSession) (held' : HeldContent) (session' : SyncSession) (message : Message)
    → taken_by_search held session held' session' (Ok step) message → Takes (copy_with held session) message (after_step step held' session') (answered_by step)
done_takes step held session held' session' message by = by_id (nat_eq message.id session.id) refl by
  where
    by_said : (what : Result SyncMessage DecodeFault) → said session.persisting message ≡ what → message.id ≡ session.id
        → decoded_by_search held session held' session' (Ok step) what → Takes (copy_with held session) message (after_step step held' session') (answered_by step)
    by_said (Ok said_is) is own by = step_takes step held session held' session' message said_is own is by
    by_said (Err found) is own by = let wrong : ⊥ = cc (by.1) in absurd wrong

    by_id : (own : Bool) → nat_eq message.id session.id ≡ own → taken_by_id own held session held' session' (Ok step) message
        → Takes (copy_with held session) message (after_step step held' session') (answered_by step)
    by_id true is by = by_said (said session.persisting message) refl (eqb-true message.id session.id is) by
    by_id false is by = let wrong : ⊥ = cc (by.1) in absurd wrong

-- ---- refusals

abbrev is_memory : Refusal → Bool
is_memory refusal.OutOfPlace = false
is_memory (refusal.Fault answer_taken) = false
is_memory refusal.NoMemory = true

answered_as : (found : model.Fault) (tag : ℕ) → taken_refusal tag (refused_by found) ≡ Fault (taken_fault tag found)
answered_as fault.OutOfPlace tag = refl
answered_as (fault.PresentUnknown uuid) tag = refl
answered_as fault.StageFull tag = refl
answered_as (fault.DuplicateName one other) tag = refl

-- a refusal that the outcome reports
refused_outcome : (before : model.Copy) (outcome : model.Copy × model.Answer) (tag : ℕ) (found : model.Fault) → Keeps before outcome.0 outcome.1 → outcome.1 ≡ answer.Refused found
    → ◌≡◌ {A = model.Copy × Taken} (without_search before, Fault (taken_fault tag found)) (outcome.0, answer_taken tag outcome.1)
refused_outcome before outcome tag found keeps is =
    let same : outcome.0 ≡ without_search before = subst (λ (a : model.Answer). Keeps before outcome.0 a) is keeps in
    pair_of (without_search before) outcome.0 (Fault (taken_fault tag found)) (answer_taken tag outcome.1) (sym same) (sym (ap (answer_taken tag) is))

refusal_outcome : (found : Refusal) (held : HeldContent) (session : SyncSession) (held' : HeldContent) (session' : SyncSession) (outcome : model.Copy × model.Answer) (tag : ℕ)
    → is_memory found ≡ false → Keeps (copy_with held session) outcome.0 outcome.1 → Refuses held session held' session' found outcome
    → ◌≡◌ {A = model.Copy × Taken} (without_search (copy_with held session), taken_refusal tag found) (outcome.0, answer_taken tag outcome.1)
refusal_outcome refusal.OutOfPlace held session held' session' outcome tag off keeps by = refused_outcome (copy_with held session) outcome tag fault.OutOfPlace keeps by.1
refusal_outcome (refusal.Fault found) held session held' session' outcome tag off keeps by =
    pair_of (without_search (copy_with held session)) (without_search (copy_with held session)) (taken_refusal tag (refusal.Fault found)) (Fault (taken_fault tag by.1.0)) refl (ap (taken_refusal tag) by.1.2 ∙ answered_as by.1.0 tag)
    ∙ refused_outcome (copy_with held session) outcome tag by.1.0 keeps by.1.1
refusal_outcome refusal.NoMemory held session held' session' outcome tag off keeps by = let wrong : ⊥ = cc in absurd wrong

same_held : (found : Refusal) (held : HeldContent) (session : SyncSession) (held' : HeldContent) (session' : SyncSession) (outcome : model.Copy × model.Answer)
    → Refuses held session held' session' found outcome → held' ≡ held
same_held refusal.OutOfPlace held session held' session' outcome by = by.0
same_held (refusal.Fault found) held session held' session' outcome by = by.0
same_held refusal.NoMemory held session held' session' outcome by = by.0

-- what is held stays, and the search is given up
refused_as : (found : Refusal) (held : HeldContent) (session : SyncSession) (held' : HeldContent) (session' : SyncSession) (message : Message) → is_memory found ≡ false
    → taken_by_id (nat_eq message.id session.id) held session held' session' (Err found) message
    → (copy_of held' None, taken_refusal (tag_of message.op) found) ≡ taken_of (copy_with held session) message
refused_as found held session held' session' message off by = by_id (nat_eq message.id session.id) refl by
  where
    kept : held' ≡ held
        → ◌≡◌ {A = model.Copy × Taken} (copy_of held' None, taken_refusal (tag_of message.op) found) (without_search (copy_with held session), taken_refusal (tag_of message.op) found)
    kept same =
        pair_of (copy_of held' None) (copy_of held None) (taken_refusal (tag_of message.op) found) (taken_refusal (tag_of message.op) found) (ap (λ (h : HeldContent). copy_of h None) same) refl

    given : (other : Refusal) → found ≡ other
        → ◌≡◌ {A = model.Copy × Taken} (without_search (copy_with held session), taken_refusal (tag_of message.op) found) (without_search (copy_with held session), taken_refusal (tag_of message.op) other)
    given other one =
        pair_of (copy_of held None) (copy_of held None) (taken_refusal (tag_of message.op) found) (taken_refusal (tag_of message.op) other) refl (ap (taken_refusal (tag_of message.op)) one)

    by_said : (what : Result SyncMessage DecodeFault) → said session.persisting message ≡ what → message.id ≡ session.id
        → decoded_by_search held session held' session' (Err found) what → (copy_of held' None, taken_refusal (tag_of message.op) found) ≡ taken_of (copy_with held session) message
    by_said (Ok said_is) is own by =
        kept (same_held found held session held' session' (outcome_of held session said_is) by)
        ∙ refusal_outcome found held session held' session' (outcome_of held session said_is) (tag_of message.op) off (outcome_keeps_of held session said_is) by
        ∙ sym (own_taken held session message said_is own is)
    by_said (Err other) is own by =
        let one : found ≡ refusal_of other = cc (by.1) in
        kept by.0 ∙ given (refusal_of other) one ∙ sym (own_refused held session message other own is)

    by_id : (own : Bool) → nat_eq message.id session.id ≡ own → taken_by_id own held session held' session' (Err found) message
        → (copy_of held' None, taken_refusal (tag_of message.op) found) ≡ taken_of (copy_with held session) message
    by_id true is by = by_said (said session.persisting message) refl (eqb-true message.id session.id is) by
    by_id false is by =
        let one : found ≡ refusal.OutOfPlace = cc (by.1) in
        kept by.0 ∙ given refusal.OutOfPlace one ∙ sym (other_refused held session message is)

-- a message that is out of place is refused as the definition says
pub out_of_place_takes : (held : HeldContent) (session : SyncSession) (held' : HeldContent) (session' : SyncSession) (message : Message)
    → taken_by_search held session held' session' (Err refusal.OutOfPlace) message
    → Takes (copy_with held session) message (copy_of held' None) (Fault (peer.OutOfPlace (tag_of message.op)))
out_of_place_takes held session held' session' message by = refused_as refusal.OutOfPlace held session held' session' message refl by

-- a message that is refused for a fault is refused as the definition says
pub fault_takes : (found : PeerFault) (held : HeldContent) (session : SyncSession) (held' : HeldContent) (session' : SyncSession) (message : Message)
    → taken_by_search held session held' session' (Err (refusal.Fault found)) message
    → Takes (copy_with held session) message (copy_of held' None) (Fault found)
fault_takes found held session held' session' message by = refused_as (refusal.Fault found) held session held' session' message refl by

-- where memory ran out all is as it was
pub memory_takes : (held : HeldContent) (session : SyncSession) (held' : HeldContent) (session' : SyncSession) (message : Message)
    → taken_by_search held session held' session' (Err refusal.NoMemory) message → Takes (copy_with held session) message (copy_with held' session') NoMemory
memory_takes held session held' session' message by = λ i. copy_with (by.0 i) (by.1 i)
