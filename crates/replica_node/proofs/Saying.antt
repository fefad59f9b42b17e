-- What a message that was taken makes of a copy, by what it says.
use Rattle.std.proofs.Common.{◌≡◌, ℕ, Bool, true, false, cond, nat_eq, List, [], ◌∷◌, ◌++◌, Option, Some, None, Result, Ok, refl, sym, ap, subst, ◌∙◌}
use Rattle.std.specs.Prelude.{not, ◌||◌, ◌&&◌, find}
use Rattle.std.proofs.lemmas.Bool.{true≢false}
use Rattle.ldap_messages.specs.declared.message.Message.{Message}
use Rattle.sync_consumer.specs.Taking.{Takes, answer_taken, taken_as, taken_by, taken_fault, taken_of, without_search}
use Rattle.sync_consumer.specs.declared.consumer.Taken.{Taken}
use Rattle.sync_consumer.specs.declared.consumer.Taken.TheVariants.{Staged, Stored, Copied, Over, Fault, NoMemory}
use Rattle.sync_consumer.specs.declared.fault.PeerFault.{PeerFault}
use Rattle.sync_consumer.specs.declared.fault.PeerFault.TheVariants as peer
use Rattle.sync_model.proofs.Prefixes.{AllQuiet, IsQuiet, is_effect}
use Rattle.sync_model.specs.Copy.{Answer as answer, Copy, SyncSession, all_dropped, ends_phase, goes_on, is_known, named_unless, refused, staged, taken, taken_in, taken_info, taken_names, with_cookie}
use Rattle.sync_model.specs.Copy as model
use Rattle.sync_model.specs.Copy.Fault.{OutOfPlace}
use Rattle.sync_model.specs.Message.{CookieText, SyncMessage}
use Rattle.sync_model.specs.Message.SyncMessage.{AddOrModify, Delete, Present, IdSet, NewCookie, RefreshDelete, RefreshPresent, Done, Ignored}
use Rattle.sync_model.specs.Within.{limit_fault, puts_entry, refused_by, taken_within}
use Rattle.sync_wire.specs.Decoding.{said}
use Rattle.sync_wire.specs.Kind.{tag_of}
use Rattle.sync_wire.specs.declared.fault.DecodeFault.{DecodeFault}
use Rattle.replica_node.specs.Prefixes.{Carries}
use Rattle.replica_node.specs.Rounds.{search_id}

-- ---- a quiet message has no effect

silent_if : (b : Bool) (one other : Copy × model.Answer) → is_effect one.1 ≡ false → is_effect other.1 ≡ false → is_effect (cond b one other).1 ≡ false
silent_if true one other first second = first
silent_if false one other first second = second

silent_cookie : (copy : Copy) (session : SyncSession) (cookie : Option CookieText) → cookie ≡ None → is_effect (with_cookie copy session cookie).1 ≡ false
silent_cookie copy session None none = refl
silent_cookie copy session (Some cookie) none = let never : ⊥ = cc in absurd never

silent_unless : (unknown : Option ℕ) (copy : Copy) (session : SyncSession) (uuids : List ℕ) → is_effect (named_unless unknown copy session uuids).1 ≡ false
silent_unless None copy session uuids = refl
silent_unless (Some uuid) copy session uuids = refl

silent_names : (copy : Copy) (session : SyncSession) (uuids : List ℕ) → is_effect (taken_names copy session uuids).1 ≡ false
silent_names copy session uuids =
    silent_if session.persisting (refused copy OutOfPlace) (named_unless (find (λ uuid. not (is_known copy.held session.stage uuid)) uuids) copy session uuids) refl
    (silent_unless (find (λ uuid. not (is_known copy.held session.stage uuid)) uuids) copy session uuids)

silent_phase : (copy : Copy) (session : SyncSession) (deletes done : Bool) (cookie : Option CookieText) → done ≡ false → is_effect (taken_info copy session deletes done cookie).1 ≡ false
silent_phase copy session deletes true cookie quiet = absurd (true≢false quiet)
silent_phase copy session deletes false cookie quiet =
    silent_if (session.persisting || ((false && not session.persists) || (not deletes && session.ended))) (refused copy OutOfPlace) (goes_on copy (ends_phase copy.held session deletes)) refl refl

silent_in : (message : SyncMessage) (copy : Copy) (session : SyncSession) → IsQuiet message → is_effect (taken_in copy session message).1 ≡ false
silent_in (AddOrModify adds entry cookie) copy session quiet = silent_cookie copy (record session { stage = staged entry.uuid (Some entry) session.stage }) cookie quiet
silent_in (Delete uuid name cookie) copy session quiet = silent_cookie copy (record session { stage = staged uuid None session.stage }) cookie quiet
silent_in (Present uuid cookie) copy session quiet = silent_names copy session (uuid ∷ [])
silent_in (IdSet true uuids cookie) copy session quiet = silent_cookie copy (record session { stage = all_dropped session.stage uuids }) cookie quiet
silent_in (IdSet false uuids cookie) copy session quiet = silent_names copy session uuids
silent_in (NewCookie cookie) copy session quiet = absurd quiet
silent_in (RefreshDelete done cookie) copy session quiet = silent_phase copy session true done cookie quiet
silent_in (RefreshPresent done cookie) copy session quiet = silent_phase copy session false done cookie quiet
silent_in (Done code control) copy session quiet = absurd quiet
silent_in Ignored copy session quiet = refl

silent_one : (message : SyncMessage) (id : ℕ) (copy : Copy) → IsQuiet message → is_effect (taken id copy message).1 ≡ false
silent_one message id copy quiet = by copy.session
  where
    by : (session : Option SyncSession) → is_effect (model.taken_by session id copy message).1 ≡ false
    by None = refl
    by (Some session) = silent_if (nat_eq id session.id) (taken_in copy session message) (refused copy OutOfPlace) (silent_in message copy session quiet) refl

last_quiet : (front : List SyncMessage) (message : SyncMessage) → AllQuiet (front ++ message ∷ []) → IsQuiet message
last_quiet [] message quiet = quiet.0
last_quiet (first ∷ front) message quiet = last_quiet front message quiet.1

-- where a message has an effect, not all messages up to it are quiet
pub effect_last : (front : List SyncMessage) (message : SyncMessage) (id : ℕ) (copy : Copy) → is_effect (taken id copy message).1 ≡ true → AllQuiet (front ++ message ∷ []) → ⊥
effect_last front message id copy effect quiet = true≢false (sym effect ∙ silent_one message id copy (last_quiet front message quiet))

-- ---- a message that was taken

-- the search goes on after it
abbrev pub IsGoing : Taken → Type 0
IsGoing Staged = Unit {0}
IsGoing (Stored commit) = Unit {0}
IsGoing (Copied commit) = Unit {0}
IsGoing (Over code) = ⊥
IsGoing (Fault found) = ⊥
IsGoing NoMemory = ⊥

-- a stage took effect
abbrev pub takes_effect : Taken → Bool
takes_effect Staged = false
takes_effect (Stored commit) = true
takes_effect (Copied commit) = true
takes_effect (Over code) = false
takes_effect (Fault found) = false
takes_effect NoMemory = false

-- what the model says that it leads to
pub record IsStep (copy : Copy) (sync : SyncMessage) (after : Copy) (took : Taken) : Type 0 where
  pub copy_is : after ≡ (taken search_id copy sync).0
  pub effect : takes_effect took ≡ true → is_effect (taken search_id copy sync).1 ≡ true

takes_is : (took : Taken) (copy : Copy) (message : Message) (after : Copy) → IsGoing took → Takes copy message after took → (after, took) ≡ taken_of copy message
takes_is Staged copy message after going takes = takes
takes_is (Stored commit) copy message after going takes = takes
takes_is (Copied commit) copy message after going takes = takes
takes_is (Over code) copy message after going takes = absurd going
takes_is (Fault found) copy message after going takes = absurd going
takes_is NoMemory copy message after going takes = absurd going

effect_answer : (tag : ℕ) (given : model.Answer) → takes_effect (answer_taken tag given) ≡ true → is_effect given ≡ true
effect_answer tag answer.Staged is = let never : ⊥ = cc in absurd never
effect_answer tag (answer.Stored commit) is = refl
effect_answer tag (answer.Copied commit) is = refl
effect_answer tag (answer.Over code) is = refl
effect_answer tag (answer.Refused found) is = let never : ⊥ = cc in absurd never

-- no fault, where the search goes on
not_fault : (took : Taken) (found : PeerFault) → IsGoing took → took ≡ Fault found → ⊥
not_fault took found going is = subst IsGoing is going

-- the limits let it through
within_limits : (tag : ℕ) (copy : Copy) (sync : SyncMessage) (after : Copy) (took : Taken) → IsGoing took
    → ◌≡◌ {A = Copy × Taken} (after, took) ((taken_within search_id copy sync).0, answer_taken tag (taken_within search_id copy sync).1) → IsStep copy sync after took
within_limits tag copy sync after took going is = by (limit_fault (puts_entry sync) (taken search_id copy sync).0 (taken search_id copy sync).1) is
  where
    outcome : Copy × model.Answer
    outcome = taken search_id copy sync

    by : (found : Option model.Fault)
        → ◌≡◌ {A = Copy × Taken} (after, took) ((refused_by found copy outcome).0, answer_taken tag (refused_by found copy outcome).1) → IsStep copy sync after took
    by None is = record {
      copy_is = ap (λ (o : Copy × Taken). o.0) is;
      effect = λ on. effect_answer tag outcome.1 (ap takes_effect (sym (ap (λ (o : Copy × Taken). o.1) is)) ∙ on);
    }
    by (Some found) is = absurd (not_fault took (taken_fault tag found) going (ap (λ (o : Copy × Taken). o.1) is))

-- where the search goes on, the copy is as the model has it after what the message says
pub step_is : (took : Taken) (copy : Copy) (message : Message) (after : Copy) (sync : SyncMessage) → IsGoing took → Takes copy message after took → Carries message sync → IsStep copy sync after took
step_is took copy message after sync going takes says = by copy.session (takes_is took copy message after going takes)
  where
    tag : ℕ
    tag = tag_of message.op

    outside : ◌≡◌ {A = Copy × Taken} (after, took) (without_search copy, Fault (peer.OutOfPlace tag)) → ⊥
    outside is = not_fault took (peer.OutOfPlace tag) going (ap (λ (o : Copy × Taken). o.1) is)

    by_said : (what : Result SyncMessage DecodeFault) → what ≡ Ok sync → (after, took) ≡ taken_as tag message.id copy what → IsStep copy sync after took
    by_said what saying is =
        within_limits tag copy sync after took going
        (subst (λ (id : ℕ). ◌≡◌ {A = Copy × Taken} (after, took) ((taken_within id copy sync).0, answer_taken tag (taken_within id copy sync).1)) says.own
        (subst (λ (w : Result SyncMessage DecodeFault). (after, took) ≡ taken_as tag message.id copy w) saying is))

    by_id : (own : Bool) (session : SyncSession) → (after, took) ≡ cond own (taken_as tag message.id copy (said session.persisting message)) (without_search copy, Fault (peer.OutOfPlace tag))
        → IsStep copy sync after took
    by_id true session is = by_said (said session.persisting message) (says.says session.persisting) is
    by_id false session is = absurd (outside is)

    by : (session : Option SyncSession) → (after, took) ≡ taken_by session copy message → IsStep copy sync after took
    by None is = absurd (outside is)
    by (Some session) is = by_id (nat_eq message.id session.id) session is
