-- What the ends of phases come to.
use Rattle.std.proofs.Common.{◌≡◌, Bool, true, false, cond, List, [], Option, Some, None, is_some, Ok, refl, sym, ap, ◌∙◌, subst}
use Rattle.std.proofs.Math.Bool.{or-false, or-true}
use Rattle.std.specs.Prelude.{not, ◌||◌}
use Rattle.std.specs.Option.{option_or}
use Rattle.entry_tree.specs.declared.entry.Entry.{Entry}
use Rattle.sync_model.specs.Message.{CookieText}
use Rattle.sync_model.specs.Copy as model
use Rattle.sync_model.specs.Copy.{Stage, SyncSession, Copy, Answer, effected, present_ended, commit_of, refreshed, ends_phase, persists_on}
use Rattle.sync_model.specs.Copy.Answer.{Stored, Copied}
use Rattle.sync_model.specs.Within.{against, refused_by}
use Rattle.sync_consumer.specs.declared.commit.Commit.{Commit}
use Rattle.sync_consumer.specs.declared.consumer.Taken.{Taken}
use Rattle.sync_consumer.specs.declared.consumer.Taken.TheVariants as taken
use Rattle.sync_consumer.specs.declared.held.HeldContent.{HeldContent}
use Rattle.sync_consumer.specs.declared.session.SyncSession as kept
use Rattle.sync_consumer.specs.declared.session.SearchStep.TheVariants.{Goes, Ends}
use Rattle.sync_consumer.specs.SyncSession.{session_of, copy_of, copy_with, within, refresh_ended, IsTakenAs, StepsTo}
use Rattle.sync_consumer.specs.Taking.{taken_commit}
use Rattle.sync_wire.specs.Requesting.{persists}
use Rattle.sync_consumer.proofs.Outcomes.{limited}

-- the end of a phase, by what is staged then
pub ends_as : (held : List Entry) (session : SyncSession) (deletes : Bool)
    → ends_phase held session deletes ≡ record session { stage = (ends_phase held session deletes).stage; ended = session.ended || not deletes }
ends_as held session true = λ i. record session { ended = sym (or-false session.ended) i }
ends_as held session false =
    λ i. record session { stage = present_ended session.named session.stage held; ended = sym (or-true session.ended) i }

-- ---- the end of a refresh

abbrev pub answered_by_end : (has_cookie : Bool) → model.Commit → Answer
answered_by_end true commit = Stored commit
answered_by_end false commit = Copied commit

-- the stage takes effect, but for what rejects that
pub refreshed_within : (before copy : Copy) (session : SyncSession) (cookie : Option CookieText) (next : Option SyncSession)
    → limited false before (refreshed copy session cookie next) ≡ refused_by (against (effected copy.held session.stage)) before
    (record { held = effected copy.held session.stage; cookie = option_or cookie copy.cookie; session = next }, answered_by_end (is_some cookie) (commit_of session.stage cookie))
refreshed_within before copy session None next = refl
refreshed_within before copy session (Some cookie) next = refl

answers_end : (has_cookie : Bool) (commit : Commit) (found : model.Commit) → commit ≡ taken_commit found
    → IsTakenAs (cond has_cookie (taken.Stored commit) (taken.Copied commit)) (answered_by_end has_cookie found)
answers_end true commit found is = (found, refl, is)
answers_end false commit found is = (found, refl, is)

step_end : (goes : Bool) (answer_taken : Taken) (held : HeldContent) (session : kept.SyncSession) (held' : HeldContent) (session' : kept.SyncSession) (outcome : Copy × Answer)
    → outcome.0 ≡ copy_of held' (cond goes (Some (session_of session')) None) → IsTakenAs answer_taken outcome.1
    → StepsTo held session held' session' (Ok (cond goes (Goes answer_taken) (Ends answer_taken))) outcome
step_end true answer_taken held session held' session' outcome same answers = (same, answers)
step_end false answer_taken held session held' session' outcome same answers = (same, answers)

-- what a refresh that ends leaves of the search
abbrev pub refreshed_on : kept.SyncSession → (deletes : Bool) → SyncSession
refreshed_on session deletes = record (session_of session) { persisting = true; ended = session.ended || not deletes; named = []; stage = [] }

-- the stage takes effect
pub refresh_steps : (held : HeldContent) (session : kept.SyncSession) (held' : HeldContent) (session' : kept.SyncSession) (deletes : Bool) (cookie : Option CookieText) (commit : Commit) (stage : Stage)
    → stage ≡ (ends_phase held.entries (session_of session) deletes).stage
    → against (effected held.entries stage) ≡ None
    → held'.entries ≡ effected held.entries stage → held'.cookie ≡ option_or cookie held.cookie
    → commit ≡ taken_commit (commit_of stage cookie) → session_of session' ≡ refreshed_on session deletes
    → StepsTo held session held' session' (Ok (cond (persists session.mode) (Goes (cond (is_some cookie) (taken.Stored commit) (taken.Copied commit))) (Ends (cond (is_some cookie) (taken.Stored commit) (taken.Copied commit)))))
    (within false held session (refresh_ended (copy_with held session) (session_of session) deletes cookie))
refresh_steps held session held' session' deletes cookie commit stage staged off entries kept_cookie answer_taken after =
    let copy : Copy = copy_with held session in
    let now : SyncSession = ends_phase held.entries (session_of session) deletes in
    let ends : now ≡ record (session_of session) { stage = now.stage; ended = session.ended || not deletes } =
    ends_as held.entries (session_of session) deletes in
    let same : now.stage ≡ stage = sym staged in
    let next : persists_on now ≡ session_of session' = ap persists_on ends ∙ sym after in
    let on : Option SyncSession = cond (persists session.mode) (Some (persists_on now)) None in
    let met : against (effected held.entries now.stage) ≡ None = ap (λ (s : Stage). against (effected held.entries s)) same ∙ off in
    let outcome : Copy × Answer = (record { held = effected held.entries now.stage; cookie = option_or cookie held.cookie; session = on }, answered_by_end (is_some cookie) (commit_of now.stage cookie)) in
    let is : limited false copy (refreshed copy now cookie on) ≡ outcome =
    refreshed_within copy copy now cookie on ∙ ap (λ (f : Option model.Fault). refused_by f copy outcome) met in
    subst (λ (o : Copy × Answer). StepsTo held session held' session'
    (Ok (cond (persists session.mode) (Goes (cond (is_some cookie) (taken.Stored commit) (taken.Copied commit))) (Ends (cond (is_some cookie) (taken.Stored commit) (taken.Copied commit))))) o) (sym is)
    (step_end (persists session.mode) (cond (is_some cookie) (taken.Stored commit) (taken.Copied commit)) held session held' session' outcome
    (λ i. record {
      held = (ap (effected held.entries) same ∙ sym entries) i;
      cookie = sym kept_cookie i;
      session = cond (persists session.mode) (Some (next i)) None;
    })
    (answers_end (is_some cookie) commit (commit_of now.stage cookie) (answer_taken ∙ ap (λ (s : Stage). taken_commit (commit_of s cookie)) (sym same))))
