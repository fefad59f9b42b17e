-- What the steps of a search come to.
use Rattle.std.proofs.Common.{◌≡◌, ℕ, Bool, false, true, List, Option, Some, None, Ok, refl, sym, ap, ◌∙◌, subst}
use Rattle.std.specs.Prelude.{not, find}
use Rattle.sync_model.specs.Message.{CookieText}
use Rattle.sync_model.specs.Copy.{Stage, SyncSession, Copy, Answer, Fault, effected, is_known, refused, commit_of, cleared, with_cookie, taken_names}
use Rattle.sync_model.specs.Copy.Answer.{Stored}
use Rattle.sync_model.specs.Copy.Fault.{PresentUnknown}
use Rattle.sync_model.specs.Within.{limit_fault, against, refused_by}
use Rattle.sync_consumer.specs.declared.commit.Commit.{Commit}
use Rattle.sync_consumer.specs.declared.consumer.Taken.TheVariants as taken
use Rattle.sync_consumer.specs.declared.held.HeldContent.{HeldContent}
use Rattle.sync_consumer.specs.declared.session.SyncSession as kept
use Rattle.sync_consumer.specs.declared.session.SearchStep.TheVariants.{Goes}
use Rattle.sync_consumer.specs.SyncSession.{session_of, copy_with, within, StepsTo}
use Rattle.sync_consumer.specs.Taking.{taken_commit}

-- an outcome within the limits
abbrev pub limited : (puts : Bool) → Copy → Copy × Answer → Copy × Answer
limited puts before outcome = refused_by (limit_fault puts outcome.0 outcome.1) before outcome

-- ---- changes that are staged

abbrev pub stored_by : Copy → SyncSession → CookieText → Copy × Answer
stored_by copy session cookie =
    (record { held = effected copy.held session.stage; cookie = Some cookie; session = Some (cleared session) }, Stored (commit_of session.stage (Some cookie)))

-- the stage of a search that persists takes effect where a cookie comes, but for what rejects that
pub staged_after_end : (before copy : Copy) (session : SyncSession) (cookie : CookieText) → session.persisting ≡ true
    → limited false before (with_cookie copy session (Some cookie)) ≡ refused_by (against (effected copy.held session.stage)) before (stored_by copy session cookie)
staged_after_end before copy session cookie on = rw on refl

-- the step of a stage that takes effect
pub staged_steps : (held : HeldContent) (session : kept.SyncSession) (held' : HeldContent) (session' : kept.SyncSession) (stage : Stage) (cookie : Option CookieText) (given : CookieText) (commit : Commit)
    → session.persisting ≡ true → cookie ≡ Some given → against (effected held.entries stage) ≡ None
    → held'.entries ≡ effected held.entries stage → held'.cookie ≡ Some given → commit ≡ taken_commit (commit_of stage (Some given))
    → session_of session' ≡ cleared (session_of session)
    → StepsTo held session held' session' (Ok (Goes (taken.Stored commit))) (within false held session (with_cookie (copy_with held session) (record (session_of session) { stage = stage }) cookie))
staged_steps held session held' session' stage cookie given commit on is off entries kept_cookie answer_taken after =
    let copy : Copy = copy_with held session in
    let now : SyncSession = record (session_of session) { stage = stage } in
    let outcome : limited false copy (with_cookie copy now (Some given)) ≡ stored_by copy now given =
    staged_after_end copy copy now given on ∙ ap (λ (f : Option Fault). refused_by f copy (stored_by copy now given)) off in
    subst (λ (c : Option CookieText). StepsTo held session held' session' (Ok (Goes (taken.Stored commit))) (within false held session (with_cookie copy now c))) (sym is)
    (subst (λ (o : Copy × Answer). StepsTo held session held' session' (Ok (Goes (taken.Stored commit))) o) (sym outcome)
    (λ i. record { held = sym entries i; cookie = sym kept_cookie i; session = Some (sym after i) }, (commit_of stage (Some given), refl, answer_taken)))

-- ---- identities that are named

-- the first that is not known is refused
pub named_unknown : (before copy : Copy) (session : SyncSession) (uuids : List ℕ) (uuid : ℕ) → session.persisting ≡ false
    → find (λ u. not (is_known copy.held session.stage u)) uuids ≡ Some uuid
    → limited false before (taken_names copy session uuids) ≡ refused copy (PresentUnknown uuid)
named_unknown before copy session uuids uuid off is = rw (off, is) refl
