-- What a message leaves as it was, by what is reported of it.
use Rattle.std.specs.Prelude.{◌≡◌, ℕ, pos, true, cond, None, is_some}
use Rattle.std.specs.Ordering.{int_eq}
use Rattle.ldap_constants.specs.declared.result_codes.TheConstants.{E_SYNC_REFRESH_REQUIRED}
use Rattle.sync_model.specs.Message.{SyncMessage}
use Rattle.sync_model.specs.Copy.{Stage, Copy, Commit, Answer, effected, commit_of}
use Rattle.sync_model.specs.Copy.Answer.{Staged, Stored, Copied, Over, Refused}
use Rattle.sync_model.specs.Within.{taken_within}

-- the entries and the cookie are as before
pub record KeepsEntriesAndCookie (before after : Copy) : Type 0 where
  pub held : after.held ≡ before.held
  pub cookie : after.cookie ≡ before.cookie

-- the entries are those before with this stage in effect, which the commit reports
pub record IsEffected (before after : Copy) (commit : Commit) : Type 0 where
  pub stage : Stage
  pub notified : commit ≡ commit_of stage commit.cookie
  pub held : after.held ≡ effected before.held stage

-- the entries change only where a stage takes effect, and the cookie only with it, or
-- where it is of no use
abbrev pub Keeps : Copy → Copy → Answer → Type 0
Keeps before after Staged = KeepsEntriesAndCookie before after
Keeps before after (Stored commit) =
    IsEffected before after commit × (after.cookie ≡ commit.cookie) × (is_some commit.cookie ≡ true)
Keeps before after (Copied commit) =
    IsEffected before after commit × (after.cookie ≡ before.cookie) × (commit.cookie ≡ None)
Keeps before after (Over code) =
    after
    ≡ record {
      held = before.held;
      cookie = cond (int_eq code (pos E_SYNC_REFRESH_REQUIRED)) None before.cookie;
      session = None;
    }
Keeps before after (Refused fault) =
    after ≡ record { held = before.held; cookie = before.cookie; session = None }

abbrev pub TakingKeeps : Type 0
TakingKeeps =
    (id : ℕ) (copy : Copy) (message : SyncMessage)
    → Keeps copy (taken_within id copy message).0 (taken_within id copy message).1
