-- A copy of what a search selects, and what it makes of each message (RFC 4533,
-- sections 3.3 and 3.4).
use Rattle.std.specs.Prelude.{ℕ, ℤ, pos, Bool, true, false, cond, not, ◌&&◌, ◌||◌, ◌==◌, nat_eq, List, [], ◌∷◌, filter, find, fold, filter_map, Option, Some, None, is_some, is_none}
use Rattle.std.specs.Map.{lookup}
use Rattle.std.specs.BTreeMap.{insert_entry}
use Rattle.std.specs.Ordering.{nat_cmp, int_eq}
use Rattle.ldap_constants.specs.declared.result_codes.TheConstants.{SUCCESS, E_SYNC_REFRESH_REQUIRED}
use Rattle.entry_tree.specs.declared.entry.Entry.{Entry}
use Rattle.entry_tree.specs.State.{is_identified, entry_at, put}
use Rattle.entry_tree.specs.Touched.{identities, joined}
use Rattle.sync_model.specs.Message.{CookieText, SyncMessage}
use Rattle.sync_model.specs.Message.SyncMessage.{AddOrModify, Delete, Present, IdSet, NewCookie, RefreshDelete, RefreshPresent, Done, Ignored}
use Rattle.sync_model.specs.Stream.{among}

-- what is staged, ascending by identity: an entry that is put, or that the identity is
-- dropped; the latest counts
abbrev pub Stage : Type 0
Stage = List (ℕ × Option Entry)

-- a search that runs: the ID of its messages, whether it goes on after its refresh, whether it has
-- come to that, whether its present phase was ended, the identities named as present, and the stage
pub record SyncSession : Type 0 where
  pub id : ℕ
  pub persists : Bool
  pub persisting : Bool
  pub ended : Bool
  pub named : List ℕ
  pub stage : Stage

-- the entries held, in ascending order of identity, the cookie, and the search that runs
pub record Copy : Type 0 where
  pub held : List Entry
  pub cookie : Option CookieText
  pub session : Option SyncSession

-- a stage that took effect, with the cookie that came with it
pub record Commit : Type 0 where
  pub puts : List Entry
  pub drops : List ℕ
  pub cookie : Option CookieText

pub data Fault : Type 0 where
  OutOfPlace : Fault
  -- named as present, but neither held nor put
  PresentUnknown : (uuid : ℕ) → Fault
  -- more entries than a directory may have
  StageFull : Fault
  -- two entries of one name
  DuplicateName : (one other : ℕ) → Fault

-- what is reported of a message: it was staged, or changed nothing; the stage took effect, with
-- or without a cookie; the search is over, with this result code; or the message is refused
-- and the search given up
pub data Answer : Type 0 where
  Staged : Answer
  Stored : (commit : Commit) → Answer
  Copied : (commit : Commit) → Answer
  Over : (code : ℤ) → Answer
  Refused : (fault : Fault) → Answer

-- the copy with a search that was just asked for
abbrev pub asked : ℕ → (persists : Bool) → Copy → Copy
asked id persists copy =
    record copy {
      session = Some
          (record {
            id = id;
            persists = persists;
            persisting = false;
            ended = false;
            named = [];
            stage = [];
          });
    }

-- ---- the stage

abbrev pub slot : Stage → ℕ → Option (Option Entry)
slot stage uuid = lookup (nat_eq uuid) stage

abbrev pub is_put : Option (Option Entry) → Bool
is_put None = false
is_put (Some None) = false
is_put (Some (Some entry)) = true

abbrev pub staged : ℕ → Option Entry → Stage → Stage
staged uuid change stage = insert_entry nat_cmp stage uuid change

-- each of these is dropped
abbrev pub all_dropped : Stage → List ℕ → Stage
all_dropped stage uuids = fold (λ before uuid. staged uuid None before) stage uuids

abbrev pub put_or_dropped : List Entry → ℕ → Option Entry → List Entry
put_or_dropped held uuid (Some entry) = put entry held
put_or_dropped held uuid None = filter (λ entry. not (is_identified uuid entry)) held

-- the entries with the stage in effect
abbrev pub effected : List Entry → Stage → List Entry
effected held [] = held
effected held (change ∷ stage) = put_or_dropped (effected held stage) change.0 change.1

abbrev pub puts_of : Stage → List Entry
puts_of stage = filter_map (λ (change : ℕ × Option Entry). change.1) stage

abbrev pub drops_of : Stage → List ℕ
drops_of stage =
    filter_map (λ (change : ℕ × Option Entry). cond (is_none change.1) (Some change.0) None) stage

-- held, but neither named as present nor put
abbrev pub unmentioned : List ℕ → Stage → List Entry → List ℕ
unmentioned named stage held =
    filter (λ uuid. not (among uuid named || is_put (slot stage uuid))) (identities held)

-- the end of a present phase drops these
abbrev pub present_ended : List ℕ → Stage → List Entry → Stage
present_ended named stage held = all_dropped stage (unmentioned named stage held)

-- ---- outcomes

abbrev pub refused : Copy → Fault → Copy × Answer
refused copy fault = (record copy { session = None }, Refused fault)

abbrev pub goes_on : Copy → SyncSession → Copy × Answer
goes_on copy session = (record copy { session = Some session }, Staged)

abbrev pub commit_of : Stage → Option CookieText → Commit
commit_of stage cookie = record { puts = puts_of stage; drops = drops_of stage; cookie = cookie }

-- nothing is named or staged
abbrev pub cleared : SyncSession → SyncSession
cleared session = record session { named = []; stage = [] }

-- after the refresh a cookie brings the stage into effect; one that comes
-- before its end is not kept
abbrev pub with_cookie : Copy → SyncSession → Option CookieText → Copy × Answer
with_cookie copy session None = goes_on copy session
with_cookie copy session (Some cookie) =
    cond session.persisting (
      record {
        held = effected copy.held session.stage;
        cookie = Some cookie;
        session = Some (cleared session);
      },
      Stored (commit_of session.stage (Some cookie)),
    )
    (goes_on copy session)

-- the end of a refresh, and what runs then: without a cookie the old one stays
abbrev pub refreshed : Copy → SyncSession → Option CookieText → Option SyncSession → Copy × Answer
refreshed copy session None next = (
  record { held = effected copy.held session.stage; cookie = copy.cookie; session = next },
  Copied (commit_of session.stage None),
)
refreshed copy session (Some cookie) next = (
  record { held = effected copy.held session.stage; cookie = Some cookie; session = next },
  Stored (commit_of session.stage (Some cookie)),
)

-- e-syncRefreshRequired (RFC 4533, section 2.6) says that the cookie is of no use
abbrev pub over : Copy → ℤ → Copy × Answer
over copy code = (
  record {
    held = copy.held;
    cookie = cond (int_eq code (pos E_SYNC_REFRESH_REQUIRED)) None copy.cookie;
    session = None;
  },
  Over code,
)

-- ---- each message

abbrev pub is_known : List Entry → Stage → ℕ → Bool
is_known held stage uuid = is_some (entry_at held uuid) || is_put (slot stage uuid)

abbrev pub named_unless : Option ℕ → Copy → SyncSession → List ℕ → Copy × Answer
named_unless None copy session uuids =
    goes_on copy (record session { named = joined session.named uuids })
named_unless (Some uuid) copy session uuids = refused copy (PresentUnknown uuid)

-- identities named as present, each of which is to be known
abbrev pub taken_names : Copy → SyncSession → List ℕ → Copy × Answer
taken_names copy session uuids =
    cond session.persisting
    (refused copy OutOfPlace)
    (named_unless (find (λ uuid. not (is_known copy.held session.stage uuid)) uuids)
    copy session uuids)

-- a phase that ends: a present phase drops what was not named, and ends once
abbrev pub ends_phase : List Entry → SyncSession → (deletes : Bool) → SyncSession
ends_phase held session deletes =
    cond deletes session
    (record session { stage = present_ended session.named session.stage held; ended = true })

abbrev pub persists_on : SyncSession → SyncSession
persists_on session = record (cleared session) { persisting = true }

abbrev pub taken_info :
    Copy → SyncSession → (deletes done : Bool) → Option CookieText → Copy × Answer
taken_info copy session deletes done cookie =
    cond (session.persisting || ((done && not session.persists) || (not deletes && session.ended)))
    (refused copy OutOfPlace)
    (cond done
    (refreshed copy (ends_phase copy.held session deletes) cookie
    (Some (persists_on (ends_phase copy.held session deletes))))
    (goes_on copy (ends_phase copy.held session deletes)))

abbrev pub taken_done : Copy → SyncSession → Option (Bool × Option CookieText) → Copy × Answer
taken_done copy session None = refused copy OutOfPlace
taken_done copy session (Some control) =
    cond (not control.0 && session.ended)
    (refused copy OutOfPlace)
    (refreshed copy (ends_phase copy.held session control.0) control.1 None)

abbrev pub taken_in : Copy → SyncSession → SyncMessage → Copy × Answer
taken_in copy session (AddOrModify adds entry cookie) =
    with_cookie copy
    (record session { stage = staged entry.uuid (Some entry) session.stage }) cookie
taken_in copy session (Delete uuid name cookie) =
    with_cookie copy (record session { stage = staged uuid None session.stage }) cookie
taken_in copy session (Present uuid cookie) = taken_names copy session (uuid ∷ [])
taken_in copy session (IdSet deletes uuids cookie) =
    cond deletes
    (with_cookie copy (record session { stage = all_dropped session.stage uuids }) cookie)
    (taken_names copy session uuids)
taken_in copy session (NewCookie cookie) = with_cookie copy session (Some cookie)
taken_in copy session (RefreshDelete done cookie) = taken_info copy session true done cookie
taken_in copy session (RefreshPresent done cookie) = taken_info copy session false done cookie
taken_in copy session (Done code control) =
    cond (session.persists || not (int_eq code (pos SUCCESS))) (over copy code)
    (taken_done copy session control)
taken_in copy session Ignored = goes_on copy session

abbrev pub taken_by : Option SyncSession → ℕ → Copy → SyncMessage → Copy × Answer
taken_by None id copy message = refused copy OutOfPlace
taken_by (Some session) id copy message =
    cond (id == session.id) (taken_in copy session message) (refused copy OutOfPlace)

-- a message of this ID, whatever it weighs
abbrev pub taken : ℕ → Copy → SyncMessage → Copy × Answer
taken id copy message = taken_by copy.session id copy message

-- some messages, one after another
abbrev pub taken_all : ℕ → Copy → List SyncMessage → Copy
taken_all id copy [] = copy
taken_all id copy (message ∷ messages) = taken_all id (taken id copy message).0 messages

-- and what is reported of each
abbrev pub answers : ℕ → Copy → List SyncMessage → List Answer
answers id copy [] = []
answers id copy (message ∷ messages) =
    (taken id copy message).1 ∷ answers id (taken id copy message).0 messages
