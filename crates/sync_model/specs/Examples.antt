-- Small searches and messages, with what is said and answered worked out by hand.
use Rattle.std.specs.Prelude.{◌≡◌, ℕ, pos, true, false, cond, nat_eq, List, [], ◌∷◌, Option, Some, None}
use Rattle.ldap_constants.specs.declared.result_codes.TheConstants.{SUCCESS, BUSY, UNWILLING_TO_PERFORM, E_SYNC_REFRESH_REQUIRED}
use Rattle.entry_tree.specs.declared.entry.Entry.{Entry}
use Rattle.entry_tree.specs.Selection.{Search, is_selected}
use Rattle.sync_model.specs.Message.{CookieText}
use Rattle.sync_model.specs.Message.SyncMessage.{AddOrModify, Present, IdSet, NewCookie, RefreshDelete, RefreshPresent, Done, Ignored}
use Rattle.sync_model.specs.Stream.{SyncOperation, walk, refresh}
use Rattle.sync_model.specs.Stream.Start.{InitialContent, DeletePhase, PresentPhase}
use Rattle.sync_model.specs.Copy.{Copy, asked, taken_all, answers}
use Rattle.sync_model.specs.Copy.Answer.{Staged, Stored, Copied, Over, Refused}
use Rattle.sync_model.specs.Copy.Fault.{OutOfPlace, PresentUnknown}

-- ---- what is sent, in one piece and in mode refreshOnly

abbrev pub once : Search → (ℕ → CookieText) → (ℕ → List Entry) → SyncOperation
once selection cookies states =
    record { persists = false; selection = selection; states = states; cookies = cookies }

-- an empty directory sends the end alone, with the cookie of no write
abbrev pub EmptyIsEnded : Type 0
EmptyIsEnded =
    (selection : Search) (cookies : ℕ → CookieText)
    → refresh (once selection cookies (λ number. [])) InitialContent 0
    (record { uuids = []; mark = 0 } ∷ [])
    ≡ Done (pos SUCCESS) (Some (false, Some (cookies 0))) ∷ []

-- the first write adds an entry, and a second one may delete it
abbrev pub added : Entry → ℕ → List Entry
added entry number = cond (nat_eq number 0) [] (entry ∷ [])

abbrev pub added_and_deleted : Entry → ℕ → List Entry
added_and_deleted entry number = cond (nat_eq number 1) (entry ∷ []) []

-- without a cookie a selected entry is sent
abbrev pub AddedIsSent : Type 0
AddedIsSent =
    (selection : Search) (cookies : ℕ → CookieText) (entry : Entry)
    → is_selected selection entry ≡ true
    → refresh (once selection cookies (added entry)) InitialContent 1
    (record { uuids = entry.uuid ∷ []; mark = 1 } ∷ [])
    ≡ AddOrModify true entry None ∷ Done (pos SUCCESS) (Some (false, Some (cookies 1))) ∷ []

-- a delete after a cookie that is covered is named in a delete phase
abbrev pub DeletedIsNamed : Type 0
DeletedIsNamed =
    (selection : Search) (cookies : ℕ → CookieText) (entry : Entry)
    → refresh (once selection cookies (added_and_deleted entry)) (DeletePhase 1) 2
    (record { uuids = entry.uuid ∷ []; mark = 2 } ∷ [])
    ≡ IdSet true (entry.uuid ∷ []) None ∷ Done (pos SUCCESS) (Some (true, Some (cookies 2))) ∷ []

-- its identity is all that the walk goes through
abbrev pub DeletedIsWalked : Type 0
DeletedIsWalked =
    (selection : Search) (cookies : ℕ → CookieText) (entry : Entry)
    → walk (once selection cookies (added_and_deleted entry)) (DeletePhase 1) 2 ≡ entry.uuid ∷ []

-- an entry that was not touched after a cookie that is not covered is named in a present phase
abbrev pub KeptIsNamed : Type 0
KeptIsNamed =
    (selection : Search) (cookies : ℕ → CookieText) (entry : Entry)
    → is_selected selection entry ≡ true
    → refresh (once selection cookies (added entry)) (PresentPhase 1) 1
    (record { uuids = entry.uuid ∷ []; mark = 1 } ∷ [])
    ≡ IdSet false (entry.uuid ∷ []) None ∷ Done (pos SUCCESS) (Some (false, Some (cookies 1))) ∷ []

-- ---- what is answered, from a copy without entries whose search has the message ID 1

abbrev pub empty_copy : Option CookieText → Copy
empty_copy cookie = record { held = []; cookie = cookie; session = None }

pub record MessagesAreAnswered : Type 0 where
  -- no search, and another ID
  pub no_search : answers 1 (empty_copy None) (Ignored ∷ []) ≡ Refused OutOfPlace ∷ []
  pub other_id : answers 2 (asked 1 true (empty_copy None)) (Ignored ∷ []) ≡ Refused OutOfPlace ∷ []
  pub passed : answers 1 (asked 1 true (empty_copy None)) (Ignored ∷ []) ≡ Staged ∷ []
  pub unknown :
      answers 1 (asked 1 true (empty_copy None)) (IdSet false (9 ∷ []) None ∷ [])
      ≡ Refused (PresentUnknown 9) ∷ []
  pub ended_twice :
      answers 1 (asked 1 true (empty_copy None))
      (RefreshPresent false None ∷ RefreshPresent false None ∷ [])
      ≡ Staged ∷ Refused OutOfPlace ∷ []
  pub done_in_once :
      answers 1 (asked 1 false (empty_copy None)) (RefreshDelete true None ∷ [])
      ≡ Refused OutOfPlace ∷ []
  pub no_control :
      answers 1 (asked 1 false (empty_copy None)) (Done (pos SUCCESS) None ∷ [])
      ≡ Refused OutOfPlace ∷ []
  pub unwilling :
      answers 1 (asked 1 true (empty_copy None)) (Done (pos UNWILLING_TO_PERFORM) None ∷ [])
      ≡ Over (pos UNWILLING_TO_PERFORM) ∷ []
  -- a cookie in the refresh is not kept; after it the cookie takes effect, and nothing is named as
  -- present any more
  pub early_cookie :
      (cookie : CookieText)
      → taken_all 1 (asked 1 true (empty_copy None)) (NewCookie cookie ∷ [])
      ≡ asked 1 true (empty_copy None)
  pub later_cookie : (first second : CookieText)
      → answers 1 (asked 1 true (empty_copy None))
      (RefreshPresent true (Some first) ∷ NewCookie second ∷ Present 9 None ∷ [])
      ≡ Stored (record { puts = []; drops = []; cookie = Some first })
      ∷ Stored (record { puts = []; drops = []; cookie = Some second }) ∷ Refused OutOfPlace ∷ []
  pub stays_over : (cookie : CookieText)
      → answers 1 (asked 1 true (empty_copy None))
      (RefreshPresent true (Some cookie) ∷ Done (pos SUCCESS) None ∷ [])
      ≡ Stored (record { puts = []; drops = []; cookie = Some cookie }) ∷ Over (pos SUCCESS) ∷ []
  -- syncRefreshRequired loses the cookie, another code keeps it
  pub refresh_required :
      (cookie : CookieText)
      → taken_all 1 (asked 1 false (empty_copy (Some cookie)))
      (Done (pos E_SYNC_REFRESH_REQUIRED) None ∷ [])
      ≡ empty_copy None
  pub busy :
      (cookie : CookieText)
      → taken_all 1 (asked 1 false (empty_copy (Some cookie))) (Done (pos BUSY) None ∷ [])
      ≡ empty_copy (Some cookie)
  -- the end of a refresh without a cookie keeps the old one
  pub copied : (cookie : CookieText)
      → answers 1 (asked 1 false (empty_copy (Some cookie)))
      (Done (pos SUCCESS) (Some (false, None)) ∷ [])
      ≡ Copied (record { puts = []; drops = []; cookie = None }) ∷ []
  pub old_cookie :
      (cookie : CookieText)
      → taken_all 1 (asked 1 false (empty_copy (Some cookie)))
      (Done (pos SUCCESS) (Some (false, None)) ∷ [])
      ≡ empty_copy (Some cookie)
  -- what a present phase does not name is dropped, what a delete phase does not name stays
  pub present_drops : (entry : Entry) (cookie : CookieText)
      → taken_all 1 (asked 1 false (record { held = entry ∷ []; cookie = None; session = None }))
      (Done (pos SUCCESS) (Some (false, Some cookie)) ∷ [])
      ≡ empty_copy (Some cookie)
  pub delete_keeps : (entry : Entry) (cookie : CookieText)
      → taken_all 1 (asked 1 false (record { held = entry ∷ []; cookie = None; session = None }))
      (Done (pos SUCCESS) (Some (true, Some cookie)) ∷ [])
      ≡ record { held = entry ∷ []; cookie = Some cookie; session = None }
