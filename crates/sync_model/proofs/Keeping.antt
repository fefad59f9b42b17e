-- What a message leaves as it was.
use Rattle.std.proofs.Common.{ℕ, Bool, true, false, cond, List, [], ◌∷◌, refl, Some, None, Option}
use Rattle.std.specs.Prelude.{pos, not, ◌||◌, ◌&&◌, ◌==◌, find, ℤ}
use Rattle.std.specs.Ordering.{int_eq}
use Rattle.ldap_constants.specs.declared.result_codes.TheConstants.{SUCCESS}
use Rattle.sync_model.specs.Message.{CookieText, SyncMessage}
use Rattle.sync_model.specs.Message.SyncMessage.{AddOrModify, Delete, Present, IdSet, NewCookie, RefreshDelete, RefreshPresent, Done, Ignored}
use Rattle.sync_model.specs.Copy.{Copy, SyncSession, Answer, Fault, staged, all_dropped, is_known, refused, goes_on, with_cookie, refreshed, over, named_unless, taken_names, ends_phase, persists_on, taken_info, taken_done, taken_in, taken_by, taken}
use Rattle.sync_model.specs.Copy.Fault.{OutOfPlace}
use Rattle.sync_model.specs.Within.{puts_entry, limit_fault, refused_by, taken_within}
use Rattle.sync_model.specs.Keeping.{Keeps}

-- an outcome that keeps what its answer says
abbrev pub KeepsOf : Copy → Copy × Answer → Type 0
KeepsOf copy outcome = Keeps copy outcome.0 outcome.1

either : (copy : Copy) (b : Bool) (one other : Copy × Answer) → KeepsOf copy one → KeepsOf copy other → KeepsOf copy (cond b one other)
either copy true one other h k = h
either copy false one other h k = k

refused_keeps : (copy : Copy) (fault : Fault) → KeepsOf copy (refused copy fault)
refused_keeps copy fault = refl

goes_on_keeps : (copy : Copy) (session : SyncSession) → KeepsOf copy (goes_on copy session)
goes_on_keeps copy session = record { held = refl; cookie = refl }

with_cookie_keeps : (copy : Copy) (session : SyncSession) (cookie : Option CookieText) → KeepsOf copy (with_cookie copy session cookie)
with_cookie_keeps copy session None = goes_on_keeps copy session
with_cookie_keeps copy session (Some cookie) =
    either copy session.persisting _ (goes_on copy session) (record { stage = session.stage; notified = refl; held = refl }, refl, refl) (goes_on_keeps copy session)

refreshed_keeps : (copy : Copy) (session : SyncSession) (cookie : Option CookieText) (next : Option SyncSession) → KeepsOf copy (refreshed copy session cookie next)
refreshed_keeps copy session None next = (record { stage = session.stage; notified = refl; held = refl }, refl, refl)
refreshed_keeps copy session (Some cookie) next = (record { stage = session.stage; notified = refl; held = refl }, refl, refl)

named_keeps : (copy : Copy) (session : SyncSession) (uuids : List ℕ) (unknown : Option ℕ) → KeepsOf copy (named_unless unknown copy session uuids)
named_keeps copy session uuids None = record { held = refl; cookie = refl }
named_keeps copy session uuids (Some uuid) = refl

names_keep : (copy : Copy) (session : SyncSession) (uuids : List ℕ) → KeepsOf copy (taken_names copy session uuids)
names_keep copy session uuids =
    let unknown : Option ℕ = find (λ uuid. not (is_known copy.held session.stage uuid)) uuids in
    either copy session.persisting (refused copy OutOfPlace) (named_unless unknown copy session uuids) (refused_keeps copy OutOfPlace) (named_keeps copy session uuids unknown)

info_keeps : (copy : Copy) (session : SyncSession) (deletes done : Bool) (cookie : Option CookieText) → KeepsOf copy (taken_info copy session deletes done cookie)
info_keeps copy session deletes done cookie =
    let now : SyncSession = ends_phase copy.held session deletes in
    either copy (session.persisting || ((done && not session.persists) || (not deletes && session.ended))) (refused copy OutOfPlace)
    (cond done (refreshed copy now cookie (Some (persists_on now))) (goes_on copy now))
    (refused_keeps copy OutOfPlace)
    (either copy done (refreshed copy now cookie (Some (persists_on now))) (goes_on copy now) (refreshed_keeps copy now cookie (Some (persists_on now))) (goes_on_keeps copy now))

done_keeps : (copy : Copy) (session : SyncSession) (control : Option (Bool × Option CookieText)) → KeepsOf copy (taken_done copy session control)
done_keeps copy session None = refl
done_keeps copy session (Some control) =
    either copy (not control.0 && session.ended) (refused copy OutOfPlace) (refreshed copy (ends_phase copy.held session control.0) control.1 None)
    (refused_keeps copy OutOfPlace) (refreshed_keeps copy (ends_phase copy.held session control.0) control.1 None)

over_keeps : (copy : Copy) (code : ℤ) → KeepsOf copy (over copy code)
over_keeps copy code = refl

in_keeps : (copy : Copy) (session : SyncSession) (message : SyncMessage) → KeepsOf copy (taken_in copy session message)
in_keeps copy session (AddOrModify adds entry cookie) = with_cookie_keeps copy (record session { stage = staged entry.uuid (Some entry) session.stage }) cookie
in_keeps copy session (Delete uuid name cookie) = with_cookie_keeps copy (record session { stage = staged uuid None session.stage }) cookie
in_keeps copy session (Present uuid cookie) = names_keep copy session (uuid ∷ [])
in_keeps copy session (IdSet deletes uuids cookie) =
    let dropped : SyncSession = record session { stage = all_dropped session.stage uuids } in
    either copy deletes (with_cookie copy dropped cookie) (taken_names copy session uuids) (with_cookie_keeps copy dropped cookie) (names_keep copy session uuids)
in_keeps copy session (NewCookie cookie) = with_cookie_keeps copy session (Some cookie)
in_keeps copy session (RefreshDelete done cookie) = info_keeps copy session true done cookie
in_keeps copy session (RefreshPresent done cookie) = info_keeps copy session false done cookie
in_keeps copy session (Done code control) =
    either copy (session.persists || not (int_eq code (pos SUCCESS))) (over copy code) (taken_done copy session control) (over_keeps copy code) (done_keeps copy session control)
in_keeps copy session Ignored = goes_on_keeps copy session

by_keeps : (search : Option SyncSession) (id : ℕ) (copy : Copy) (message : SyncMessage) → KeepsOf copy (taken_by search id copy message)
by_keeps None id copy message = refl
by_keeps (Some session) id copy message =
    either copy (id == session.id) (taken_in copy session message) (refused copy OutOfPlace) (in_keeps copy session message) (refused_keeps copy OutOfPlace)

limits_keep : (copy : Copy) (fault : Option Fault) (outcome : Copy × Answer) → KeepsOf copy outcome → KeepsOf copy (refused_by fault copy outcome)
limits_keep copy None outcome h = h
limits_keep copy (Some fault) outcome h = refl

-- what a message may change of a copy
pub taking_keeps : (id : ℕ) (copy : Copy) (message : SyncMessage) → KeepsOf copy (taken_within id copy message)
taking_keeps id copy message =
    limits_keep copy (limit_fault (puts_entry message) (taken id copy message).0 (taken id copy message).1) (taken id copy message) (by_keeps copy.session id copy message)
