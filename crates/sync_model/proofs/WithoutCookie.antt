-- What a copy makes of a message, by whether that ends a refresh without a cookie.
use Rattle.std.proofs.Common.{◌≡◌, ℕ, Bool, true, false, cond, Option, Some, None, List, refl}
use Rattle.std.specs.Prelude.{⊤, not, ◌&&◌, ◌||◌, is_none, find}
use Rattle.sync_model.specs.Message.{CookieText}
use Rattle.sync_model.specs.Copy.{Copy, SyncSession, Answer as answer, Fault, is_known, refused, goes_on, with_cookie, refreshed, named_unless, taken_names, ends_phase, persists_on, taken_info}
use Rattle.sync_model.specs.Copy.Fault.{OutOfPlace}
use Rattle.sync_model.specs.Within.{refused_by}

-- what is staged, and what takes effect with a cookie, was no such end, and what takes effect without one was
abbrev pub Agrees : Bool → answer → Type 0
Agrees no_cookie answer.Staged = no_cookie ≡ false
Agrees no_cookie (answer.Stored commit) = no_cookie ≡ false
Agrees no_cookie (answer.Copied commit) = no_cookie ≡ true
Agrees no_cookie (answer.Over code) = ⊤
Agrees no_cookie (answer.Refused fault) = ⊤

-- so does each of two outcomes
pub either_agrees : (no_cookie b : Bool) (one other : Copy × answer) → Agrees no_cookie one.1 → Agrees no_cookie other.1 → Agrees no_cookie (cond b one other).1
either_agrees no_cookie true one other h k = h
either_agrees no_cookie false one other h k = k

-- a message within a refresh, with a cookie or without
pub with_cookie_agrees : (copy : Copy) (session : SyncSession) (cookie : Option CookieText) → Agrees false (with_cookie copy session cookie).1
with_cookie_agrees copy session None = refl
with_cookie_agrees copy session (Some cookie) = either_agrees false session.persisting _ (goes_on copy session) refl refl

named_agrees : (copy : Copy) (session : SyncSession) (uuids : List ℕ) (unknown : Option ℕ) → Agrees false (named_unless unknown copy session uuids).1
named_agrees copy session uuids None = refl
named_agrees copy session uuids (Some uuid) = tt

-- identities that are named as present
pub names_agree : (copy : Copy) (session : SyncSession) (uuids : List ℕ) → Agrees false (taken_names copy session uuids).1
names_agree copy session uuids =
    let unknown : Option ℕ = find (λ uuid. not (is_known copy.held session.stage uuid)) uuids in
    either_agrees false session.persisting (refused copy OutOfPlace) (named_unless unknown copy session uuids) tt (named_agrees copy session uuids unknown)

-- the end of a refresh
pub refreshed_agrees : (copy : Copy) (session : SyncSession) (cookie : Option CookieText) (next : Option SyncSession) (b : Bool) → b ≡ true → Agrees (is_none cookie && b) (refreshed copy session cookie next).1
refreshed_agrees copy session None next b is = is
refreshed_agrees copy session (Some cookie) next b is = refl

ended_agrees : (copy : Copy) (session : SyncSession) (cookie : Option CookieText) (next : Option SyncSession) → Agrees (is_none cookie) (refreshed copy session cookie next).1
ended_agrees copy session None next = refl
ended_agrees copy session (Some cookie) next = refl

-- a Sync Info message that ends a phase
pub info_agrees : (copy : Copy) (session : SyncSession) (deletes done : Bool) (cookie : Option CookieText) → Agrees (done && is_none cookie) (taken_info copy session deletes done cookie).1
info_agrees copy session deletes true cookie =
    let now : SyncSession = ends_phase copy.held session deletes in
    either_agrees (is_none cookie) (session.persisting || ((true && not session.persists) || (not deletes && session.ended))) (refused copy OutOfPlace)
    (refreshed copy now cookie (Some (persists_on now))) tt (ended_agrees copy now cookie (Some (persists_on now)))
info_agrees copy session deletes false cookie =
    let now : SyncSession = ends_phase copy.held session deletes in
    either_agrees false (session.persisting || ((false && not session.persists) || (not deletes && session.ended))) (refused copy OutOfPlace) (goes_on copy now) tt refl

-- within the limits
pub limits_agree : (no_cookie : Bool) (copy : Copy) (fault : Option Fault) (outcome : Copy × answer) → Agrees no_cookie outcome.1 → Agrees no_cookie (refused_by fault copy outcome).1
limits_agree no_cookie copy None outcome h = h
limits_agree no_cookie copy (Some fault) outcome h = tt
