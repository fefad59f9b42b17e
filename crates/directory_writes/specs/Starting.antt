-- Where a search begins, by the cookie of its request (RFC 4533, section 3.3).
use Rattle.std.specs.Prelude.{◌≤◌, ⊤, ℕ, ◌==◌, Bool, ◌&&◌, List, length, Option, Some, None, if◌then◌else◌}
use Rattle.csn_cookie.specs.Csn.{upto, is_upto}
use Rattle.csn_cookie.specs.Cookie.{cookie_of_text}
use Rattle.csn_cookie.specs.declared.cookie.Cookie.{Cookie}
use Rattle.session_log.specs.Log.{covers}
use Rattle.sync_model.specs.Stream.{Start}
use Rattle.sync_model.specs.Stream.Start.{InitialContent, DeletePhase, PresentPhase}
use Rattle.directory_writes.specs.Directory.{DirectoryState, last_csn_of, csns}
use Rattle.directory_writes.specs.declared.start.Start as began
use Rattle.directory_writes.specs.declared.start.Start.TheVariants as begins

-- ---- its cookie

-- a cookie is servable where it is of the directory's history and its CSN is
-- not above the last one
abbrev pub is_ours : DirectoryState → Cookie → Bool
is_ours d cookie = (cookie.history == d.history) && is_upto cookie.csn (last_csn_of d)

-- the number of writes that it names: those whose CSNs are not above its own
abbrev pub prefix_of : DirectoryState → Option Cookie → Option ℕ
prefix_of d None = None
prefix_of d (Some cookie) =
    if is_ours d cookie then Some (upto (csns d.writes) cookie.csn) else None

-- the same by the text of a request's cookie, which is None where none is given
-- or it is not servable
abbrev pub prefix_of_cookie : DirectoryState → Option (List ℕ) → Option ℕ
prefix_of_cookie d None = None
prefix_of_cookie d (Some text) = prefix_of d (cookie_of_text text)

-- where a search begins, by whether the log covers the number of its cookie
abbrev pub start_at : DirectoryState → Option ℕ → Start
start_at d None = InitialContent
start_at d (Some number) = if covers number d.log then DeletePhase number else PresentPhase number

-- a search can begin so: its number is not above that of the writes, and where the log is to report
-- what was touched since, it does
abbrev pub CanBegin : DirectoryState → Start → Type 0
CanBegin d InitialContent = ⊤
CanBegin d (DeletePhase number) = (d.log.floor ≤ number) × (number ≤ length d.writes)
CanBegin d (PresentPhase number) = number ≤ length d.writes

-- ---- how it is kept

abbrev pub start_of : began.Start → Start
start_of begins.InitialContent = InitialContent
start_of (begins.DeletePhase number) = DeletePhase number
start_of (begins.PresentPhase number) = PresentPhase number
