-- How a write is reported to the open searches before it is accepted (RFC 4533, section 3.4).
use Rattle.std.specs.Prelude.{ℕ, ◌<◌, ◌-◌, ◌^◌, Bool, true, false, min, cond, List, [], ◌∷◌, ◌++◌, length, map, flat_map, Option, Some, None, IfSome}
use Rattle.csn_cookie.specs.declared.cookie.Cookie as cookies
use Rattle.dn_names.specs.Writing.{name_text}
use Rattle.entry_tree.specs.declared.entry.Entry.{Entry}
use Rattle.entry_tree.specs.declared.touched.EntryChange.{EntryChange}
use Rattle.entry_tree.specs.Selection.{Search, is_selected}
use Rattle.sync_model.specs.Message.{CookieText, SyncMessage}
use Rattle.sync_model.specs.Message.SyncMessage.{AddOrModify, Delete, Present, IdSet, NewCookie, RefreshDelete, RefreshPresent, Done, Ignored}
use Rattle.sync_model.specs.Stream.{notified}
use Rattle.sync_model.specs.Incremental.{about}
use Rattle.sync_slices.specs.Slices.{grows_too_much, sends_too_much}
use Rattle.entry_tree.specs.Touched.{joined}
use Rattle.sync_provider.specs.Queueing.{message_weight, is_noting, limits_of, overflowed}
use Rattle.sync_provider.specs.Search.{SearchState}
use Rattle.sync_provider.specs.declared.content_change.ContentChange.{ContentChange}
use Rattle.sync_provider.specs.declared.content_change.ContentChange.TheVariants.{Added, Modified, Deleted}

-- ---- the messages of a write

abbrev pub message_of_change : ContentChange → Option CookieText → SyncMessage
message_of_change (Added entry) cookie = AddOrModify true entry cookie
message_of_change (Modified entry) cookie = AddOrModify false entry cookie
message_of_change (Deleted uuid name) cookie = Delete uuid (name_text name) cookie

abbrev pub messages_of_change : Option ContentChange → List SyncMessage
messages_of_change None = []
messages_of_change (Some change) = message_of_change change None ∷ []

-- an entry that is selected now, by whether it was before
abbrev pub change_to : (was_in : Bool) → Entry → ContentChange
change_to true entry = Modified entry
change_to false entry = Added entry

-- the end of what was there, where it was selected
abbrev pub change_from : (was_in : Bool) → ℕ → Option Entry → Option ContentChange
change_from was_in uuid None = None
change_from was_in uuid (Some was) = cond was_in (Some (Deleted uuid was.dn)) None

-- an entry, where there is one and it is selected
abbrev pub if_selected : Search → Option Entry → Option Entry
if_selected search None = None
if_selected search (Some entry) = cond (is_selected search entry) (Some entry) None

-- what a touch says to a search, without a cookie
abbrev pub notified_of_change : Search → EntryChange → List SyncMessage
notified_of_change search entry_change =
    notified None entry_change.uuid (if_selected search entry_change.before)
    (if_selected search entry_change.after)

abbrev pub notified_of_changes : Search → List EntryChange → List SyncMessage
notified_of_changes search entry_changes = flat_map (notified_of_change search) entry_changes

abbrev pub with_cookie : CookieText → SyncMessage → SyncMessage
with_cookie cookie (AddOrModify adds entry old) = AddOrModify adds entry (Some cookie)
with_cookie cookie (Delete uuid name old) = Delete uuid name (Some cookie)
with_cookie cookie (Present uuid old) = Present uuid (Some cookie)
with_cookie cookie (IdSet deletes uuids old) = IdSet deletes uuids (Some cookie)
with_cookie cookie (NewCookie old) = NewCookie cookie
with_cookie cookie (RefreshDelete done old) = RefreshDelete done (Some cookie)
with_cookie cookie (RefreshPresent done old) = RefreshPresent done (Some cookie)
with_cookie cookie (Done code control) = Done code control
with_cookie cookie Ignored = Ignored

-- the last of these messages gets the cookie
abbrev pub last_with_cookie : CookieText → List SyncMessage → List SyncMessage
last_with_cookie cookie [] = []
last_with_cookie cookie (message ∷ []) = with_cookie cookie message ∷ []
last_with_cookie cookie (message ∷ next ∷ messages) =
    message ∷ last_with_cookie cookie (next ∷ messages)

-- what a write with these touches and this cookie sends to a search
abbrev pub messages_for : Search → List EntryChange → CookieText → List SyncMessage
messages_for search entry_changes cookie =
    last_with_cookie cookie (notified_of_changes search entry_changes)

-- a weight as it is counted: the greatest number stands for all above it
abbrev pub counted_weight : SyncMessage → ℕ
counted_weight message = min (message_weight message) (2 ^ 64 - 1)

-- the cookie of a message that is kept has a text
pub record HasCookieText (cookie : Option cookies.Cookie) : Type 0 where
  pub rid : IfSome cookie (λ c. c.rid < 1000)
  pub sid : IfSome cookie (λ c. c.sid < 4096)

-- ---- a search as it is kept

-- a search, and beside it the messages of writes that are not accepted yet, where they are made: a
-- group for each write, in their order. They are not pending
pub record HeldSearch : Type 0 where
  pub search : SearchState
  pub staged : List (List SyncMessage)

abbrev pub searches_of : List (ℕ × HeldSearch) → List (ℕ × SearchState)
searches_of held = map (λ kept. (kept.0, kept.1.search)) held

abbrev pub staged_for : SearchState → List EntryChange → CookieText → List SyncMessage
staged_for s entry_changes cookie =
    cond (is_noting s) (messages_for s.spec entry_changes cookie) []

-- with the messages of one more write with these touches and this cookie
abbrev pub with_group : List EntryChange → CookieText → HeldSearch → HeldSearch
with_group entry_changes cookie held =
    record held { staged = held.staged ++ staged_for held.search entry_changes cookie ∷ [] }

-- with nothing staged
abbrev pub without_groups : HeldSearch → HeldSearch
without_groups held = record held { staged = [] }

-- the same of each
abbrev pub each_staged :
    List EntryChange → CookieText → List (ℕ × HeldSearch) → List (ℕ × HeldSearch)
each_staged entry_changes cookie held =
    map (λ kept. (kept.0, with_group entry_changes cookie kept.1)) held

abbrev pub each_unstaged : List (ℕ × HeldSearch) → List (ℕ × HeldSearch)
each_unstaged held = map (λ kept. (kept.0, without_groups kept.1)) held

-- all of these messages go after what is due, if they fit
abbrev pub queued : ℕ → List SyncMessage → SearchState → SearchState
queued limit messages s =
    cond (sends_too_much (limits_of limit) messages (s.progress.due ++ messages)) (overflowed s)
    (record s { progress = record s.progress { due = s.progress.due ++ messages } })

-- or the identities that they are about go to those that changed
abbrev pub kept_changed : ℕ → List ℕ → SearchState → SearchState
kept_changed limit changed s =
    cond (grows_too_much (limits_of limit) (length s.progress.changed) (length changed))
    (overflowed s) (record s { progress = record s.progress { changed = changed } })

abbrev pub pushed_by : (left : List ℕ) → ℕ → List SyncMessage → SearchState → SearchState
pushed_by [] limit messages s = queued limit messages s
pushed_by (uuid ∷ uuids) limit messages s =
    kept_changed limit (joined s.progress.changed (flat_map about messages)) s

-- the messages of a write are put after what is due, or while pieces are left it is kept what it
-- changed, unless a write was too much
abbrev pub pushed_group : ℕ → List SyncMessage → SearchState → SearchState
pushed_group limit messages s = cond s.over s (pushed_by s.progress.left limit messages s)

-- what was staged is put there, group by group
abbrev pub pushed_staged : ℕ → List (List SyncMessage) → SearchState → SearchState
pushed_staged limit [] s = s
pushed_staged limit (messages ∷ groups) s =
    pushed_staged limit groups (pushed_group limit messages s)

-- the first group is put there
abbrev pub first_pushed : ℕ → SearchState → List (List SyncMessage) → HeldSearch
first_pushed limit s [] = record { search = s; staged = [] }
first_pushed limit s (messages ∷ groups) =
    record { search = pushed_group limit messages s; staged = groups }

-- each search after all that was staged
abbrev pub each_pushed : ℕ → List (ℕ × HeldSearch) → List (ℕ × SearchState)
each_pushed limit held =
    map (λ kept. (kept.0, pushed_staged limit kept.1.staged kept.1.search)) held
