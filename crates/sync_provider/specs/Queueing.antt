-- What a search keeps of later writes: the messages that are not handed out yet, or while pieces of
-- its refresh are left what changed in its content (RFC 4533, section 3.4).
use Rattle.std.specs.Prelude.{ℕ, ◌+◌, ◌*◌, Bool, true, false, cond, not, ◌&&◌, ◌||◌, nat_lt, List, [], ◌∷◌, ◌++◌, length, sum_by}
use Rattle.schema_rules.specs.Attributes.{weight_of}
use Rattle.entry_tree.specs.declared.op.Write.{Write}
use Rattle.sync_model.specs.Message.{SyncMessage}
use Rattle.sync_model.specs.Message.SyncMessage.{AddOrModify, Delete, Present, IdSet, NewCookie, RefreshDelete, RefreshPresent, Done, Ignored}
use Rattle.sync_model.specs.Law.{is_nil}
use Rattle.sync_model.specs.Stream.{group}
use Rattle.sync_slices.specs.Slices.{SlicedRefresh, QueueLimits, adds_too_much, given_up, written}
use Rattle.directory_writes.specs.Directory.{DirectoryState, with_write}
use Rattle.sync_provider.specs.Search.{SearchState, session_of, sliced}
use Rattle.directory_writes.specs.Weights.{name_weight}

-- ---- what it may hold

-- the name of its entry, as it is written, and the attributes that it carries, but for
-- the operational ones
abbrev pub carried_weight : SyncMessage → ℕ
carried_weight (AddOrModify adds entry cookie) = name_weight entry.dn + weight_of entry.attrs
carried_weight (Delete uuid name cookie) = length name
carried_weight (Present uuid cookie) = 0
carried_weight (IdSet deletes uuids cookie) = 0
carried_weight (NewCookie cookie) = 0
carried_weight (RefreshDelete done cookie) = 0
carried_weight (RefreshPresent done cookie) = 0
carried_weight (Done code control) = 0
carried_weight Ignored = 0

abbrev pub message_weight : SyncMessage → ℕ
message_weight message = carried_weight message + 64

-- 16 MiB
abbrev pub most_pending_weight : ℕ
most_pending_weight = 16777216

-- more than the limit, or heavier than the messages of one search may be
abbrev pub is_full : ℕ → List SyncMessage → Bool
is_full limit items =
    nat_lt limit (length items) || nat_lt most_pending_weight (sum_by message_weight items)

-- ---- a write

-- what a write of the directory sends to the search: one message for each identity that it changes
-- in what is selected
abbrev pub group_of : DirectoryState → SearchState → Write → List SyncMessage
group_of d s write =
    group (session_of s.persists d.sid d.history s.spec (d.writes ++ write ∷ [])) (length d.writes)

-- what was pending is gone, and the end with the code busy is pending
abbrev pub overflowed : SearchState → SearchState
overflowed s = record s { progress = given_up s.progress; over = true }

-- what a changed identity weighs while pieces of the refresh are left
abbrev pub changed_weight : ℕ
changed_weight = 16

-- more identities that changed than the limit, or heavier than the items of one search may be
abbrev pub is_crowded : ℕ → ℕ → Bool
is_crowded limit count =
    nat_lt limit count || nat_lt most_pending_weight (count * changed_weight)

-- so much a search may keep
abbrev pub limits_of : ℕ → QueueLimits
limits_of limit = record { is_full = is_full limit; is_crowded = is_crowded limit }

-- the write after n writes, which is too much for the search or not
abbrev pub noted_search :
    (too_much : Bool) → SlicedRefresh → (before : ℕ) → SearchState → SearchState
noted_search true r before s = overflowed s
noted_search false r before s = record s { progress = written r before s.progress }

-- the search after a write of the directory
abbrev pub search_notified : ℕ → DirectoryState → Write → SearchState → SearchState
search_notified limit d write s =
    cond s.over s
    (noted_search
    (adds_too_much (limits_of limit) (sliced (with_write d write) s) (length d.writes) s.progress)
    (sliced (with_write d write) s) (length d.writes) s)

-- a write is reported to a search, for which none was too much, where it goes on after its refresh
-- or pieces of that are left
abbrev pub is_noting : SearchState → Bool
is_noting s = not s.over && (s.persists || not (is_nil s.progress.left))
