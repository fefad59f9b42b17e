-- A search with content synchronisation as it was opened (RFC 4533, sections 3.3 and 3.4).
use Rattle.std.specs.Prelude.{ℕ, Bool, length}
use Rattle.entry_tree.specs.Selection.{Search, search_of}
use Rattle.sync_model.specs.Stream.{Start}
use Rattle.directory_writes.specs.Directory.{DirectoryState}
use Rattle.sync_provider.specs.Accepting.{start_of_ask, persists_of_ask}
use Rattle.sync_slices.specs.Slices.{SlicedRefresh}
use Rattle.sync_provider.specs.Search.{SearchState, session_of, sliced_from}
use Rattle.sync_provider.specs.declared.searches.SyncSearch.{SyncSearch}

-- its number, the message ID of its messages, its specification, where it begins, how many writes
-- there were, and whether it goes on after its refresh
pub record SearchOpening : Type 0 where
  pub number : ℕ
  pub id : ℕ
  pub spec : Search
  pub start : Start
  pub accepted : ℕ
  pub persists : Bool

-- the search that is asked for, under this number
abbrev pub opening_of_ask : DirectoryState → SyncSearch → ℕ → SearchOpening
opening_of_ask d ask number = record {
  number = number;
  id = ask.id;
  spec = search_of ask.spec;
  start = start_of_ask d ask;
  accepted = length d.writes;
  persists = persists_of_ask ask;
}

-- how an open search was opened
abbrev pub opening_of_search : ℕ → SearchState → SearchOpening
opening_of_search number s = record {
  number = number;
  id = s.id;
  spec = s.spec;
  start = s.start;
  accepted = s.accepted;
  persists = s.persists;
}

-- its refresh over the writes of a directory
abbrev pub sliced_of : DirectoryState → SearchOpening → SlicedRefresh
sliced_of d o =
    sliced_from (session_of o.persists d.sid d.history o.spec d.writes) o.start o.accepted
