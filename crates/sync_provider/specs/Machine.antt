-- A provider as a machine: what each call does to its directory and its open searches,
-- where memory suffices.
use Rattle.std.specs.Prelude.{ℕ, List, [], ◌∷◌, map, Option, Some, None, Result, Ok, Err}
use Rattle.std.specs.Option.{option_or}
use Rattle.ldap_constants.specs.declared.result_codes.TheConstants.{UNWILLING_TO_PERFORM}
use Rattle.dn_names.specs.Names.{TypeAndValue}
use Rattle.entry_tree.specs.declared.entry.Entry.{Entry}
use Rattle.entry_tree.specs.declared.op.Op.{Op}
use Rattle.entry_tree.specs.declared.op.Op.TheVariants.{Commit}
use Rattle.entry_tree.specs.declared.op.Write.{Write}
use Rattle.sync_provider.specs.Accepting as accepting
use Rattle.sync_provider.specs.Accepting.{answer_to}
use Rattle.directory_writes.specs.Directory.{DirectoryState, fresh_directory, judged, with_judged, code_of_judged, with_log_limit}
use Rattle.sync_provider.specs.Committing.{commit_refusal}
use Rattle.sync_provider.specs.HandingOut as handing
use Rattle.sync_provider.specs.HandingOut.{turn_at, closed}
use Rattle.sync_provider.specs.Queueing.{search_notified}
use Rattle.sync_provider.specs.Search.{SearchState}
use Rattle.sync_provider.specs.declared.committing.StagedCommit.{StagedCommit}
use Rattle.sync_provider.specs.declared.provider.Kind.{Kind}
use Rattle.sync_provider.specs.declared.provider.Kind.TheVariants.{Root, Replica}
use Rattle.sync_provider.specs.declared.searches.SyncSearch.{SyncSearch}
use Rattle.sync_provider.specs.declared.writing.CommitFault.{CommitFault}

-- where its writes come from, the directory, the open searches by their numbers, ascending, and how
-- many messages of later writes each may have pending
pub record ProviderState : Type 0 where
  pub kind : Kind
  pub directory : DirectoryState
  pub searches : List (ℕ × SearchState)
  pub queue_limit : ℕ

-- the queue limit of a new provider
abbrev pub first_queue_limit : ℕ
first_queue_limit = 4096

abbrev pub fresh : List (List TypeAndValue) → ℕ → ℕ → Kind → ProviderState
fresh suffix sid history kind =
    record {
      kind = kind;
      directory = fresh_directory suffix sid history;
      searches = [];
      queue_limit = first_queue_limit;
    }

-- ---- writes

-- each open search after a write of the directory
abbrev pub each_search_notified :
    ℕ → DirectoryState → Write → List (ℕ × SearchState) → List (ℕ × SearchState)
each_search_notified limit d write searches =
    map (λ search. (search.0, search_notified limit d write search.1)) searches

-- the open searches after an operation that was judged so
abbrev pub searches_after : ProviderState → Result Write ℕ → List (ℕ × SearchState)
searches_after p (Ok write) = each_search_notified p.queue_limit p.directory write p.searches
searches_after p (Err code) = p.searches

-- the provider after an operation that was judged so: an accepted write is reported in the same
-- call to each open search whose content it changes
abbrev pub after_judged : ProviderState → Result Write ℕ → ProviderState
after_judged p outcome =
    record p { directory = with_judged p.directory outcome; searches = searches_after p outcome }

-- a client's operation, judged: a replica is unwilling to perform any
abbrev pub judged_by : Kind → DirectoryState → Op → ℕ → Result Write ℕ
judged_by Root d op now = judged d op now
judged_by Replica d op now = Err UNWILLING_TO_PERFORM

abbrev pub write_code : ProviderState → Op → ℕ → ℕ
write_code p op now = code_of_judged (judged_by p.kind p.directory op now)

abbrev pub wrote : ProviderState → Op → ℕ → ProviderState
wrote p op now = after_judged p (judged_by p.kind p.directory op now)

-- the provider after a commit, by what rejects it: where nothing does, it is judged and
-- reported as each write is
abbrev pub after_commit : ProviderState → Op → ℕ → Option CommitFault → ProviderState
after_commit p op now None = after_judged p (judged p.directory op now)
after_commit p op now (Some fault) = p

-- one write more, which puts these entries and drops these identities, where nothing rejects it
abbrev pub committed : ProviderState → List Entry → List ℕ → ℕ → ProviderState
committed p puts drops now =
    after_commit p (Commit puts drops) now (commit_refusal p.kind p.directory puts drops now)

-- ---- other calls

abbrev pub accepted : ProviderState → SyncSearch → ProviderState
accepted p ask =
    record p {
      searches = accepting.after_answer p.directory p.searches ask
          (answer_to p.directory p.searches ask);
    }

abbrev pub handed_out : ProviderState → ℕ → ProviderState
handed_out p number =
    record p {
      searches = handing.after_turn p.directory p.searches number
          (turn_at p.directory p.searches number);
    }

abbrev pub dropped : ProviderState → ℕ → ProviderState
dropped p number = record p { searches = closed p.searches number }

abbrev pub log_limited : ProviderState → ℕ → ProviderState
log_limited p limit = record p { directory = with_log_limit p.directory limit }

-- from the next write on a search may have n messages of later writes pending, or while pieces of
-- its refresh are left n identities that changed
abbrev pub queue_limited : ProviderState → ℕ → ProviderState
queue_limited p limit = record p { queue_limit = limit }

pub data ProviderCall : Type 0 where
  Writes : (op : Op) (now : ℕ) → ProviderCall
  Commits : (puts : List Entry) (drops : List ℕ) (now : ℕ) → ProviderCall
  Accepts : (ask : SyncSearch) → ProviderCall
  HandsOut : (number : ℕ) → ProviderCall
  Drops : (number : ℕ) → ProviderCall
  SetsLogLimit : (limit : ℕ) → ProviderCall
  SetsQueueLimit : (limit : ℕ) → ProviderCall

abbrev pub called : ProviderState → ProviderCall → ProviderState
called p (Writes op now) = wrote p op now
called p (Commits puts drops now) = committed p puts drops now
called p (Accepts ask) = accepted p ask
called p (HandsOut number) = handed_out p number
called p (Drops number) = dropped p number
called p (SetsLogLimit limit) = log_limited p limit
called p (SetsQueueLimit limit) = queue_limited p limit

abbrev pub run : ProviderState → List ProviderCall → ProviderState
run p [] = p
run p (call ∷ calls) = run (called p call) calls

-- ---- commits that are staged

-- one call for each of them
abbrev pub commit_calls : List StagedCommit → ℕ → List ProviderCall
commit_calls commits now = map (λ commit. Commits commit.puts commit.drops now) commits

-- the provider after commits one after another
abbrev pub committed_each : ProviderState → List StagedCommit → ℕ → ProviderState
committed_each p commits now = run p (commit_calls commits now)

-- what is first against one of these commits, each judged on what the ones before it left
abbrev pub refusal_of_each : ProviderState → List StagedCommit → ℕ → Option CommitFault
refusal_of_each p [] now = None
refusal_of_each p (commit ∷ commits) now =
    option_or (commit_refusal p.kind p.directory commit.puts commit.drops now)
    (refusal_of_each (committed p commit.puts commit.drops now) commits now)
