-- A return of a search to what it was at an earlier moment.
use Rattle.std.specs.Prelude.{◌≡◌, ⊤, ℕ, Bool, true, false, cond, nat_eq, List, [], ◌∷◌, ◌++◌, length, Option, Some, None}
use Rattle.std.specs.List.{slice_get}
use Rattle.csn_cookie.specs.declared.cookie.Cookie.{Cookie}
use Rattle.dn_names.specs.Names.{TypeAndValue}
use Rattle.directory_writes.specs.Directory.{DirectoryState, cookie_at, last_csn_of}
use Rattle.sync_provider.specs.Accepting.{answer_to}
use Rattle.sync_provider.specs.HandingOut.{search_at}
use Rattle.sync_provider.specs.Machine.{ProviderState, ProviderCall, called, run}
use Rattle.sync_provider.specs.Machine.ProviderCall.{Writes, Commits, Accepts, HandsOut, Drops, SetsLogLimit, SetsQueueLimit}
use Rattle.sync_provider.specs.Placing.{Ascends, put_back}
use Rattle.sync_provider.specs.Search.{SearchState}
use Rattle.sync_provider.specs.declared.searches.Accepted.{Accepted}
use Rattle.sync_provider.specs.declared.searches.Accepted.TheVariants.{Opened, Refused, NoMemory}

-- ---- a moment

-- the search that had a number at a moment, if one had, with the suffix, the number of writes and
-- the cookie of the content then
pub record KeptSearch : Type 0 where
  pub suffix : List (List TypeAndValue)
  pub writes : ℕ
  pub cookie : Cookie
  pub number : ℕ
  pub search : Option SearchState

-- the suffix, the number of writes and the cookie of a moment are those of now: where
-- no two directories have one number and one history, it is a moment of this one,
-- since which no write came
pub record HasNoWriteSince (d : DirectoryState) (snapshot : KeptSearch) : Type 0 where
  pub suffix : snapshot.suffix ≡ d.suffix
  pub counted : snapshot.writes ≡ length d.writes
  pub same : snapshot.cookie ≡ cookie_at d.sid d.history (last_csn_of d)

abbrev pub snapshot_of : ProviderState → ℕ → KeptSearch
snapshot_of p number = record {
  suffix = p.directory.suffix;
  writes = length p.directory.writes;
  cookie = cookie_at p.directory.sid p.directory.history (last_csn_of p.directory);
  number = number;
  search = search_at p.searches number;
}

-- ---- calls with returns

-- a call, or a return of the search with a number to what it was n steps ago
pub data ReturnStep : Type 0 where
  Calls : (call : ProviderCall) → ReturnStep
  Returns : (ago number : ℕ) → ReturnStep

-- a call that was made, the number of the search that it opened, handed a message out of or closed,
-- and whether it counts
pub record MadeCall : Type 0 where
  pub call : ProviderCall
  pub number : Option ℕ
  pub counts : Bool

-- the number of a search that was opened
abbrev pub number_of_answer : Accepted → Option ℕ
number_of_answer (Opened number writes) = Some number
number_of_answer (Refused code) = None
number_of_answer NoMemory = None

-- the number of the search that a call opens, hands a message out of or closes
abbrev pub number_of_call : ProviderState → ProviderCall → Option ℕ
number_of_call p (Writes op now) = None
number_of_call p (Commits puts drops now) = None
number_of_call p (Accepts ask) = number_of_answer (answer_to p.directory p.searches ask)
number_of_call p (HandsOut number) = Some number
number_of_call p (Drops number) = Some number
number_of_call p (SetsLogLimit limit) = None
number_of_call p (SetsQueueLimit limit) = None

-- a call of a provider counts when it is made
abbrev pub made : ProviderState → ProviderCall → MadeCall
made p call = record { call = call; number = number_of_call p call; counts = true }

abbrev pub has_number : ℕ → Option ℕ → Bool
has_number number None = false
has_number number (Some other) = nat_eq other number

-- the calls up to now where a search comes back that earlier calls led to: of the calls of its
-- number those count that counted then, also where the number was free in between or was that
-- of another search, and of the other calls those that count now
abbrev pub calls_back : ℕ → (earlier now : List MadeCall) → List MadeCall
calls_back number earlier [] = []
calls_back number [] (call ∷ now) =
    cond (has_number number call.number) (record call { counts = false }) call
    ∷ calls_back number [] now
calls_back number (was ∷ earlier) (call ∷ now) =
    cond (has_number number call.number) was call ∷ calls_back number earlier now

-- the calls that count
abbrev pub counted : List MadeCall → List ProviderCall
counted [] = []
counted (call ∷ calls) = cond call.counts (call.call ∷ counted calls) (counted calls)

-- a provider, and the calls that were made up to then
pub record ProviderStage : Type 0 where
  pub provider : ProviderState
  pub calls : List MadeCall

abbrev pub first_stage : ProviderState → ProviderStage
first_stage p = record { provider = p; calls = [] }

-- the provider with the search of that number as it was at an earlier stage
abbrev pub returned : ProviderState → ProviderState → ℕ → ProviderState
returned p before number =
    record p { searches = put_back p.searches number (search_at before.searches number) }

-- the calls after a return of a search; where none was open under its number at the earlier stage
-- the return counts as a call that closes it
abbrev pub calls_after_return :
    ProviderStage → List MadeCall → ℕ → Option SearchState → List MadeCall
calls_after_return stage earlier number None =
    stage.calls ++ made stage.provider (Drops number) ∷ []
calls_after_return stage earlier number (Some search) = calls_back number earlier stage.calls

abbrev pub returned_to : ProviderStage → ℕ → Option ProviderStage → ProviderStage
returned_to stage number None = stage
returned_to stage number (Some before) = record {
  provider = returned stage.provider before.provider number;
  calls = calls_after_return stage before.calls number
      (search_at before.provider.searches number);
}

-- the stage after a step, by all so far, the last of which comes first
abbrev pub stepped : List ProviderStage → ProviderStage → ReturnStep → ProviderStage
stepped stages stage (Calls call) = record {
  provider = called stage.provider call;
  calls = stage.calls ++ made stage.provider call ∷ [];
}
stepped stages stage (Returns ago number) = returned_to stage number (slice_get stages ago)

-- the stage after steps, by the ones before
abbrev pub stepped_all : List ProviderStage → ProviderStage → List ReturnStep → ProviderStage
stepped_all before stage [] = stage
stepped_all before stage (step ∷ steps) =
    stepped_all (stage ∷ before) (stepped (stage ∷ before) stage step) steps

-- there is such a stage, and no write came since
abbrev pub MayReturn : ProviderState → ℕ → Option ProviderStage → Type 0
MayReturn p number None = ⊥
MayReturn p number (Some before) =
    HasNoWriteSince p.directory (snapshot_of before.provider number)

abbrev pub MayStep : List ProviderStage → ProviderStage → ReturnStep → Type 0
MayStep stages stage (Calls call) = ⊤
MayStep stages stage (Returns ago number) =
    MayReturn stage.provider number (slice_get stages ago)

-- each return is to a stage since which no write came
abbrev pub MayStepAll : List ProviderStage → ProviderStage → List ReturnStep → Type 0
MayStepAll before stage [] = ⊤
MayStepAll before stage (step ∷ steps) =
    MayStep (stage ∷ before) stage step
    × MayStepAll (stage ∷ before) (stepped (stage ∷ before) stage step) steps

-- over every list of calls with returns, the provider, whose searches stand in the order of their
-- numbers, is as after the calls that count alone
abbrev pub ReturnsCountAsNone : Type 0
ReturnsCountAsNone =
    (p : ProviderState) (steps : List ReturnStep) → Ascends 0 p.searches
    → MayStepAll [] (first_stage p) steps
    → (stepped_all [] (first_stage p) steps).provider
    ≡ run p (counted (stepped_all [] (first_stage p) steps).calls)
