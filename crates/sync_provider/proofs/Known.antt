-- After every list of calls the log and the numbers of the last touches are those of the writes.
use Rattle.std.proofs.Common.{◌≡◌, ℕ, List, [], ◌∷◌, ◌++◌, length, sym, ap, ◌∙◌}
use Rattle.std.specs.Prelude.{Result, Ok, Err}
use Rattle.std.proofs.lemmas.Bool.{leb-true, le-leb}
use Rattle.entry_tree.specs.declared.op.Op.TheVariants.{Commit}
use Rattle.entry_tree.specs.declared.op.Write.{Write}
use Rattle.entry_tree.specs.History.{state_of, touched_over}
use Rattle.session_log.proofs.Covering.{IsLogOf-trimmed}
use Rattle.sync_model.specs.Stream.{among}
use Rattle.directory_writes.specs.Directory.{DirectoryState, judged, with_judged}
use Rattle.sync_provider.specs.Law.{BeginsWith, LogShows, NumberShows}
use Rattle.sync_provider.specs.Committing.{commit_refusal}
use Rattle.sync_provider.specs.Machine.{ProviderState, ProviderCall, judged_by, called, run}
use Rattle.sync_provider.specs.Machine.ProviderCall.{Writes, Commits, Accepts, HandsOut, Drops, SetsLogLimit, SetsQueueLimit}
use Rattle.directory_writes.specs.Touches.{all_notes, IsLogged}
use Rattle.directory_writes.proofs.Pushed.{logged-push}
use Rattle.sync_provider.proofs.Commits.{commit_case}
use Rattle.directory_writes.proofs.Notified.{agree-longer, over-agree_upto, log-shows, floor-low, last-shows}

abbrev HasLogged : DirectoryState → Type 0
HasLogged d = IsLogged d.history d.writes d.log

judged_logged : (d : DirectoryState) (outcome : Result Write ℕ) → HasLogged d → HasLogged (with_judged d outcome)
judged_logged d (Ok w) is = logged-push d.history d.writes w d.log is
judged_logged d (Err code) is = is

called_logged : (p : ProviderState) (call : ProviderCall) → HasLogged p.directory → HasLogged (called p call).directory
called_logged p (Writes op now) is = judged_logged p.directory (judged_by p.kind p.directory op now) is
called_logged p (Commits puts drops now) is =
    commit_case (λ q. HasLogged q.directory) p (Commit puts drops) now (commit_refusal p.kind p.directory puts drops now) is
    (judged_logged p.directory (judged p.directory (Commit puts drops) now) is)
called_logged p (Accepts ask) is = is
called_logged p (HandsOut number) is = is
called_logged p (Drops number) is = is
called_logged p (SetsLogLimit limit) is =
    IsLogOf-trimmed (all_notes (state_of p.directory.history p.directory.writes) (length p.directory.writes)) p.directory.log limit is
called_logged p (SetsQueueLimit limit) is = is

-- the log is that of the writes
pub run_logged : (calls : List ProviderCall) (p : ProviderState) → HasLogged p.directory → HasLogged (run p calls).directory
run_logged [] p is = is
run_logged (call ∷ calls) p is = run_logged calls (called p call) (called_logged p call is)

-- what differs over the writes of a directory differs over each longer history
pub over_longer : (d : DirectoryState) (writes : List Write) → BeginsWith d writes → (number : ℕ)
    → touched_over d.history writes number (length d.writes) ≡ touched_over d.history d.writes number (length d.writes)
over_longer d writes begins number =
    ap (λ ws. touched_over d.history ws number (length d.writes)) (sym begins.1)
    ∙ over-agree_upto (state_of d.history (d.writes ++ begins.0)) (state_of d.history d.writes) number (length d.writes) (agree-longer d.history d.writes begins.0)

-- so it shows what was touched
pub shows_of_log : (d : DirectoryState) → HasLogged d → LogShows d
shows_of_log d is = (
  λ writes begins number covered within.
      log-shows (state_of d.history d.writes) (length d.writes) d.log number is (leb-true d.log.floor number covered)
      ∙ sym (over_longer d writes begins number),
  le-leb d.log.floor (length d.writes) (floor-low (state_of d.history d.writes) (length d.writes) d.log is),
)

-- so do the numbers
pub shows_of_numbers : (d : DirectoryState) → NumberShows d
shows_of_numbers d writes begins number uuid within =
    last-shows (length d.writes) (state_of d.history d.writes) number uuid within
    ∙ ap (among uuid) (sym (over_longer d writes begins number))
