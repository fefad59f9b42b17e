-- What is kept beside the writes serves a refresh.
use Rattle.std.proofs.Common.{◌≡◌, ℕ, ◌≤◌, true, false, List, length, ap, refl, ◌∙◌, subst, Some, None, Option}
use Rattle.std.specs.Prelude.{is_some}
use Rattle.std.proofs.lemmas.Bool.{leb-true, false≢true}
use Rattle.csn_cookie.specs.Csn.{start, upto}
use Rattle.entry_tree.specs.declared.entry.Entry.{Entry}
use Rattle.entry_tree.specs.declared.op.Write.{Write}
use Rattle.entry_tree.specs.History.{state_of, touched_over}
use Rattle.entry_tree.specs.State.{entry_at}
use Rattle.session_log.specs.Log.{Log, covers, since}
use Rattle.sync_model.specs.Stream.Start.{DeletePhase, PresentPhase}
use Rattle.directory_writes.specs.Directory.{DirectoryState, csns, entries_of, CsnsRise, IsNumbered, IsStanding}
use Rattle.directory_writes.specs.Standing.{StandingState}
use Rattle.directory_writes.specs.Starting.{CanBegin}
use Rattle.directory_writes.specs.Touches.{last_touch, IsLogged, number_at}
use Rattle.directory_writes.proofs.Csns.{upto_csn}
use Rattle.directory_writes.proofs.Notified.{last-low, log-shows}

-- the log reports the walk of a covered number
pub walk_since : (history : ℕ) (writes : List Write) (log : Log) (number : ℕ) → IsLogged history writes log → log.floor ≤ number
    → since number log ≡ touched_over history writes number (length writes)
walk_since history writes log number is above = log-shows (state_of history writes) (length writes) log number is above

-- a search whose cookie the log covers can be served
pub covered : (d : DirectoryState) (number : ℕ) → number ≤ length d.writes → covers number d.log ≡ true → CanBegin d (DeletePhase number)
covered d number low covers_it = (leb-true d.log.floor number covers_it, low)

-- a search whose cookie the log does not cover can be served
pub uncovered : (d : DirectoryState) (number : ℕ) → number ≤ length d.writes → CanBegin d (PresentPhase number)
uncovered d number low = low

-- what is known of the number of an entry's last touch
numbered : (d : DirectoryState) (s : StandingState) (uuid : ℕ) (e : Entry) (kept : Option ℕ) → IsStanding d s → entry_at (entries_of d) uuid ≡ Some e → number_at s.numbers uuid ≡ kept
    → IsNumbered (start d.sid) d.writes e.csn (last_touch (state_of d.history d.writes) (length d.writes) uuid) kept
numbered d s uuid e kept is at has =
    subst (IsNumbered (start d.sid) d.writes e.csn (last_touch (state_of d.history d.writes) (length d.writes) uuid)) has
    (is.touched uuid e (ap (λ entries. entry_at entries uuid) is.made ∙ at))

-- the number that is kept for an entry is that of its last touch
pub number_kept : (d : DirectoryState) (s : StandingState) (uuid number : ℕ) → IsStanding d s → is_some (entry_at (entries_of d) uuid) ≡ true → number_at s.numbers uuid ≡ Some number
    → number ≡ last_touch (state_of d.history d.writes) (length d.writes) uuid
number_kept d s uuid number is here has = by (entry_at (entries_of d) uuid) refl here
  where
    by : (found : Option Entry) → entry_at (entries_of d) uuid ≡ found → is_some found ≡ true → number ≡ last_touch (state_of d.history d.writes) (length d.writes) uuid
    by None at h = absurd (false≢true h)
    by (Some e) at h = numbered d s uuid e (Some number) is at has

-- where none is kept it is that of the writes up to the CSN of the entry
pub number_by_csn : (d : DirectoryState) (s : StandingState) (uuid number : ℕ) → IsStanding d s → CsnsRise d.sid d.writes → is_some (entry_at (entries_of d) uuid) ≡ true
    → number_at s.numbers uuid ≡ None → ((e : Entry) → entry_at (entries_of d) uuid ≡ Some e → number ≡ upto (csns d.writes) e.csn)
    → number ≡ last_touch (state_of d.history d.writes) (length d.writes) uuid
number_by_csn d s uuid number is rise here none counted = by (entry_at (entries_of d) uuid) refl here
  where
    touch : ℕ
    touch = last_touch (state_of d.history d.writes) (length d.writes) uuid

    by : (found : Option Entry) → entry_at (entries_of d) uuid ≡ found → is_some found ≡ true → number ≡ last_touch (state_of d.history d.writes) (length d.writes) uuid
    by None at h = absurd (false≢true h)
    by (Some e) at h =
        counted e at ∙ ap (upto (csns d.writes)) (numbered d s uuid e None is at none)
        ∙ upto_csn d.sid d.writes rise touch (last-low (length d.writes) (state_of d.history d.writes) uuid)
