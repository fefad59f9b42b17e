-- Of a consumer's cookie nothing is reported but where it is lost or given, and searches are asked for in one mode.
use Rattle.std.proofs.Common.{◌≡◌, ℕ, Bool, false, List, [], ◌∷◌, ◌++◌}
use Rattle.std.specs.Prelude.{Ok, Err}
use Rattle.sync_messages.specs.declared.request.Mode.{Mode}
use Rattle.sync_model.specs.Copy.{Copy}
use Rattle.sync_wire.specs.Requesting.{persists}
use Rattle.sync_provider.specs.declared.searches.Accepted.{Accepted}
use Rattle.sync_provider.specs.declared.searches.Accepted.TheVariants as accepted
use Rattle.cascade_report.specs.ReportLines.{ReportLine}
use Rattle.cascade_report.specs.ReportLines.{ReportLine as reported}
use Rattle.cascade_exchange.specs.Exchange.{Agreement, ExchangeOutcome, copy_of, sent, taken_as, takes, cut, idle, opened_by, opens, settles}
use Rattle.cascade_exchange.specs.Reception.{Came, received}
use Rattle.cascade_exchange.specs.Reception.{Came as came}
use Rattle.cascade_exchange.proofs.EachPart.{LeavesIn, SmallSteps, sent_leaves, takes_leave, cut_leaves, idle_leaves, opens_leave, settles_leave}

-- in this mode
module _ (mode : Bool) where
  -- no `holds` line, and no `opened` or `refused` line of another mode
  abbrev pub IsSilent : ReportLine → Type 0
  IsSilent (reported.Holds name cookie) = ⊥
  IsSilent (reported.Opened name persists writes) = persists ≡ mode
  IsSilent (reported.Refused name persists code) = persists ≡ mode
  IsSilent _ = Unit {0}

  -- all of these lines are silent
  abbrev pub AreSilent : List ReportLine → Type 0
  AreSilent [] = Unit {0}
  AreSilent (line ∷ lines) = IsSilent line × AreSilent lines

  -- a part that is done gives silent lines
  abbrev pub SilentIn : ExchangeOutcome → Type 0
  SilentIn (Ok next) = AreSilent next.1
  SilentIn (Err cause) = Unit {0}

  silent-append : (lines more : List ReportLine) → AreSilent lines → AreSilent more → AreSilent (lines ++ more)
  silent-append [] more h k = k
  silent-append (line ∷ lines) more h k = (h.0, silent-append lines more h.1 k)

  abbrev Silently : Agreement → Agreement → List ReportLine → Type 0
  Silently before after lines = AreSilent lines

  abbrev InMode : Mode → Type 0
  InMode asked = persists asked ≡ mode

  taken_as_silent : (pair : Agreement) (rest : List (List ℕ)) (copy : Copy) (found : Came) → IsSilent (taken_as pair rest copy found).1
  taken_as_silent pair rest copy came.Staged = tt
  taken_as_silent pair rest copy came.Copied = tt
  taken_as_silent pair rest copy (came.Stored commit) = tt
  taken_as_silent pair rest copy (came.Over code) = tt
  taken_as_silent pair rest copy (came.Refused fault) = tt

  opened_by_silent : (asked : Mode) (pair : Agreement) (answer : Accepted) → persists asked ≡ mode → LeavesIn Silently pair (opened_by asked pair answer)
  opened_by_silent asked pair (accepted.Opened number writes) is = (is, tt)
  opened_by_silent asked pair (accepted.Refused code) is = (is, tt)
  opened_by_silent asked pair accepted.NoMemory is = tt

  steps_silent : SmallSteps Silently InMode
  steps_silent = record {
    still = λ pair. tt;
    through = λ one two three lines more h k. silent-append lines more h k;
    sends = λ pair search message. (tt, tt);
    takes = λ pair message rest is. (taken_as_silent pair rest (received (copy_of pair.consumer_node) message).0 (received (copy_of pair.consumer_node) message).1, tt);
    nothing = λ name pair named. (tt, tt);
    cuts = λ pair. (tt, tt);
    opens = λ asked is pair answer. opened_by_silent asked pair answer is;
    settled = λ pair. (tt, tt);
  }

  silent_in : (pair : Agreement) (outcome : ExchangeOutcome) → LeavesIn Silently pair outcome → SilentIn outcome
  silent_in pair (Ok next) h = h
  silent_in pair (Err cause) h = tt

  -- sending messages gives silent lines
  pub sent_silent : (count : ℕ) (pair : Agreement) → SilentIn (sent count pair)
  sent_silent count pair = silent_in pair (sent count pair) (sent_leaves Silently InMode steps_silent count pair)

  -- taking messages gives silent lines
  pub takes_silent : (count : ℕ) (pair : Agreement) → SilentIn (takes count pair)
  takes_silent count pair = silent_in pair (takes count pair) (takes_leave Silently InMode steps_silent count pair)

  -- a cut gives silent lines
  pub cut_silent : (pair : Agreement) → SilentIn (cut pair)
  cut_silent pair = silent_in pair (cut pair) (cut_leaves Silently InMode steps_silent pair)

  -- a cut of a busy consumer gives silent lines
  pub idle_silent : (pair : Agreement) → SilentIn (idle pair)
  idle_silent pair = silent_in pair (idle pair) (idle_leaves Silently InMode steps_silent pair)

  -- an opening in this mode gives silent lines
  pub opens_silent : (asked : Mode) → persists asked ≡ mode → (pair : Agreement) → SilentIn (opens asked pair)
  opens_silent asked is pair = silent_in pair (opens asked pair) (opens_leave Silently InMode steps_silent asked is pair)

  -- a settling gives silent lines
  pub settles_silent : false ≡ mode → (pair : Agreement) → SilentIn (settles pair)
  settles_silent is pair = silent_in pair (settles pair) (settles_leave Silently InMode steps_silent is pair)
