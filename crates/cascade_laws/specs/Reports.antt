-- Which lines an event gives: their kinds, how many of each, in which order, and of which node.
use Rattle.std.specs.Prelude.{◌≡◌, ◌⊎◌, ℕ, ◌<◌, false, Some, None, List, [], ◌∷◌, ◌++◌, length, All}
use Rattle.ldap_constants.specs.declared.result_codes.TheConstants.{E_SYNC_REFRESH_REQUIRED}
use Rattle.entry_tree.specs.declared.entry.Entry.{Entry}
use Rattle.cascade_script.specs.Orders.{Order}
use Rattle.cascade_script.specs.Orders.{Order as asks}
use Rattle.cascade_world.specs.ReportLines.{ReportLine}
use Rattle.cascade_world.specs.ReportLines.{ReportLine as reported}

-- ---- kinds of lines of a node

-- the answer to a search that is asked for
abbrev pub IsAnswer : List ℕ → ReportLine → Type 0
IsAnswer name (reported.Opened node persists writes) = node ≡ name
IsAnswer name (reported.Refused node persists code) = node ≡ name
IsAnswer name _ = ⊥

-- a message that goes into the link
abbrev pub IsSending : List ℕ → ReportLine → Type 0
IsSending name (reported.Sent node message) = node ≡ name
IsSending name _ = ⊥

-- what comes of a message that is taken
abbrev pub IsTaking : List ℕ → ReportLine → Type 0
IsTaking name (reported.Taken node) = node ≡ name
IsTaking name (reported.Stored node stored) = node ≡ name
IsTaking name (reported.Ended node code) = node ≡ name
IsTaking name (reported.Faulted node fault) = node ≡ name
IsTaking name _ = ⊥

-- ---- some lines of a node

-- this line, or none
abbrev pub IsAtMost : ReportLine → List ReportLine → Type 0
IsAtMost line lines = (lines ≡ []) ⊎ (lines ≡ line ∷ [])

-- n lines of one kind; or fewer, and then the line that there is nothing more
abbrev pub AreUpTo : ℕ → List ℕ → (ReportLine → Type 0) → List ReportLine → Type 0
AreUpTo count name Is lines =
    ((length lines ≡ count) × All Is lines)
    ⊎ ((some : List ReportLine) × (lines ≡ some ++ reported.Nothing name ∷ [])
    × (length some < count)
    × All Is some)

-- messages that go into the link one by one, each of which is followed by the taking of one
abbrev pub ArePassed : List ℕ → List ReportLine → Type 0
ArePassed name [] = Unit {0}
ArePassed name (sending ∷ []) = ⊥
ArePassed name (sending ∷ (taking ∷ lines)) =
    IsSending name sending × IsTaking name taking × ArePassed name lines

-- a search is asked for, before which an earlier one is dropped where there is one
pub record IsOpening (name : List ℕ) (lines : List ReportLine) : Type 0 where
  pub cut : List ReportLine
  pub drops : IsAtMost (reported.Cut name) cut
  pub answer : ReportLine
  pub answers : IsAnswer name answer
  pub whole : lines ≡ cut ++ answer ∷ []

-- a new search is opened: where it is refused for the cookie (e-syncRefreshRequired), it is
-- asked for once more, without one; and all its messages are sent and taken
pub record IsRefreshing (name : List ℕ) (lines : List ReportLine) : Type 0 where
  pub cut : List ReportLine
  pub drops : IsAtMost (reported.Cut name) cut
  pub first : List ReportLine
  pub refuses : IsAtMost (reported.Refused name false E_SYNC_REFRESH_REQUIRED) first
  pub writes : ℕ
  pub passed : List ReportLine
  pub passes : ArePassed name passed
  pub whole : lines ≡ cut ++ (first ++ reported.Opened name false writes ∷ passed)

-- a consumer is brought up: it takes what its link holds, then what its search has to
-- send, and then all that a new search has, or no more than that; at the end stands the
-- one line that it is settled
pub record IsSettling (name : List ℕ) (lines : List ReportLine) : Type 0 where
  pub taken : List ReportLine
  pub takes : All (IsTaking name) taken
  pub passed : List ReportLine
  pub passes : ArePassed name passed
  pub again : List ReportLine
  pub refreshes : (again ≡ []) ⊎ IsRefreshing name again
  pub writes : ℕ
  pub whole : lines ≡ taken ++ (passed ++ (again ++ reported.Settled name writes ∷ []))

-- ---- the lines of an event

-- which lines there are for an order. Those that report the time, and a cookie that is lost
-- or given, have no byte
abbrev pub IsReportOf : Order → List ReportLine → Type 0
IsReportOf (asks.Provider name suffix) lines = lines ≡ []
IsReportOf (asks.Consumer name source search reload) lines = lines ≡ []
IsReportOf (asks.Replica name source search reload) lines = lines ≡ []
IsReportOf (asks.Clock time) lines = lines ≡ reported.Clocked time ∷ []
IsReportOf (asks.Write name change) lines =
    (code : ℕ) × (writes : ℕ) × (lines ≡ reported.Wrote name code writes ∷ [])
IsReportOf (asks.OpenOnce name) lines = IsOpening name lines
IsReportOf (asks.OpenStay name) lines = IsOpening name lines
IsReportOf (asks.Send name count) lines = AreUpTo count name (IsSending name) lines
IsReportOf (asks.Take name count) lines = AreUpTo count name (IsTaking name) lines
IsReportOf (asks.Cut name) lines =
    (lines ≡ reported.Cut name ∷ []) ⊎ (lines ≡ reported.Nothing name ∷ [])
IsReportOf (asks.Settle name) lines = IsSettling name lines
IsReportOf (asks.Lose name) lines = lines ≡ reported.Holds name None ∷ []
IsReportOf (asks.Cookie name text) lines = lines ≡ reported.Holds name (Some text) ∷ []
IsReportOf (asks.Repoint name source) lines = IsAtMost (reported.Cut name) lines
IsReportOf (asks.Respec name search) lines =
    (cut : List ReportLine) × IsAtMost (reported.Cut name) cut
    × (lines ≡ cut ++ reported.Holds name None ∷ [])
IsReportOf (asks.Log name limit) lines = lines ≡ []
IsReportOf (asks.Queue name limit) lines = lines ≡ []
IsReportOf (asks.Show name) lines =
    (entries : List Entry) × (lines ≡ reported.Shown name entries ∷ [])

-- a report has the lines of each of these orders, one after another
abbrev pub AreReportsOf : List Order → List (List ReportLine) → Type 0
AreReportsOf [] [] = Unit {0}
AreReportsOf (order ∷ orders) (lines ∷ report) = IsReportOf order lines × AreReportsOf orders report
AreReportsOf [] (lines ∷ report) = ⊥
AreReportsOf (order ∷ orders) [] = ⊥
