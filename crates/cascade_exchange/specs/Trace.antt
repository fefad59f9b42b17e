-- What the lines of a report make of a consumer: its link and its copy, by what was sent
-- to it and taken by it.
use Rattle.std.specs.Prelude.{◌≡◌, ℕ, Option, List, [], ◌∷◌, ◌++◌, fold, if◌then◌else◌}
use Rattle.std.specs.Str.{bytes_eq}
use Rattle.sync_consumer.specs.Taking.{nothing, without_search}
use Rattle.sync_model.specs.Copy.{Copy}
use Rattle.cascade_nodes.specs.declared.node.ConsumerNode.{ConsumerNode}
use Rattle.cascade_exchange.specs.Exchange.{asking, refused_copy}
use Rattle.cascade_exchange.specs.Reception.{received}
use Rattle.cascade_report.specs.ReportLines.{ReportLine}
use Rattle.cascade_report.specs.ReportLines.ReportLine.{Wrote, Opened, Refused, Sent, Taken, Stored, Ended, Faulted, Cut, Nothing, Settled, Holds, Clocked, Shown}

-- the messages in the link as bytes, and the copy
pub record Seen : Type 0 where
  pub link : List (List ℕ)
  pub copy : Copy

-- the message that the first bytes of the link spell is applied
abbrev pub took : Copy → List (List ℕ) → Seen
took copy [] = record { link = []; copy = copy }
took copy (message ∷ rest) = record { link = rest; copy = (received copy message).0 }

abbrev pub took_first : Seen → Seen
took_first seen = took seen.copy seen.link

-- no search, and nothing in the link
abbrev pub dropped : Seen → Seen
dropped seen = record { link = []; copy = without_search seen.copy }

-- another cookie, or none
abbrev pub with_cookie : Seen → Option (List ℕ) → Seen
with_cookie seen cookie = record seen { copy = record seen.copy { cookie = cookie } }

-- what a line of the consumer makes of it
abbrev pub after_own : Seen → ReportLine → Seen
after_own seen (Sent name message) = record seen { link = seen.link ++ message ∷ [] }
after_own seen (Taken name) = took_first seen
after_own seen (Stored name stored) = took_first seen
after_own seen (Ended name code) = took_first seen
after_own seen (Faulted name fault) = dropped (took_first seen)
after_own seen (Cut name) = dropped seen
after_own seen (Opened name persists writes) = record seen { copy = asking persists seen.copy }
after_own seen (Refused name persists code) =
    record seen { copy = refused_copy (asking persists seen.copy) code }
after_own seen (Nothing name) = seen
after_own seen (Settled name writes) = seen
after_own seen (Holds name cookie) = with_cookie seen cookie
after_own seen (Wrote name code writes) = seen
after_own seen (Clocked time) = seen
after_own seen (Shown name entries) = seen

-- whose line it is; the time is nobody's
abbrev pub name_in : ReportLine → List ℕ
name_in (Wrote name code writes) = name
name_in (Opened name persists writes) = name
name_in (Refused name persists code) = name
name_in (Sent name message) = name
name_in (Taken name) = name
name_in (Stored name stored) = name
name_in (Ended name code) = name
name_in (Faulted name fault) = name
name_in (Cut name) = name
name_in (Nothing name) = name
name_in (Settled name writes) = name
name_in (Holds name cookie) = name
name_in (Clocked time) = []
name_in (Shown name entries) = name

abbrev pub after_line : List ℕ → Seen → ReportLine → Seen
after_line name seen line = if bytes_eq (name_in line) name then after_own seen line else seen

-- the consumer after some lines, from an empty link and a copy without entries
abbrev pub unseen : Seen
unseen = record { link = []; copy = nothing }

abbrev pub traced : List ℕ → List ReportLine → Seen
traced name lines = fold (after_line name) unseen lines

abbrev pub seen_of : ConsumerNode → Seen
seen_of consumer_node = record { link = consumer_node.link; copy = consumer_node.consumer.copy }

-- the lines report all that happened to the links and the copies of these consumers: each message
-- that was sent stands in the link as the bytes that its line reports, each that was taken was
-- decoded from the first of these and applied to the copy, and nothing else changed a copy
abbrev pub AreTraced : List ReportLine → List ConsumerNode → Type 0
AreTraced lines [] = Unit {0}
AreTraced lines (consumer_node ∷ consumer_nodes) =
    (seen_of consumer_node ≡ traced consumer_node.name lines) × AreTraced lines consumer_nodes

-- the lines of a report, one after another
abbrev pub all_lines : List (List ReportLine) → List ReportLine
all_lines [] = []
all_lines (reported ∷ report) = reported ++ all_lines report
