-- Parts of an event that go on: what is done so far, and what is left.
use Rattle.std.specs.Prelude.{◌≡◌, ℕ, ◌≤◌, Ok, List, [], length}
use Rattle.cascade_exchange.specs.Exchange.{Agreement, ExchangeOutcome, after_lines, taken_some, left_to_send, ran_some}
use Rattle.cascade_report.specs.Report.{Report, said}
use Rattle.cascade_report.specs.ReportLines.{ReportLine}

-- some lines were reported, and what is left goes on after them to the whole
abbrev pub GoesOn : ExchangeOutcome → ExchangeOutcome → Report → Report → Type 0
GoesOn whole left old new =
    (lines : List ReportLine) × (whole ≡ after_lines lines left) × (new ≡ said old lines)

-- what the link holds is taken, in n steps at most
abbrev pub Drains : ExchangeOutcome → Agreement → Report → Report → Type 0
Drains whole pair old new =
    (most : ℕ) × (length pair.consumer_node.link ≤ most)
    × GoesOn whole (Ok (taken_some most [] pair)) old new

-- what the search has pending is sent and taken, in n steps at most
abbrev pub Runs : ExchangeOutcome → Agreement → Report → Report → Type 0
Runs whole pair old new =
    (most : ℕ) × (left_to_send pair pair.consumer_node.search ≤ most)
    × GoesOn whole (ran_some most pair) old new
