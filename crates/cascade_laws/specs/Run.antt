-- A run of a script: the orders that are read one after another, what each does, and
-- what its lines report.
use Rattle.std.specs.Prelude.{◌≡◌, ◌⊎◌, ℕ, Some, Ok, Err, List, [], ◌∷◌}
use Rattle.sync_model.specs.Copy.{Copy}
use Rattle.cascade_script.specs.declared.fault.Cause.{Cause}
use Rattle.cascade_script.specs.Fault.{fault_at}
use Rattle.cascade_laws.specs.Headline.{Known, known_of, LinesAreRight}
use Rattle.cascade_laws.specs.Reports.{AreReportsOf}
use Rattle.cascade_script.specs.Orders.{Order}
use Rattle.cascade_script.specs.Reader.{ScriptReader, next_in, reader_of}
use Rattle.cascade_script.specs.Reader.Next.{Ended, Refused, Got}
use Rattle.cascade_nodes.specs.declared.node.ConsumerNode.{ConsumerNode}
use Rattle.cascade_world.specs.ReportLines.{ReportLine}
use Rattle.cascade_world.specs.Trace.{AreTraced, all_lines}
use Rattle.cascade_world.specs.World.{WorldState, no_nodes, step, consumer_node_named}

-- from this state and reader on these orders come, they report these lines, and leave this state
-- and the rest of the script
abbrev pub Runs :
    WorldState → ScriptReader → List Order → List (List ReportLine) → WorldState → ScriptReader
    → Type 0
Runs state reader [] [] end rest = (state ≡ end) × (reader ≡ rest)
Runs state reader (order ∷ orders) (reported ∷ report) end rest =
    (line : ℕ) × (more : ScriptReader) × (next : WorldState)
    × (next_in reader ≡ Got line order more)
    × (step state order ≡ Ok (next, reported))
    × Runs next more orders report end rest
Runs state reader [] (reported ∷ report) end rest = ⊥
Runs state reader (order ∷ orders) [] end rest = ⊥

-- what stands next is refused at that line, by the reader or by the nodes
abbrev pub IsRefusal : WorldState → ScriptReader → ℕ → Cause → Type 0
IsRefusal state reader line cause =
    (next_in reader ≡ Refused (fault_at line cause))
    ⊎ ((order : Order) × (rest : ScriptReader) × (next_in reader ≡ Got line order rest)
    × (step state order ≡ Err cause))

-- a text is a script that meets no refusal
pub record IsScript (text : List ℕ) : Type 0 where
  pub orders : List Order
  pub report : List (List ReportLine)
  pub end : WorldState
  pub rest : ScriptReader
  pub run : Runs no_nodes (reader_of text) orders report end rest
  pub whole : next_in rest ≡ Ended

-- the copy has the entries and the cookie that are known of its consumer
pub record HoldsKnown (known : Known) (copy : Copy) : Type 0 where
  pub entries : copy.held ≡ known.entries
  pub cookie : copy.cookie ≡ known.cookie

-- what these lines report last of each consumer, that of a replica too, is what it holds: the
-- entries of its last `stored` line, or none before the first, and the cookie of this line, or what
-- was lost or given since
abbrev pub AreHeld : List ReportLine → WorldState → Type 0
AreHeld said state =
    (name : List ℕ) (consumer_node : ConsumerNode)
    → consumer_node_named name state ≡ Some consumer_node
    → HoldsKnown (known_of name said) consumer_node.consumer.copy

-- each line of each run from no nodes is right for the orders and the lines before it
abbrev pub RunsAreRight : Type 0
RunsAreRight =
    (reader : ScriptReader) (orders : List Order) (report : List (List ReportLine))
    (end : WorldState) (rest : ScriptReader)
    → Runs no_nodes reader orders report end rest → LinesAreRight [] [] orders report

-- each order of a run gives the lines that belong to it, and no others
abbrev pub OrdersGiveTheirLines : Type 0
OrdersGiveTheirLines =
    (reader : ScriptReader) (orders : List Order) (report : List (List ReportLine))
    (end : WorldState) (rest : ScriptReader)
    → Runs no_nodes reader orders report end rest → AreReportsOf orders report

-- the lines of each run from no nodes report all that happened to the links and the
-- copies of the consumers
abbrev pub LinesReportAll : Type 0
LinesReportAll =
    (reader : ScriptReader) (orders : List Order) (report : List (List ReportLine))
    (end : WorldState) (rest : ScriptReader)
    → Runs no_nodes reader orders report end rest → AreTraced (all_lines report) end.consumer_nodes

-- what the lines of each run from no nodes report last of a consumer is what it holds at the end
abbrev pub LinesReportWhatIsHeld : Type 0
LinesReportWhatIsHeld =
    (reader : ScriptReader) (orders : List Order) (report : List (List ReportLine))
    (end : WorldState) (rest : ScriptReader)
    → Runs no_nodes reader orders report end rest → AreHeld (all_lines report) end
