-- What `cascade` reads, does and writes.
use Rattle.std.specs.Prelude.{◌≡◌, ◌≢◌, ◌⊎◌, ℕ, ◌≤◌, Option, IfSome, List, [], ◌∷◌, ◌++◌, length, codes, Result, Ok, Err}
use Rattle.std.specs.declared.string.String.{String}
use Rattle.std.specs.declared.alloc.Global.{Global}
use Rattle.std.specs.String.{string_bytes}
use Rattle.std.specs.Io.KnownBytes.{Appends, Consumes, Keeps, IsAtEnd}
use Rattle.sync_io.specs.Faults.{CountHasRisen}
use Rattle.sync_io.specs.Sink.{AppendsPrefix}
use Rattle.cascade_script.specs.declared.fault.Cause.{Cause}
use Rattle.cascade_script.specs.declared.fault.Cause.TheVariants.{LimitReached}
use Rattle.cascade_laws.specs.Headline.{LinesAreRight}
use Rattle.cascade_laws.specs.Reports.{AreReportsOf}
use Rattle.cascade_script.specs.Lines.{most_bytes}
use Rattle.cascade_script.specs.Orders.{Order}
use Rattle.cascade_script.specs.Reader.{ScriptReader, next_in, reader_of}
use Rattle.cascade_script.specs.Reader.Next.{Ended}
use Rattle.cascade_world.specs.ReportLines.{ReportLine, lines_text, report_text}
use Rattle.cascade_laws.specs.Run.{Runs, IsRefusal, IsScript, AreHeld}
use Rattle.cascade_world.specs.Trace.{AreTraced, all_lines}
use Rattle.cascade_world.specs.World.{WorldState, no_nodes}
use Rattle.drill_plan.specs.declared.plan.DrillPlan.{DrillPlan}
use Rattle.syncrepl_tool.specs.DrillWords.{IsDrill, IsDrillStatus}
use Rattle.syncrepl_tool.specs.Searching.{IsSearch, IsSearchStatus, SearchAsked}
use Rattle.syncrepl_tool.specs.Serve.{IsServe, IsServeStatus}
use Rattle.syncrepl_tool.specs.Texts.{Says, refusal_text, read_fault_text, write_fault_text}
use Rattle.syncrepl_tool.specs.declared.run.Status.{Status}
use Rattle.syncrepl_tool.specs.declared.run.Outcome.{Outcome}
use Rattle.syncrepl_tool.specs.declared.run.Outcome.TheVariants.{Done, Refused, WriteFault}
use Rattle.syncrepl_tool.specs.declared.run.Input.{Input}
use Rattle.syncrepl_tool.specs.declared.run.Input.TheVariants.{Text, Failed}

-- the text of a report, or that of the lines of all its orders but the last and then a
-- prefix of the last one's
abbrev pub EndsInLast : List (List ReportLine) → List ℕ → Type 0
EndsInLast report text =
    (text ≡ report_text report)
    ⊎ ((whole : List (List ReportLine)) × (last : List ReportLine)
    × (prefix : List ℕ) × (rest : List ℕ)
    × (report ≡ whole ++ last ∷ []) × (lines_text last ≡ prefix ++ rest)
    × (text ≡ report_text whole ++ prefix))

-- The headline: of the report of the first orders of the script a prefix was written, which may end
-- in the midst of the last order's lines. Each order has the lines that belong to it, and each of
-- these is right. The wire is used: these lines report all that happened to the links and the
-- copies of the consumers. And what they report last of each consumer is what it holds. The state
-- is that which these orders leave.
pub record WritesPrefix
    (script : ScriptReader) (old new : Option (List ℕ)) (end : WorldState) : Type 0 where
  pub orders : List Order
  pub report : List (List ReportLine)
  pub rest : ScriptReader
  pub run : Runs no_nodes script orders report end rest
  pub given : AreReportsOf orders report
  pub right : LinesAreRight [] [] orders report
  pub traced : AreTraced (all_lines report) end.consumer_nodes
  pub held : AreHeld (all_lines report) end
  pub written : AppendsPrefix old new (report_text report)
  pub torn : EndsInLast report written.0

-- the whole report of the first orders of the script was written, and the state is that
-- which these orders leave
pub record WritesReport
    (script : ScriptReader) (old new : Option (List ℕ)) (end : WorldState)
    (rest : ScriptReader) : Type 0 where
  pub orders : List Order
  pub report : List (List ReportLine)
  pub run : Runs no_nodes script orders report end rest
  pub given : AreReportsOf orders report
  pub right : LinesAreRight [] [] orders report
  pub traced : AreTraced (all_lines report) end.consumer_nodes
  pub held : AreHeld (all_lines report) end
  pub written : Appends old new (report_text report)

-- all orders of the script are done and reported
pub record WritesWhole
    (script : ScriptReader) (old new : Option (List ℕ)) (end : WorldState) : Type 0 where
  pub rest : ScriptReader
  pub report : WritesReport script old new end rest
  pub ended : next_in rest ≡ Ended

-- the orders before the refused one are done and reported, and that is refused at this
-- line with this cause
pub record WritesUpTo
    (script : ScriptReader) (old new : Option (List ℕ)) (end : WorldState)
    (line : ℕ) (cause : Cause) : Type 0 where
  pub rest : ScriptReader
  pub report : WritesReport script old new end rest
  pub refusal : IsRefusal end rest line cause

-- how the orders of a script ended
abbrev pub Ends :
    ScriptReader → Option (List ℕ) → Option (List ℕ) → WorldState → ℕ → ℕ → Outcome → Type 0
Ends script old new end before now Done = WritesWhole script old new end
Ends script old new end before now (Refused fault) =
    WritesUpTo script old new end fault.line fault.cause
Ends script old new end before now WriteFault = CountHasRisen before now

-- the status of a refusal: 8 where a limit is passed, else 3
abbrev pub status_of : Cause → ℕ
status_of (LimitReached number) = 8
status_of _ = 3

-- the script is refused with a status of that number, and the refusal is said
abbrev pub IsRefused :
    ℕ → ScriptReader → Option (List ℕ) → Option (List ℕ) → WorldState → Option (List ℕ)
    → Option (List ℕ) → ℕ → ℕ → Type 0
IsRefused code script old new end unsaid said before now =
    (line : ℕ) × (cause : Cause) × (status_of cause ≡ code)
    × WritesUpTo script old new end line cause
    × Says (refusal_text line cause) unsaid said before now

abbrev pub IsRefusedStatus : ℕ → Type 0
IsRefusedStatus code = (code ≡ 3) ⊎ (code ≡ 8)

-- the orders of the script are done, and nothing is said; or it is refused, which is said; or
-- writing the report failed
abbrev pub RunEnds :
    ScriptReader → Option (List ℕ) → Option (List ℕ) → WorldState → ℕ → ℕ → Option (List ℕ)
    → Option (List ℕ)
    → ℕ → ℕ → ℕ → Type 0
RunEnds script old new end before now unsaid said faults_before faults_now code =
    ((code ≡ 0) × WritesWhole script old new end × Keeps unsaid said)
    ⊎ (IsRefusedStatus code
    × IsRefused code script old new end unsaid said faults_before faults_now)
    ⊎ ((code ≡ 5) × CountHasRisen before now
    × Says write_fault_text unsaid said faults_before faults_now)

-- the text is the prefix of the bytes that were left, and all of them where it is not too long
pub record IsPrefixOf (old new : Option (List ℕ)) (text : List ℕ) : Type 0 where
  pub prefix :
      IfSome old
      (λ all. (rest : List ℕ) × (all ≡ text ++ rest) × (length text ≤ most_bytes → rest ≡ []))
  pub end : length text ≤ most_bytes → IsAtEnd new

-- a text was read, and no read failed; or one did
abbrev pub IsInput : Option (List ℕ) → Option (List ℕ) → ℕ → ℕ → Input → Type 0
IsInput old new before now (Text text) = IsPrefixOf old new text × (now ≡ before)
IsInput old new before now Failed = CountHasRisen before now

-- of the bytes that were left none were taken but the first
abbrev pub IsTakenFrom : (old new : Option (List ℕ)) → Type 0
IsTakenFrom old new = (bytes : List ℕ) × Consumes old new bytes

-- no write failed, unless that is how the orders of a script ended
abbrev pub IsOutputSound : {E : Type 0} → Result Outcome E → (before now : ℕ) → Type 0
IsOutputSound (Ok Done) before now = now ≡ before
IsOutputSound (Ok (Refused fault)) before now = now ≡ before
IsOutputSound (Ok WriteFault) before now = Unit {0}
IsOutputSound (Err memory) before now = now ≡ before

-- a fact that a status of this code brings
abbrev pub OnCode : ℕ → Type 0 → Status → Type 0
OnCode code P status = status.code ≡ code → P

-- the one word `cascade`
abbrev pub IsCascade : List (String Global) → Type 0
IsCascade [] = ⊥
IsCascade (word ∷ []) = string_bytes word ≡ codes "cascade"
IsCascade (word ∷ other ∷ words) = ⊥

abbrev pub IsCascadeStatus : ℕ → Type 0
IsCascadeStatus code = (code ≡ 0) ⊎ (code ≡ 3) ⊎ (code ≡ 4) ⊎ (code ≡ 5) ⊎ (code ≡ 8)

-- the words are one of the forms that the program knows
abbrev pub IsForm : List (String Global) → Type 0
IsForm words =
    IsCascade words ⊎ ((name : List ℕ) × IsServe words name)
    ⊎ ((asked : SearchAsked) × IsSearch words asked)
    ⊎ ((plan : DrillPlan) × IsDrill words plan)

-- a status with which words of this form may end, or 2 for words of none
abbrev pub IsStatus : List (String Global) → ℕ → Type 0
IsStatus words code =
    ((code ≡ 2) × (IsForm words → ⊥))
    ⊎ (IsCascade words × IsCascadeStatus code)
    ⊎ ((name : List ℕ) × IsServe words name × IsServeStatus code)
    ⊎ ((asked : SearchAsked) × IsSearch words asked × IsSearchStatus code)
    ⊎ ((plan : DrillPlan) × IsDrill words plan × IsDrillStatus code)

-- a script without a refusal is done, and any other text is refused
pub record Decides (code : ℕ) (text : List ℕ) : Type 0 where
  pub script : IsScript text → code ≡ 0
  pub other : (IsScript text → ⊥) → IsRefusedStatus code

-- ---- what the status of a run says

-- what the input, the output and the errors of a run hold at one moment: the bytes that are left to
-- read, those of the report and those that were said, and how many reads and writes have failed
pub record Streams : Type 0 where
  pub left : Option (List ℕ)
  pub read_faults : ℕ
  pub report : Option (List ℕ)
  pub report_faults : ℕ
  pub said : Option (List ℕ)
  pub said_faults : ℕ

-- the streams of these bytes and failures: of the input, of the output, and of the errors
abbrev pub streams :
    Option (List ℕ) → ℕ → Option (List ℕ) → ℕ → Option (List ℕ) → ℕ → Streams
streams left read_faults report report_faults said said_faults =
    record {
      left = left;
      read_faults = read_faults;
      report = report;
      report_faults = report_faults;
      said = said;
      said_faults = said_faults;
    }

-- a run for the word `cascade` that found and left the streams so, and left the world so, may end
-- with this status
pub record MayEndWith (before after : Streams) (end : WorldState) (status : Status) : Type 0 where
  pub done :
      OnCode 0
      (IfSome before.left
      (λ text.
      IsScript text × WritesWhole (reader_of text) before.report after.report end)) status
  pub read_to_end : OnCode 0 (IsAtEnd after.left) status
  pub quiet : OnCode 0 (Keeps before.said after.said) status
  pub refused :
      OnCode 3
      (IfSome before.left
      (λ text.
      IsRefused 3 (reader_of text) before.report after.report end before.said after.said
      before.said_faults after.said_faults)) status
  pub limited :
      OnCode 8
      (IfSome before.left
      (λ text.
      IsRefused 8 (reader_of text) before.report after.report end before.said after.said
      before.said_faults after.said_faults)) status
  pub no_script :
      IsRefusedStatus status.code → IfSome before.left (λ text. IsScript text → ⊥)
  pub read_fault : OnCode 4 (CountHasRisen before.read_faults after.read_faults) status
  pub read_sound : status.code ≢ 4 → after.read_faults ≡ before.read_faults
  pub read_fault_reported :
      OnCode 4
      (Says read_fault_text before.said after.said before.said_faults after.said_faults) status
  pub unread : OnCode 4 ((after.report ≡ before.report) × (end ≡ no_nodes)) status
  pub write_fault : OnCode 5 (CountHasRisen before.report_faults after.report_faults) status
  pub output_sound : status.code ≢ 5 → after.report_faults ≡ before.report_faults
  pub write_fault_reported :
      OnCode 5
      (Says write_fault_text before.said after.said before.said_faults after.said_faults) status
