-- The lines of a report.
use Rattle.std.specs.Prelude.{ℕ, ℤ, Bool, List, [], ◌∷◌, ◌++◌, Option, Some, None, length, codes}
use Rattle.std.specs.Fmt.{decimal, signed_decimal}
use Rattle.std.specs.List.{flat_map}
use Rattle.hex.specs.Hex.{encode_lower}
use Rattle.sha2.specs.Sha256.{sha256}
use Rattle.dn_names.specs.Writing.{name_text}
use Rattle.entry_tree.specs.declared.entry.Entry.{Entry}
use Rattle.entry_tree.specs.Selection.{Search}
use Rattle.ldif_text.specs.Written as ldif
use Rattle.sync_consumer.specs.declared.commit.Commit as reported
use Rattle.sync_model.specs.Copy.{Commit}
use Rattle.cascade_report.specs.declared.notes.Origin.{Origin}

-- an entry as a record of LDIF, with its identity and the number of its last change
abbrev pub entry_text : Entry → List ℕ
entry_text e = ldif.entry_text (name_text e.dn) e.attrs (Some (e.uuid, e.csn))

-- entries as LDIF, in the order in which they are given
unfoldable pub text_of : List Entry → List ℕ
text_of entries = flat_map entry_text entries

-- what a consumer holds once a stage took effect: the number of the prefix that its entries are
-- of, the entries, and the prefix of a root's writes that they are of, where one is known,
-- which are printed; and the stage with the cookie that came with it, and what the consumer
-- wants, which are not
pub record Storing : Type 0 where
  pub number : ℕ
  pub entries : List Entry
  pub origin : Option Origin
  pub commit : Commit
  pub search : Search

-- a stage that took effect, as a consumer reports it
abbrev pub commit_reported : reported.Commit → Commit
commit_reported commit = record { puts = commit.puts; drops = commit.drops; cookie = commit.cookie }

-- what is reported of an event, mostly by a line
pub data ReportLine : Type 0 where
  -- a write to a provider, with its code and the accepted writes after it
  Wrote : (name : List ℕ) (code writes : ℕ) → ReportLine
  -- a search that is open, with the provider's accepted writes, or that is refused, with
  -- the code; it was asked for in a mode that persists, or to end with its refresh, of
  -- which nothing is printed
  Opened : (name : List ℕ) (persists : Bool) (writes : ℕ) → ReportLine
  Refused : (name : List ℕ) (persists : Bool) (code : ℕ) → ReportLine
  -- the bytes of a message that went into the link
  Sent : (name message : List ℕ) → ReportLine
  -- a message that was taken, and changed no entries; one with which a stage took effect; a search
  -- that is over, with the result code; a message that was refused
  Taken : (name : List ℕ) → ReportLine
  Stored : (name : List ℕ) (stored : Storing) → ReportLine
  Ended : (name : List ℕ) (code : ℤ) → ReportLine
  Faulted : (name fault : List ℕ) → ReportLine
  -- a search that was dropped
  Cut : (name : List ℕ) → ReportLine
  -- nothing to send, to take or to cut
  Nothing : (name : List ℕ) → ReportLine
  -- the provider's accepted writes at the end of a settling
  Settled : (name : List ℕ) (writes : ℕ) → ReportLine
  -- the text that a consumer gets as its cookie, or that it loses its cookie, of
  -- which nothing is printed
  Holds : (name : List ℕ) (cookie : Option (List ℕ)) → ReportLine
  -- the time that the clocks show from now on, of which nothing is printed
  Clocked : (time : ℕ) → ReportLine
  -- the entries of a node as text
  Shown : (name : List ℕ) (entries : List Entry) → ReportLine

-- `WORD NAME`, without the end of the line
abbrev pub prefix : List ℕ → List ℕ → List ℕ
prefix word name = word ++ 32 ∷ [] ++ name

-- `WORD NAME`
abbrev pub named_line : List ℕ → List ℕ → List ℕ
named_line word name = prefix word name ++ 10 ∷ []

-- `WORD NAME N`
abbrev pub numbered_line : List ℕ → List ℕ → ℕ → List ℕ
numbered_line word name number = prefix word name ++ 32 ∷ [] ++ decimal number ++ 10 ∷ []

-- `wrote P CODE N`
abbrev pub wrote_line : List ℕ → ℕ → ℕ → List ℕ
wrote_line name code writes =
    prefix (codes "wrote") name ++ 32 ∷ [] ++ decimal code ++ 32 ∷ [] ++ decimal writes ++ 10 ∷ []

-- `opened C N`
abbrev pub opened_line : List ℕ → ℕ → List ℕ
opened_line name writes = numbered_line (codes "opened") name writes

-- `refused C CODE`
abbrev pub refused_line : List ℕ → ℕ → List ℕ
refused_line name code = numbered_line (codes "refused") name code

-- `sent C HEX`, with the bytes in lower-case hexadecimal digits
abbrev pub sent_line : List ℕ → List ℕ → List ℕ
sent_line name message = prefix (codes "sent") name ++ 32 ∷ [] ++ encode_lower message ++ 10 ∷ []

-- `taken C`
abbrev pub taken_line : List ℕ → List ℕ
taken_line name = named_line (codes "taken") name

-- ` N entries E sha256 H`: E entries, whose text has the SHA-256 digest H
abbrev pub content_text : ℕ → List Entry → List ℕ
content_text number entries =
    32 ∷ [] ++ decimal number ++ codes " entries " ++ decimal (length entries) ++ codes " sha256 "
    ++ encode_lower (sha256 (text_of entries))

-- `P M`, or `-` where no origin is known
abbrev pub origin_name : Option Origin → List ℕ
origin_name None = codes "-"
origin_name (Some origin) = origin.root ++ 32 ∷ [] ++ decimal origin.number

-- ` origin P M`, and the end of the line
abbrev pub origin_text : Option Origin → List ℕ
origin_text origin = codes " origin " ++ origin_name origin ++ 10 ∷ []

-- `stored C N entries E sha256 H origin P M`
abbrev pub stored_line : List ℕ → ℕ → List Entry → Option Origin → List ℕ
stored_line name number entries origin =
    prefix (codes "stored") name ++ content_text number entries ++ origin_text origin

-- `ended C CODE`
abbrev pub ended_line : List ℕ → ℤ → List ℕ
ended_line name code = prefix (codes "ended") name ++ 32 ∷ [] ++ signed_decimal code ++ 10 ∷ []

-- `fault C NAME`
abbrev pub fault_line : List ℕ → List ℕ → List ℕ
fault_line name fault = prefix (codes "fault") name ++ 32 ∷ [] ++ fault ++ 10 ∷ []

-- `cut C`
abbrev pub cut_line : List ℕ → List ℕ
cut_line name = named_line (codes "cut") name

-- `nothing C`
abbrev pub nothing_line : List ℕ → List ℕ
nothing_line name = named_line (codes "nothing") name

-- `settled C N`
abbrev pub settled_line : List ℕ → ℕ → List ℕ
settled_line name writes = numbered_line (codes "settled") name writes

abbrev pub line_of : ReportLine → List ℕ
line_of (Wrote name code writes) = wrote_line name code writes
line_of (Opened name persists writes) = opened_line name writes
line_of (Refused name persists code) = refused_line name code
line_of (Sent name message) = sent_line name message
line_of (Taken name) = taken_line name
line_of (Stored name stored) = stored_line name stored.number stored.entries stored.origin
line_of (Ended name code) = ended_line name code
line_of (Faulted name fault) = fault_line name fault
line_of (Cut name) = cut_line name
line_of (Nothing name) = nothing_line name
line_of (Settled name writes) = settled_line name writes
line_of (Holds name cookie) = []
line_of (Clocked time) = []
line_of (Shown name entries) = text_of entries

-- the bytes of some lines
abbrev pub lines_text : List ReportLine → List ℕ
lines_text reported = flat_map line_of reported

-- the bytes of a report, which has a list of lines for each event
abbrev pub report_text : List (List ReportLine) → List ℕ
report_text report = flat_map lines_text report

-- ---- stages

-- what a stage that took effect put and dropped, and the origin of what is held then
pub record StoredStage : Type 0 where
  pub puts : List Entry
  pub drops : List ℕ
  pub origin : Option Origin

abbrev pub stage_of : Storing → StoredStage
stage_of stored =
    record { puts = stored.commit.puts; drops = stored.commit.drops; origin = stored.origin }

-- the stages of which a line reports
abbrev pub stages_in : ReportLine → List StoredStage
stages_in (Stored name stored) = stage_of stored ∷ []
stages_in _ = []

abbrev pub stages_of : List ReportLine → List StoredStage
stages_of reported = flat_map stages_in reported
