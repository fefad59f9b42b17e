-- What stands next in a script, and what reading it answers.
use Rattle.std.specs.Prelude.{◌≡◌, ℕ, ◌+◌, Bool, true, false, not, Option, Some, None, Result, Ok, Err, List, [], ◌∷◌, length, if◌then◌else◌, ◌==◌}
use Rattle.std.specs.List.{list_all}
use Rattle.std.specs.Str.{is_utf8}
use Rattle.ldif_text.specs.declared.fault.LdifFault.{LdifFault}
use Rattle.ldif_text.specs.declared.fault.LdifFault.TheVariants as ldif
use Rattle.ldif_text.specs.Lines.{unfolded}
use Rattle.ldif_text.specs.Reader.{Found, next_record}
use Rattle.cascade_script.specs.declared.event.Event.{Event}
use Rattle.cascade_script.specs.declared.fault.ScriptFault.{ScriptFault}
use Rattle.cascade_script.specs.declared.fault.Cause.{Cause}
use Rattle.cascade_script.specs.declared.fault.Cause.TheVariants.{BadCommand, BadRecord, LimitReached, NoMemory}
use Rattle.cascade_script.specs.Fault.{fault_at}
use Rattle.cascade_script.specs.Grammar.{Saying, saying}
use Rattle.cascade_script.specs.Grammar.Saying.{Orders, Writes}
use Rattle.cascade_script.specs.Lines.{script_lines, limit_passed}
use Rattle.cascade_script.specs.Orders.{Order, order_of}
use Rattle.cascade_script.specs.Orders.Order.{Write}
use Rattle.cascade_script.specs.Words.{is_empty}

-- the lines that are left, how many were read, and the limit that a line after them passes
pub record ScriptReader : Type 0 where
  pub lines : List (List ℕ)
  pub read : ℕ
  pub limit : Option ℕ

-- a script at its beginning
abbrev pub reader_of : List ℕ → ScriptReader
reader_of text = record { lines = script_lines text; read = 0; limit = limit_passed text }

-- what stands next: the end, a refusal, or an order with the number of its line and
-- the rest of the script
pub data Next : Type 0 where
  Ended : Next
  Refused : ScriptFault → Next
  Got : ℕ → Order → ScriptReader → Next

-- after the last line: the end, or a line that passes a limit
abbrev pub beyond : ℕ → Option ℕ → Next
beyond read None = Ended
beyond read (Some limit) = Refused (fault_at (read + 1) (LimitReached limit))

-- ---- the record of a write

-- the lines before the first empty one
abbrev pub body_of : List (List ℕ) → List (List ℕ)
body_of [] = []
body_of (line ∷ lines) = if is_empty line then [] else line ∷ body_of lines

-- and those from it on
abbrev pub after_body : List (List ℕ) → List (List ℕ)
after_body [] = []
after_body (line ∷ lines) = if is_empty line then line ∷ lines else after_body lines

-- the refusal of a record: at the line that the reader of records reports, or at the command where
-- there is no record
abbrev pub record_fault : ℕ → LdifFault → ScriptFault
record_fault command (ldif.BadLine line) = fault_at line BadRecord
record_fault command (ldif.BadBase64 line) = fault_at line BadRecord
record_fault command (ldif.BadChange line) = fault_at line BadRecord
record_fault command ldif.NoMemory = fault_at command NoMemory

abbrev pub of_record : ℕ → List ℕ → ScriptReader → Result (Option Found) LdifFault → Next
of_record command name rest (Ok None) = Refused (fault_at command BadRecord)
of_record command name rest (Ok (Some found)) = Got command (Write name found.change) rest
of_record command name rest (Err fault) = Refused (record_fault command fault)

-- the record of these lines, which come after the command
abbrev pub read_record : ℕ → List ℕ → List (List ℕ) → ScriptReader → Next
read_record command name body rest =
    of_record command name rest
    (next_record
    (record { lines = unfolded (command + 1) body; line = command + 1; begun = false }))

-- the limit that a line passes before these lines, of which there is none where one does
abbrev pub limit_before : Option ℕ → List (List ℕ) → Option ℕ
limit_before limit [] = limit
limit_before limit (line ∷ lines) = None

-- a record is whole where an empty line or the script's end stands after it, and not where a line
-- that passes a limit does
abbrev pub whole_record : Option ℕ → ℕ → List ℕ → List (List ℕ) → ScriptReader → Next
whole_record None command name body rest = read_record command name body rest
whole_record (Some limit) command name body rest = beyond (command + length body) (Some limit)

-- the record of these lines, before those
abbrev pub record_before : Option ℕ → ℕ → List ℕ → List (List ℕ) → List (List ℕ) → Next
record_before limit command name body lines =
    if not (list_all is_utf8 body) then Refused (fault_at command BadCommand)
    else whole_record (limit_before limit lines) command name body
    (record { lines = lines; read = command + length body; limit = limit })

-- ---- events

-- what the line of that number says, before these lines
abbrev pub next_of : Option ℕ → ℕ → Option Saying → List (List ℕ) → Next
next_of limit line None lines = Refused (fault_at line BadCommand)
next_of limit line (Some (Orders order)) lines =
    Got line order (record { lines = lines; read = line; limit = limit })
next_of limit line (Some (Writes name)) lines =
    record_before limit line name (body_of lines) (after_body lines)

-- an empty line or a comment, which is skipped between commands
abbrev pub is_skipped : List ℕ → Bool
is_skipped [] = true
is_skipped (b ∷ bytes) = b == 35

abbrev pub next_from : Option ℕ → ℕ → List (List ℕ) → Next
next_from limit read [] = beyond read limit
next_from limit read (line ∷ lines) =
    if not (is_utf8 line) then Refused (fault_at (read + 1) BadCommand)
    else (if is_skipped line then next_from limit (read + 1) lines
    else next_of limit (read + 1) (saying line) lines)

-- what stands next in a script
abbrev pub next_in : ScriptReader → Next
next_in reader = next_from reader.limit reader.read reader.lines

-- ---- the answers of reading

-- out of memory says nothing, and any other refusal is that of the script
abbrev pub IsRefusalOf : Next → ℕ → Cause → Type 0
IsRefusalOf next line NoMemory = Unit {0}
IsRefusalOf next line cause = next ≡ Refused (fault_at line cause)

-- what reading an event answers, and the reader that it leaves
abbrev pub Reads : ScriptReader → ScriptReader → Result (Option Event) ScriptFault → Type 0
Reads old new (Ok None) = (next_in old ≡ Ended) × (new ≡ old)
Reads old new (Ok (Some event)) = next_in old ≡ Got event.line (order_of event.command) new
Reads old new (Err fault) = IsRefusalOf (next_in old) fault.line fault.cause
