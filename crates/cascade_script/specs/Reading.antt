-- What the parts of the reader answer at a place of the text.
use Rattle.std.specs.Prelude.{◌≡◌, ℕ, ◌≤◌, Option, Some, None, Result, Ok, Err, List, length, drop}
use Rattle.std.specs.Str.Lines.{lines}
use Rattle.schema_rules.specs.declared.raw.Change.{Change}
use Rattle.ldif_text.specs.declared.fault.LdifFault.{LdifFault}
use Rattle.ldif_text.specs.declared.lines.Cursor.{Cursor}
use Rattle.ldif_text.specs.Reader.{Found}
use Rattle.cascade_script.specs.declared.event.Command.{Command}
use Rattle.cascade_script.specs.declared.event.Event.{Event}
use Rattle.cascade_script.specs.declared.fault.ScriptFault.{ScriptFault}
use Rattle.cascade_script.specs.Orders.{order_of}
use Rattle.cascade_script.specs.Orders.Order.{Write}
use Rattle.cascade_script.specs.Reader.{ScriptReader, Next, IsRefusalOf, of_record}
use Rattle.cascade_script.specs.Reader.Next.{Ended, Got}

-- the lines from a place on
abbrev pub left_at : List ℕ → Cursor → List (List ℕ)
left_at bytes place = lines (drop place.at bytes)

-- a place of the text; a line takes a byte at least
pub record IsPlace (bytes : List ℕ) (place : Cursor) : Type 0 where
  pub within : place.at ≤ length bytes
  pub counted : place.number ≤ place.at

-- the reader at a place
abbrev pub reader_at : List ℕ → Option ℕ → Cursor → ScriptReader
reader_at bytes limit place =
    record { lines = left_at bytes place; read = place.number; limit = limit }

-- what reading the rest of a command's line and what follows it answers
abbrev pub ReadsCommand :
    List ℕ → Option ℕ → ℕ → Result (Command × Cursor) ScriptFault → Next → Type 0
ReadsCommand bytes limit line (Ok x) next =
    next ≡ Got line (order_of x.0) (reader_at bytes limit x.1)
ReadsCommand bytes limit line (Err fault) next = IsRefusalOf next fault.line fault.cause

-- what reading an event from a place on answers
abbrev pub ReadsEvent :
    List ℕ → Option ℕ → Result (Option (Event × Cursor)) ScriptFault → Next → Type 0
ReadsEvent bytes limit (Ok None) next = next ≡ Ended
ReadsEvent bytes limit (Ok (Some x)) next =
    next ≡ Got x.0.line (order_of x.0.command) (reader_at bytes limit x.1)
ReadsEvent bytes limit (Err fault) next = IsRefusalOf next fault.line fault.cause

-- what reading the record of a command answers, to whatever node and before
-- whatever rest of the script
abbrev pub ReadsRecord : ℕ → Result Change ScriptFault → Result (Option Found) LdifFault → Type 0
ReadsRecord command (Ok change) read =
    (name : List ℕ) (rest : ScriptReader)
    → of_record command name rest read ≡ Got command (Write name change) rest
ReadsRecord command (Err fault) read =
    (name : List ℕ) (rest : ScriptReader)
    → IsRefusalOf (of_record command name rest read) fault.line fault.cause
