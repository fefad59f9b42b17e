-- What stands next in an LDIF text (RFC 2849, ldif-file).
use Rattle.std.specs.Prelude.{ℕ, Bool, true, false, Option, Some, None, Result, Ok, Err, List, [], ◌∷◌, if◌then◌else◌, codes}
use Rattle.std.specs.Str.{bytes_eq}
use Rattle.schema_rules.specs.declared.raw.Change.{Change}
use Rattle.ldif_text.specs.declared.fault.LdifFault.{LdifFault}
use Rattle.ldif_text.specs.declared.fault.LdifFault.TheVariants.{BadChange}
use Rattle.ldif_text.specs.declared.lines.Line.{Line}
use Rattle.ldif_text.specs.Fault.{◌>>=◌}
use Rattle.ldif_text.specs.Field.{field_of}
use Rattle.ldif_text.specs.declared.records.TakenRecord.{TakenRecord}
use Rattle.ldif_text.specs.Lines.{left_at, from_content, record_lines, after_record, last_number}
use Rattle.ldif_text.specs.Record.{change_of}

-- the lines that are left, the number of the last line of the record that was given last, and
-- whether one was given
pub record RecordReader : Type 0 where
  pub lines : List Line
  pub line : ℕ
  pub begun : Bool

-- whether the line is `version: 1`; another version is refused
unfoldable pub is_version : Line → Result Bool LdifFault
is_version line = do
  field ← field_of line
  if bytes_eq field.name (codes "version")
      then (if bytes_eq field.value (codes "1") then Ok true else Err (BadChange line.first))
      else Ok false

-- a record, and the reader after it
pub record Found : Type 0 where
  pub change : Change
  pub after : RecordReader

-- what was taken from a text
abbrev pub found_in : List ℕ → TakenRecord → Found
found_in text taken =
    record {
      change = taken.change;
      after = record { lines = left_at text taken.place; line = taken.line; begun = true };
    }

-- the record that these lines begin with; `number` is that of a line before it, for a
-- record that has no line
abbrev pub record_at : ℕ → List Line → Result Found LdifFault
record_at number lines = do
  change ← change_of (last_number number (record_lines lines)) (record_lines lines)
  Ok (record {
    change = change;
    after =
        record {
          lines = after_record lines;
          line = last_number number (record_lines lines);
          begun = true;
        };
  })

-- the record that begins with the line, or that the version before it announces
abbrev pub first_record : Line → List Line → Result Found LdifFault
first_record line lines = do
  announced ← is_version line
  if announced then record_at line.last (from_content lines) else record_at line.last (line ∷ lines)

abbrev pub record_from : Bool → List Line → Result (Option Found) LdifFault
record_from begun [] = Ok None
record_from begun (line ∷ lines) = do
  found ← (if begun then record_at line.last (line ∷ lines) else first_record line lines)
  Ok (Some found)

-- the next record; none where empty lines and comments alone are left
abbrev pub next_record : RecordReader → Result (Option Found) LdifFault
next_record reader = record_from reader.begun (from_content reader.lines)
