-- A directory that is filled with the entries of a text in LDIF (RFC 2849).
use Rattle.std.specs.Prelude.{◌≡◌, ◌≢◌, ◌<◌, ◌⊎◌, ℕ, length, List, [], ◌∷◌, Some, None, Result, Ok, Err, Bool, true, false}
use Rattle.entry_tree.specs.Reading.{read_change}
use Rattle.entry_tree.specs.declared.op.Op.{Op}
use Rattle.ldap_constants.specs.declared.result_codes.TheConstants.{OTHER, SUCCESS}
use Rattle.ldif_text.specs.Reader.{RecordReader, next_record}
use Rattle.ldif_text.specs.declared.fault.LdifFault.{LdifFault}
use Rattle.ldif_text.specs.declared.fault.LdifFault.TheVariants as ldif
use Rattle.schema_rules.specs.declared.raw.Change.{Change}
use Rattle.schema_rules.specs.declared.raw.Change.TheVariants as change
use Rattle.sync_provider.specs.Ports.{PortState, WriteReplies}
use Rattle.sync_provider.specs.declared.writing.Reply.{Reply}
use Rattle.directory_setup.specs.declared.filling.RecordOutcome as code
use Rattle.directory_setup.specs.declared.filling.RecordOutcome.TheVariants.{Added, Over}
use Rattle.directory_setup.specs.declared.filling.Filling.{Filling}
use Rattle.directory_setup.specs.declared.filling.Filling.TheVariants.{Filled, Refused}
use Rattle.directory_setup.specs.declared.refusal.LineCause.{LineCause}
use Rattle.directory_setup.specs.declared.refusal.LineCause.TheVariants as cause

abbrev pub is_add : Change → Bool
is_add (change.Add name attributes) = true
is_add (change.Delete name) = false
is_add (change.Modify name edits) = false
is_add (change.Rename name rdn goes superior) = false

-- an entry that was added: its record, the write that this is, the time, and the reply
pub record AddedRecord : Type 0 where
  pub change : Change
  pub op : Op
  pub now : ℕ
  pub reply : Reply

-- the next record of the text adds an entry, and is accepted
pub record Adds
    (added : AddedRecord) (r : RecordReader) (p : PortState) (after : RecordReader)
    (new : PortState) : Type 0 where
  pub next : next_record r ≡ Ok (Some (record { change = added.change; after = after }))
  pub add : is_add added.change ≡ true
  pub read : read_change added.change ≡ Ok added.op
  pub replies : WriteReplies p added.op added.now added.reply new
  pub accepted : added.reply.code ≡ SUCCESS

-- some records, one after the other
abbrev pub Fills : RecordReader → PortState → List AddedRecord → RecordReader → PortState → Type 0
Fills r p [] after new = (after ≡ r) × (new ≡ p)
Fills r p (added ∷ more) after new =
    (reader : RecordReader) × (between : PortState) × Adds added r p reader between
    × Fills reader between more after new

-- ---- why the next record is refused

abbrev pub line_of : LdifFault → ℕ
line_of (ldif.BadLine line) = line
line_of (ldif.BadBase64 line) = line
line_of (ldif.BadChange line) = line
line_of ldif.NoMemory = 0

abbrev pub cause_of : LdifFault → LineCause
cause_of (ldif.BadLine line) = cause.BadLine
cause_of (ldif.BadBase64 line) = cause.BadBase64
cause_of (ldif.BadChange line) = cause.BadChange
cause_of ldif.NoMemory = cause.BadChange

-- the record's text is refused
pub record IsNoRecord (r : RecordReader) (line : ℕ) (why : LineCause) : Type 0 where
  pub fault : LdifFault
  pub refused : next_record r ≡ Err fault
  pub line_is : line ≡ line_of fault
  pub cause_is : why ≡ cause_of fault

-- the record is no add
pub record IsNoAdd (r : RecordReader) (line : ℕ) (why : LineCause) : Type 0 where
  pub change : Change
  pub after : RecordReader
  pub next : next_record r ≡ Ok (Some (record { change = change; after = after }))
  pub other : is_add change ≡ false
  pub line_is : line ≡ after.line
  pub cause_is : why ≡ cause.BadChange

-- the code that rejects an add: that of its reading, or that of a reply, which is neither success
-- nor, where memory ran out, other
abbrev pub IsRejectedWith : Result Op ℕ → PortState → ℕ → Type 0
IsRejectedWith (Err fault) p code = code ≡ fault
IsRejectedWith (Ok op) p code =
    (now : ℕ) × (reply : Reply) × (new : PortState) × WriteReplies p op now reply new
    × (reply.code ≡ code) × (code ≢ SUCCESS) × (code ≢ OTHER)

-- the add is rejected
pub record IsRejected (r : RecordReader) (p : PortState) (line : ℕ) (why : LineCause) : Type 0 where
  pub change : Change
  pub after : RecordReader
  pub next : next_record r ≡ Ok (Some (record { change = change; after = after }))
  pub add : is_add change ≡ true
  pub code : ℕ
  pub rejects : IsRejectedWith (read_change change) p code
  pub line_is : line ≡ after.line
  pub cause_is : why ≡ cause.Refused code

abbrev pub IsRefusedAt : RecordReader → PortState → (line : ℕ) → LineCause → Type 0
IsRefusedAt r p line why =
    IsNoRecord r line why ⊎ IsNoAdd r line why ⊎ IsRejected r p line why

-- no record is left, or the next one is refused
abbrev pub EndsFilling : RecordReader → PortState → Filling → Type 0
EndsFilling r p Filled = next_record r ≡ Ok None
EndsFilling r p (Refused line why) = IsRefusedAt r p line why

-- all records were added, or the first that is refused was met
pub record FillsUp
    (r : RecordReader) (p : PortState) (filling : Filling) (new : PortState) : Type 0 where
  pub added : List AddedRecord
  pub after : RecordReader
  pub fills : Fills r p added after new
  pub ends : EndsFilling after new filling

-- some records were added, and no more was done
pub record FillsPart (r : RecordReader) (p new : PortState) : Type 0 where
  pub added : List AddedRecord
  pub after : RecordReader
  pub fills : Fills r p added after new

-- ---- one record

-- an entry of this record was added, or its code rejects it and nothing was done
abbrev pub AddsOn : Change → (line : ℕ) → PortState → code.RecordOutcome → PortState → Type 0
AddsOn change line p Added new =
    (op : Op) × (now : ℕ) × (reply : Reply) × (read_change change ≡ Ok op)
    × WriteReplies p op now reply new × (reply.code ≡ SUCCESS)
AddsOn change line p (Over filling) new =
    (new ≡ p) × (why : ℕ) × IsRejectedWith (read_change change) p why
    × (filling ≡ Refused line (cause.Refused why))

-- the next record was added, which leaves fewer lines, or none is left, or it is refused and
-- nothing was done
abbrev pub StepsOn : RecordReader → PortState → code.RecordOutcome → RecordReader → PortState
    → Type 0
StepsOn r p Added after new =
    (added : AddedRecord) × Adds added r p after new × (length after.lines < length r.lines)
StepsOn r p (Over filling) after new = (new ≡ p) × EndsFilling r p filling
