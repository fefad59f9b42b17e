-- Reading what was written.
use Rattle.std.specs.Prelude.{◌≡◌, ℕ, Bool, Some, None, Ok, List, [], map}
use Rattle.schema_rules.specs.declared.attributes.Attribute.{Attribute}
use Rattle.schema_rules.specs.declared.raw.Change.TheVariants.{Add}
use Rattle.ldif_text.specs.Lines.{text_lines, from_content}
use Rattle.ldif_text.specs.Reader.{RecordReader, next_record}
use Rattle.schema_rules.specs.Attributes.{raw_of}
use Rattle.ldif_text.specs.Written.{entry_text}

-- a reader at the text of the entry, whose lines have any numbers, finds the add of this entry, and
-- no content after it
abbrev pub IsReadAgain : List ℕ → List Attribute → Type 0
IsReadAgain name attrs =
    (number line : ℕ) (begun : Bool) → (after : RecordReader)
    × (next_record (record {
      lines = text_lines number (entry_text name attrs None);
      line = line;
      begun = begun;
    })
    ≡ Ok (Some (record { change = Add name (map raw_of attrs); after = after })))
    × (from_content after.lines ≡ [])
