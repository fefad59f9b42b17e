-- A line as a name and a value (RFC 2849, attrval-spec and value-spec).
use Rattle.std.specs.Prelude.{ℕ, Bool, ◌==◌, Option, Some, None, Result, Ok, Err, List, [], ◌∷◌, if◌then◌else◌}
use Rattle.std.specs.Str.{bytes_eq, str_eq_ignore_ascii_case}
use Rattle.std.specs.Borrow.{Bor}
use Rattle.base64.specs.Engines.{standard}
use Rattle.base64.specs.GeneralPurpose.{decode_of}
use Rattle.base64.specs.declared.decode.DecodeError.{DecodeError}
use Rattle.ldif_text.specs.declared.fault.LdifFault.{LdifFault}
use Rattle.ldif_text.specs.declared.fault.LdifFault.TheVariants.{BadLine, BadBase64, BadChange}
use Rattle.ldif_text.specs.declared.field.Field.{Field}
use Rattle.ldif_text.specs.declared.lines.Line.{Line}
use Rattle.ldif_text.specs.Fault.{◌>>=◌}
use Rattle.ldif_text.specs.Lines.{is_continuation}

-- the bytes of a slice that may be there
abbrev pub shown : Option (Bor (List ℕ)) → Option (List ℕ)
shown None = None
shown (Some slice) = Some slice.now

-- the two sides of the first mark: all bytes and nothing where there is none
abbrev pub cut : ℕ → List ℕ → List ℕ × Option (List ℕ)
cut mark [] = ([], None)
cut mark (b ∷ bytes) =
    if b == mark then ([], Some bytes) else (b ∷ (cut mark bytes).0, (cut mark bytes).1)

-- the bytes without the spaces at their beginning
abbrev pub unspaced : List ℕ → List ℕ
unspaced [] = []
unspaced (b ∷ bytes) = if b == 32 then unspaced bytes else b ∷ bytes

abbrev pub or_bad_base64 : ℕ → Result (List ℕ) DecodeError → Result (List ℕ) LdifFault
or_bad_base64 number (Ok value) = Ok value
or_bad_base64 number (Err error) = Err (BadBase64 number)

-- the value in base64: the padded standard form and no other (RFC 4648, section 4)
unfoldable pub base64_value : ℕ → List ℕ → Result (List ℕ) LdifFault
base64_value number text = or_bad_base64 number (decode_of standard text)

-- the value that stands after a colon: `: VALUE`, `:: BASE64`, or `:< URL`, which is refused
abbrev pub value_after : ℕ → List ℕ → Result (List ℕ) LdifFault
value_after number [] = Ok []
value_after number (b ∷ bytes) =
    if b == 58 then base64_value number (unspaced bytes)
    else (if b == 60 then Err (BadLine number) else Ok (unspaced (b ∷ bytes)))

abbrev pub field_after : ℕ → List ℕ → Option (List ℕ) → Result Field LdifFault
field_after number name None = Err (BadLine number)
field_after number name (Some bytes) = do
  value ← value_after number bytes
  Ok (record { name = name; value = value })

-- the name before the first colon, and the value after it; a line that
-- continues nothing has neither
unfoldable pub field_of : Line → Result Field LdifFault
field_of line =
    if is_continuation line.text then Err (BadLine line.first)
    else field_after line.first (cut 58 line.text).0 (cut 58 line.text).1

abbrev pub value_if : Bool → ℕ → List ℕ → Result (List ℕ) LdifFault
value_if named number value = if named then Ok value else Err (BadChange number)

-- the value of a line of this very name
unfoldable pub keyword : List ℕ → Line → Result (List ℕ) LdifFault
keyword name line = do
  field ← field_of line
  value_if (bytes_eq field.name name) line.first field.value

-- the value of a line of this type, whose name is without regard to ASCII case
-- (RFC 4512, section 2.5)
unfoldable pub value_of_type : List ℕ → Line → Result (List ℕ) LdifFault
value_of_type name line = do
  field ← field_of line
  value_if (str_eq_ignore_ascii_case field.name name) line.first field.value
