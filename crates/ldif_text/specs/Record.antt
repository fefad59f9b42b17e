-- Records, as lists of their lines (RFC 2849, ldif-attrval-record and ldif-change-record).
use Rattle.std.specs.Prelude.{◌≡◌, ℕ, Bool, true, false, Option, Some, None, Result, Ok, Err, List, [], ◌∷◌, ◌++◌, if◌then◌else◌, codes}
use Rattle.std.specs.Str.{bytes_eq, str_eq_ignore_ascii_case}
use Rattle.schema_rules.specs.declared.raw.RawAttribute.{RawAttribute}
use Rattle.schema_rules.specs.declared.raw.RawEdit.{RawEdit}
use Rattle.schema_rules.specs.declared.raw.How.{How}
use Rattle.schema_rules.specs.declared.raw.How.TheVariants as how
use Rattle.schema_rules.specs.declared.raw.Change.{Change}
use Rattle.schema_rules.specs.declared.raw.Change.TheVariants.{Add, Delete, Modify, Rename}
use Rattle.ldif_text.specs.declared.fault.LdifFault.{LdifFault}
use Rattle.ldif_text.specs.declared.fault.LdifFault.TheVariants.{BadChange}
use Rattle.ldif_text.specs.declared.lines.Line.{Line}
use Rattle.ldif_text.specs.Fault.{◌>>=◌, Refuses}
use Rattle.ldif_text.specs.Field.{field_of, keyword, value_of_type}

-- `last` is the number of a record's last line, where something is missing.

-- no line may come any more
abbrev pub nothing_more : List Line → Result (Unit {0}) LdifFault
nothing_more [] = Ok tt
nothing_more (line ∷ lines) = do
  field ← field_of line
  Err (BadChange line.first)

-- ---- an entry to be added

-- types are named without regard to ASCII case (RFC 4512, section 2.5)
abbrev pub is_of_type : List ℕ → RawAttribute → Bool
is_of_type name a = str_eq_ignore_ascii_case a.name name

-- one more value, after the others of its type; a type without values yet comes
-- after the other types
abbrev pub with_value : List RawAttribute → List ℕ → List ℕ → List RawAttribute
with_value [] name value = record { name = name; values = value ∷ [] } ∷ []
with_value (a ∷ attrs) name value =
    if is_of_type name a then record { name = a.name; values = a.values ++ value ∷ [] } ∷ attrs
    else a ∷ with_value attrs name value

-- the attributes, with those of the lines
abbrev pub attributes_of : List RawAttribute → List Line → Result (List RawAttribute) LdifFault
attributes_of attrs [] = Ok attrs
attributes_of attrs (line ∷ lines) = do
  field ← field_of line
  attributes_of (with_value attrs field.name field.value) lines

abbrev pub add_of : ℕ → List ℕ → List Line → Result Change LdifFault
add_of last name [] = Err (BadChange last)
add_of last name (line ∷ lines) = do
  attrs ← attributes_of [] (line ∷ lines)
  Ok (Add name attrs)

abbrev pub delete_of : List ℕ → List Line → Result Change LdifFault
delete_of name lines = do
  end ← nothing_more lines
  Ok (Delete name)

-- ---- edits

-- an edit without a value yet
abbrev pub edit : How → List ℕ → RawEdit
edit how name = record { how = how; attribute = record { name = name; values = [] } }

-- `add: T`, `delete: T` or `replace: T`
unfoldable pub edit_of : Line → Result RawEdit LdifFault
edit_of line = do
  field ← field_of line
  if bytes_eq field.name (codes "add") then Ok (edit how.Add field.value)
      else if bytes_eq field.name (codes "delete") then Ok (edit how.Delete field.value)
      else if bytes_eq field.name (codes "replace") then Ok (edit how.Replace field.value)
      else Err (BadChange line.first)

-- the edit with one value more
abbrev pub with_edit_value : RawEdit → List ℕ → RawEdit
with_edit_value e value =
    record {
      how = e.how;
      attribute = record { name = e.attribute.name; values = e.attribute.values ++ value ∷ [] };
    }

unfoldable pub edit_value : RawEdit → Line → Result RawEdit LdifFault
edit_value e line = do
  value ← value_of_type e.attribute.name line
  Ok (with_edit_value e value)

-- the edits after those, where the last one is open to further values; a line `-` closes
-- it, and the end does
abbrev pub edits_of : List RawEdit → Option RawEdit → List Line → Result (List RawEdit) LdifFault
edits_of done None [] = Ok done
edits_of done (Some e) [] = Ok (done ++ e ∷ [])
edits_of done None (line ∷ lines) = do
  begun ← edit_of line
  edits_of done (Some begun) lines
edits_of done (Some e) (line ∷ lines) =
    if bytes_eq line.text (codes "-") then edits_of (done ++ e ∷ []) None lines
    else (edit_value e line >>= λ longer. edits_of done (Some longer) lines)

-- what a function that reads one line into the edits did: with any further lines
-- the edits are the same
abbrev pub Edits :
    Result (Option RawEdit) LdifFault → List RawEdit → List RawEdit → Option RawEdit → Line → Type 0
Edits (Ok next) done now current line =
    (lines : List Line) → edits_of done current (line ∷ lines) ≡ edits_of now next lines
Edits (Err fault) done now current line =
    (lines : List Line) → Refuses fault (edits_of done current (line ∷ lines))

abbrev pub modify_of : List ℕ → List Line → Result Change LdifFault
modify_of name lines = do
  edits ← edits_of [] None lines
  Ok (Modify name edits)

-- ---- a new name

-- `deleteoldrdn: 0` or `deleteoldrdn: 1`
unfoldable pub flag_of : Line → Result Bool LdifFault
flag_of line = do
  value ← keyword (codes "deleteoldrdn") line
  if bytes_eq value (codes "0") then Ok false
      else if bytes_eq value (codes "1") then Ok true
      else Err (BadChange line.first)

-- `newsuperior:` may come, and nothing after it
abbrev pub superior_of : List Line → Result (Option (List ℕ)) LdifFault
superior_of [] = Ok None
superior_of (line ∷ lines) = do
  superior ← keyword (codes "newsuperior") line
  end ← nothing_more lines
  Ok (Some superior)

abbrev pub renamed : ℕ → List ℕ → List ℕ → List Line → Result Change LdifFault
renamed last name rdn [] = Err (BadChange last)
renamed last name rdn (line ∷ lines) = do
  drops ← flag_of line
  superior ← superior_of lines
  Ok (Rename name rdn drops superior)

abbrev pub rename_of : ℕ → List ℕ → List Line → Result Change LdifFault
rename_of last name [] = Err (BadChange last)
rename_of last name (line ∷ lines) = do
  rdn ← keyword (codes "newrdn") line
  renamed last name rdn lines

-- ---- records

-- the record of a kind of change; another kind is refused at the line that names it
abbrev pub change_of_kind : ℕ → ℕ → List ℕ → List ℕ → List Line → Result Change LdifFault
change_of_kind last number name kind lines =
    if bytes_eq kind (codes "add") then add_of last name lines
    else if bytes_eq kind (codes "delete") then delete_of name lines
    else if bytes_eq kind (codes "modify") then modify_of name lines
    else if bytes_eq kind (codes "modrdn") then rename_of last name lines
    else if bytes_eq kind (codes "moddn") then rename_of last name lines
    else Err (BadChange number)

-- the lines after the name; without `changetype:` they are an entry to be added
abbrev pub body_of : ℕ → List ℕ → List Line → Result Change LdifFault
body_of last name [] = Err (BadChange last)
body_of last name (line ∷ lines) = do
  field ← field_of line
  if bytes_eq field.name (codes "changetype")
      then change_of_kind last line.first name field.value lines
      else add_of last name (line ∷ lines)

-- `dn:` and the lines after it
abbrev pub change_of : ℕ → List Line → Result Change LdifFault
change_of last [] = Err (BadChange last)
change_of last (line ∷ lines) = do
  name ← keyword (codes "dn") line
  body_of last name lines
