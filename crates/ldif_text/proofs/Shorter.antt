-- A record takes a line at least.
use Rattle.std.proofs.Common.{◌≡◌, ◌<◌, ◌≤◌, ℕ, Bool, true, false, Some, Result, Ok, Err, List, [], ◌∷◌, length, refl, ap, sym, inl, inr, arith}
use Rattle.std.proofs.lemmas.Bool.{cases_Bool, or_parts}
use Rattle.ldif_text.specs.declared.fault.LdifFault.{LdifFault}
use Rattle.ldif_text.specs.declared.lines.Line.{Line}
use Rattle.ldif_text.specs.Fault.{◌>>=◌}
use Rattle.ldif_text.specs.Lines.{is_empty, is_comment, is_blank, from_content, record_lines, after_record, last_number}
use Rattle.ldif_text.specs.Record.{change_of}
use Rattle.ldif_text.specs.Reader.{Found, is_version, record_at, first_record, record_from}
use Rattle.ldap_ber.proofs.Steps.{ok_is}

-- what was read before what was read after it
bind_ok : {A B : Type 0} (r : Result A LdifFault) (read : A → Result B LdifFault) (b : B) → (r >>= read) ≡ Ok b → (a : A) × (r ≡ Ok a) × (read a ≡ Ok b)
bind_ok (Ok a) read b e = (a, refl, e)
bind_ok (Err fault) read b e = cc

-- the first line of content is not empty
content_head : (all : List Line) (line : Line) (lines : List Line) → from_content all ≡ line ∷ lines → (is_empty line.text ≡ false) × (length (line ∷ lines) ≤ length all)
content_head [] line lines e = cc
content_head (l ∷ all) line lines e =
    elim (cases_Bool (is_blank l)) [
      | inl hit ↦
          let e' : from_content all ≡ line ∷ lines = rw hit at e in
          let rest = content_head all line lines e' in
          (rest.0, omega (arith, rest.1))
      | inr miss ↦
          let e' : l ∷ all ≡ line ∷ lines = rw miss at e in
          let same : l ≡ line = cc in
          let filled : is_empty l.text ≡ false = (or_parts _ (is_comment l.text) miss).0 in
          (rw same at filled, omega (arith, ap (length {A = Line}) e'))
    ]

content_shorter : (all : List Line) → length (from_content all) ≤ length all
content_shorter [] = omega arith
content_shorter (l ∷ all) =
    elim (cases_Bool (is_blank l)) [
      | inl hit ↦ rw hit (omega (arith, content_shorter all))
      | inr miss ↦ rw miss (omega arith)
    ]

after_shorter : (all : List Line) → length (after_record all) ≤ length all
after_shorter [] = omega arith
after_shorter (l ∷ all) =
    elim (cases_Bool (is_empty l.text)) [
      | inl hit ↦ rw hit (omega arith)
      | inr miss ↦ rw miss (omega (arith, after_shorter all))
    ]

-- where the reading of a record ends
record_end : (number : ℕ) (lines : List Line) (found : Found) → record_at number lines ≡ Ok found → found.after.lines ≡ after_record lines
record_end number lines found e =
    let read = bind_ok (change_of (last_number number (record_lines lines)) (record_lines lines)) _ found e in
    ap (λ (f : Found). f.after.lines) (sym (ok_is _ found read.2))

begun_shorter : (number : ℕ) (line : Line) (lines : List Line) (found : Found) → is_empty line.text ≡ false → record_at number (line ∷ lines) ≡ Ok found → length found.after.lines ≤ length lines
begun_shorter number line lines found filled e =
    let end : found.after.lines ≡ after_record lines = rw filled at (record_end number (line ∷ lines) found e) in
    rw end (after_shorter lines)

announced_shorter : (number : ℕ) (lines : List Line) (found : Found) → record_at number (from_content lines) ≡ Ok found → length found.after.lines ≤ length lines
announced_shorter number lines found e =
    let end = record_end number (from_content lines) found e in
    rw end (omega (arith, after_shorter (from_content lines), content_shorter lines))

first_shorter : (line : Line) (lines : List Line) (found : Found) → is_empty line.text ≡ false → first_record line lines ≡ Ok found → length found.after.lines ≤ length lines
first_shorter line lines found filled e =
    let read = bind_ok (is_version line) _ found e in
    let rest = read.2 in
    elim (cases_Bool read.0) [
      | inl hit ↦ let e' : record_at line.last (from_content lines) ≡ Ok found = rw hit at rest in announced_shorter line.last lines found e'
      | inr miss ↦ let e' : record_at line.last (line ∷ lines) ≡ Ok found = rw miss at rest in begun_shorter line.last line lines found filled e'
    ]

from_shorter : (begun : Bool) (line : Line) (lines : List Line) (found : Found) → is_empty line.text ≡ false → record_from begun (line ∷ lines) ≡ Ok (Some found) → length found.after.lines ≤ length lines
from_shorter true line lines found filled e =
    let read = bind_ok (record_at line.last (line ∷ lines)) _ (Some found) e in
    let rest = read.2 in
    let same : read.0 ≡ found = cc in
    begun_shorter line.last line lines found filled (rw same at read.1)
from_shorter false line lines found filled e =
    let read = bind_ok (first_record line lines) _ (Some found) e in
    let rest = read.2 in
    let same : read.0 ≡ found = cc in
    first_shorter line lines found filled (rw same at read.1)

content_of : (begun : Bool) (all here : List Line) (found : Found) → from_content all ≡ here → record_from begun here ≡ Ok (Some found) → length found.after.lines < length all
content_of begun all [] found h e = cc
content_of begun all (line ∷ lines) found h e =
    let head = content_head all line lines h in
    omega (arith, head.1, from_shorter begun line lines found head.0 e)

-- after a record there are fewer lines
pub next_shorter : (begun : Bool) (lines : List Line) (found : Found) → record_from begun (from_content lines) ≡ Ok (Some found) → length found.after.lines < length lines
next_shorter begun lines found e = content_of begun lines (from_content lines) found refl e
