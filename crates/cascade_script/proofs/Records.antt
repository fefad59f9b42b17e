-- What stands after the record of a write.
use Rattle.std.proofs.Common.{◌≡◌, ℕ, ◌+◌, ◌<◌, ◌≤◌, true, Option, None, List, [], ◌∷◌, length, drop, refl, sym, inl, inr, arith}
use Rattle.std.proofs.lemmas.Bool.{cases_Bool}
use Rattle.std.proofs.lemmas.List.{length-drop}
use Rattle.std.specs.List.{list_all}
use Rattle.std.specs.Str.{is_utf8}
use Rattle.std.specs.Str.Lines.{lines}
use Rattle.cascade_script.specs.Reader.{IsRefusalOf, after_body, limit_before, record_before, read_record}
use Rattle.cascade_script.specs.declared.fault.Cause.{Cause}
use Rattle.cascade_script.specs.Words.{is_empty}
use Rattle.cascade_script.proofs.LineCuts.{some_lines}

-- there are no more lines after it than before it
pub after_body-short : (lines : List (List ℕ)) → length (after_body lines) ≤ length lines
after_body-short [] = omega arith
after_body-short (line ∷ lines) =
    elim (cases_Bool (is_empty line)) [
      | inl empty ↦ rw empty (omega arith)
      | inr filled ↦ let less = after_body-short lines in rw filled (omega arith)
    ]

before_some : (limit : Option ℕ) (rest : List (List ℕ)) → 0 < length rest → None ≡ limit_before limit rest
before_some limit [] l = absurd (omega arith)
before_some limit (line ∷ rest) l = refl

-- where a byte is left no limit was met
pub limit_before-more : (bytes : List ℕ) (at : ℕ) (limit : Option ℕ) → at < length bytes → None ≡ limit_before limit (lines (drop at bytes))
limit_before-more bytes at limit l = before_some limit (lines (drop at bytes)) (some_lines (drop at bytes) (omega (arith, length-drop at bytes)))

-- the refusal of a whole record, read from the bytes of its lines
pub whole-refused : (limit : Option ℕ) (command : ℕ) (name : List ℕ) (read body left after : List (List ℕ)) (number line : ℕ) (cause : Cause)
    → left ≡ after → read ≡ body → number ≡ command + length body → list_all is_utf8 read ≡ true → None ≡ limit_before limit left
    → IsRefusalOf (read_record command name read (record { lines = left; read = number; limit = limit })) line cause
    → IsRefusalOf (record_before limit command name body after) line cause
whole-refused limit command name read body left after number line cause l b n text none refused =
    let none_passed : limit_before limit after ≡ None = rw (← l) (sym none) in
    let all_text : list_all is_utf8 body ≡ true = rw (← b) text in
    let same : record_before limit command name body after ≡ read_record command name body (record { lines = after; read = command + length body; limit = limit }) =
    rw (all_text, none_passed) refl in
    rw same (rw (l, b, n) at refused)
