-- A piece has a key exactly where it is UTF-8.
use Rattle.std.proofs.Common.{◌≡◌, ℕ, Bool, true, false, List, length, Some, None, IsUtf8, chars, encode_utf8_all, refl}
use Rattle.std.proofs.lemmas.List.{nil_from_length}
use Rattle.std.proofs.lemmas.Str.{is_utf8-from_IsUtf8, IsUtf8-from_is_utf8}
use Rattle.std.specs.Str.{is_utf8}
use Rattle.text_keys.specs.Text.{prepared, squeezed, piece_key, whole_key}

-- the key of a piece in UTF-8 is the text that is prepared and squeezed of it
pub piece_key-text : (piece : List ℕ) (fold first last : Bool) → IsUtf8 piece
    → piece_key piece fold first last ≡ Some (encode_utf8_all (squeezed first last (prepared fold (chars piece))))
unfolding piece_key
piece_key-text piece fold first last utf8 = rw (is_utf8-from_IsUtf8 piece utf8)

by_test : (piece : List ℕ) (fold first last is_text : Bool) → is_utf8 piece ≡ is_text → (IsUtf8 piece → ⊥)
    → piece_key piece fold first last ≡ None
unfolding piece_key
by_test piece fold first last true test not_utf8 = absurd (not_utf8 (IsUtf8-from_is_utf8 piece test))
by_test piece fold first last false test not_utf8 = rw test

-- a piece that is not UTF-8 has none
pub piece_key_none : (piece : List ℕ) (fold first last : Bool) → (IsUtf8 piece → ⊥) → piece_key piece fold first last ≡ None
piece_key_none piece fold first last not_utf8 = by_test piece fold first last (is_utf8 piece) refl not_utf8

text_by_test : (piece : List ℕ) (fold first last is_text : Bool) (key : List ℕ) → is_utf8 piece ≡ is_text
    → piece_key piece fold first last ≡ Some key → IsUtf8 piece
unfolding piece_key
text_by_test piece fold first last true key test has_key = IsUtf8-from_is_utf8 piece test
text_by_test piece fold first last false key test has_key = let none : None ≡ Some key = rw test at has_key in cc

-- a piece that has a key is UTF-8
pub IsUtf8-from_piece_key : (piece : List ℕ) (fold first last : Bool) (key : List ℕ) → piece_key piece fold first last ≡ Some key → IsUtf8 piece
IsUtf8-from_piece_key piece fold first last key has_key = text_by_test piece fold first last (is_utf8 piece) key refl has_key

-- a value of which nothing is left has no key, although it is UTF-8
pub whole_key_empty : (value : List ℕ) (fold : Bool) (key : List ℕ) → piece_key value fold true true ≡ Some key → length key ≡ 0
    → IsUtf8 value × (whole_key fold value ≡ None)
whole_key_empty value fold key has_key empty = (IsUtf8-from_piece_key value fold true true key has_key, rw (has_key, nil_from_length key empty))
