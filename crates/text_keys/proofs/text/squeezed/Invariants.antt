use Rattle.std.proofs.Common.{◌≡◌, ◌&&◌, false, ◌++◌, IsUtf8, chars, string_bytes, encode_utf8_all}
use Rattle.std.specs.Str.Iter.{chars_rest}
use Rattle.text_keys.specs.Text.{squeezed, spaced}
use Rattle.text_keys.proofs.text.squeezed.Given as goal

-- what is written, and then what is squeezed of the rest, is what is squeezed of the whole text
abbrev pub invariant-loop-c : goal.invariant-loop-c
invariant-loop-c l =
    IsUtf8 (chars_rest l.c-iterator) × (l.at_start && l.after_space ≡ false)
    × (string_bytes l.key ++ encode_utf8_all (squeezed l.at_start l.last (spaced l.after_space (chars (chars_rest l.c-iterator))))
    ≡ encode_utf8_all (squeezed l.fn.first l.last (chars l.fn.text)))
