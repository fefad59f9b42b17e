use Rattle.std.proofs.Common.{◌≡◌, ◌&&◌, false, ◌++◌, map, drop, encode_utf8_all}
use Rattle.text_keys.specs.Text.{lowered, squeezed, spaced}
use Rattle.text_keys.proofs.text.ascii_key.Given as goal

-- what is written, and then what is squeezed of the rest, is what is squeezed of the whole piece
abbrev pub invariant-loop-byte : goal.invariant-loop-byte
invariant-loop-byte l =
    (l.at_start && l.after_space ≡ false)
    × (l.key.items ++ encode_utf8_all (squeezed l.at_start l.last (spaced l.after_space (map (lowered l.fold) (drop l.byte-index l.piece))))
    ≡ encode_utf8_all (squeezed l.fn.first l.last (map (lowered l.fold) l.piece)))
