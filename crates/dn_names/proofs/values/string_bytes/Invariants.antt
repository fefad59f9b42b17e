use Rattle.std.proofs.Common.{◌≡◌, ◌++◌, drop, option_map}
use Rattle.dn_names.specs.Reading as spec
use Rattle.dn_names.proofs.values.string_bytes.Given as goal

-- the bytes so far, and those of the rest
abbrev pub invariant-loop-name_char : goal.invariant-loop-name_char
invariant-loop-name_char l =
    spec.each_some spec.string_byte l.chars
    ≡ option_map (λ bytes. l.bytes.items ++ bytes) (spec.each_some spec.string_byte (drop l.name_char-index l.chars))
