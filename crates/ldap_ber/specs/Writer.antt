-- What a writer has written.
use Rattle.std.specs.Prelude.{ℕ, ◌<◌, ◌^◌, List, [], ◌∷◌, ◌++◌, length}
use Rattle.ldap_ber.specs.Canonical.{element}

-- an element that is not ended: its tag, and what was written before it
pub record Opened : Type 0 where
  pub tag : ℕ
  pub before : List ℕ

-- the elements that are not ended, the innermost first, and the bytes in the innermost one
pub record Written : Type 0 where
  pub opened : List Opened
  pub bytes : List ℕ

-- what is written after these bytes were put at its end
abbrev pub after_bytes : Written → List ℕ → Written
after_bytes w bytes = record { opened = w.opened; bytes = w.bytes ++ bytes }

abbrev pub after_begin : Written → ℕ → Written
after_begin w tag =
    record { opened = record { tag = tag; before = w.bytes } ∷ w.opened; bytes = [] }

-- the innermost element is ended with this body
abbrev pub end_with : List Opened → List ℕ → Written
end_with [] body = record { opened = []; bytes = body }
end_with (innermost ∷ others) body =
    record { opened = others; bytes = innermost.before ++ element innermost.tag body }

abbrev pub after_end : Written → Written
after_end w = end_with w.opened w.bytes

-- the innermost element is not there, and what was written in it neither
abbrev pub without : List Opened → List ℕ → Written
without [] body = record { opened = []; bytes = body }
without (innermost ∷ others) body = record { opened = others; bytes = innermost.before }

abbrev pub before_begin : Written → Written
before_begin w = without w.opened w.bytes

-- the element is small enough for four length octets
abbrev pub IsSmall : List ℕ → Type 0
IsSmall spelling = length spelling < 2 ^ 32

abbrev pub IsSmallWith : List Opened → List ℕ → Type 0
IsSmallWith [] body = Unit {0}
IsSmallWith (innermost ∷ others) body = IsSmall (element innermost.tag body)

-- the innermost element is small
abbrev pub EndsSmall : Written → Type 0
EndsSmall w = IsSmallWith w.opened w.bytes
