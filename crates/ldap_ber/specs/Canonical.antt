-- The canonical spelling (RFC 4511, section 5.1): shortest lengths, shortest integers, TRUE as FF,
-- no usual values.
use Rattle.std.specs.Prelude.{◌≡◌, ℕ, ◌/◌, ◌%◌, List, [], ◌∷◌, ◌++◌, length, Bool, true, false, ◌&&◌, ◌||◌, not, nat_lt, ◌==◌, if◌then◌else◌, ℤ, Option, Some, None}
use Rattle.std.specs.Int.{w64, to_be_bytes, cast_unsigned}

-- the shortest length of at most four octets after the first (X.690, 10.1)
abbrev pub length_octets : ℕ → List ℕ
length_octets count =
    if nat_lt count 128 then count ∷ [] else
    if nat_lt count 256 then 129 ∷ count ∷ [] else
    if nat_lt count 65536 then 130 ∷ count / 256 ∷ count % 256 ∷ [] else
    if nat_lt count 16777216 then 131 ∷ count / 65536 ∷ count / 256 % 256 ∷ count % 256 ∷ [] else
    132 ∷ count / 16777216 ∷ count / 65536 % 256 ∷ count / 256 % 256 ∷ count % 256 ∷ []

unfoldable pub element : ℕ → List ℕ → List ℕ
element tag body = tag ∷ (length_octets (length body) ++ body)

-- the octet in front says no more than the sign of the next one
abbrev pub is_needless : ℕ → ℕ → Bool
is_needless first second =
    ((first == 0) && nat_lt second 128) || ((first == 255) && not (nat_lt second 128))

-- an integer's octets without the needless ones in front
abbrev pub shortest : List ℕ → List ℕ
shortest [] = []
shortest (octet ∷ []) = octet ∷ []
shortest (first ∷ second ∷ octets) =
    if is_needless first second then shortest (second ∷ octets) else first ∷ second ∷ octets

-- the first nine bits of an integer's octets are not all the same (X.690, 8.3.2)
abbrev pub IsShortest : List ℕ → Type 0
IsShortest [] = ⊥
IsShortest (octet ∷ []) = Unit {0}
IsShortest (first ∷ second ∷ octets) = is_needless first second ≡ false

unfoldable pub integer_octets : ℤ → List ℕ
integer_octets value = shortest (to_be_bytes w64 (cast_unsigned w64 value))

abbrev pub boolean_octets : Bool → List ℕ
boolean_octets true = 255 ∷ []
boolean_octets false = 0 ∷ []

-- an optional component
abbrev pub option_octets : {X : Type 0} → (X → List ℕ) → Option X → List ℕ
option_octets write None = []
option_octets write (Some x) = write x

-- a truth value, which is left out where it is the usual one
abbrev pub flag_octets : ℕ → Bool → Bool → List ℕ
flag_octets tag false false = []
flag_octets tag true true = []
flag_octets tag false true = element tag (255 ∷ [])
flag_octets tag true false = element tag (0 ∷ [])
