-- Elements of the Basic Encoding Rules as LDAP uses them (RFC 4511, section 5.1): a
-- value and its spellings.
use Rattle.std.specs.Prelude.{◌≡◌, ◌≢◌, ℕ, ◌+◌, ◌-◌, ◌*◌, ◌<◌, ◌≤◌, ◌%◌, List, [], ◌∷◌, ◌++◌, length, nat_lt, if◌then◌else◌, replicate, ℤ, ◌⊎◌}
use Rattle.std.specs.Int.{w64, from_be_bytes, cast_signed}

-- a number with these octets after its higher ones, the highest first
abbrev pub number_after : ℕ → List ℕ → ℕ
number_after high [] = high
number_after high (octet ∷ octets) = number_after (high * 256 + octet) octets

-- the octets of a definite length (X.690, 8.1.3): one below 128, or 128 and the count of the octets
-- that follow, which are one to four here
abbrev pub IsLength : List ℕ → ℕ → Type 0
IsLength [] count = ⊥
IsLength (first ∷ octets) count =
    ((first < 128) × (octets ≡ []) × (count ≡ first))
    ⊎ ((128 < first) × (first ≤ 132) × (length octets ≡ first - 128)
    × (count ≡ number_after 0 octets))

-- the bytes begin with a spelling of the element with this tag and body, and the rest
-- follows it (X.690, 8.1.1):
-- the tag in one octet (8.1.2.2), a length, the body
pub record Begins (bytes : List ℕ) (tag : ℕ) (body rest : List ℕ) : Type 0 where
  pub octets : List ℕ
  pub counted : IsLength octets (length body)
  pub low : tag % 32 ≢ 31
  pub parts : bytes ≡ tag ∷ (octets ++ (body ++ rest))

-- what stands in front of fewer than eight octets of an integer: its sign
abbrev pub filler : List ℕ → ℕ
filler [] = 0
filler (first ∷ octets) = if nat_lt first 128 then 0 else 255

-- an integer of at most eight octets in eight of them
abbrev pub extended : List ℕ → List ℕ
extended body = replicate (8 - length body) (filler body) ++ body

-- the integer of a body: two's complement, the highest octet first (X.690, 8.3.3)
abbrev pub integer_of : List ℕ → ℤ
integer_of body = cast_signed w64 (from_be_bytes w64 (extended body))
