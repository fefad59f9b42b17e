-- Change sequence numbers.
use Rattle.std.specs.Prelude.{◌≡◌, ℕ, ◌<◌, ◌≤◌, ◌^◌, Bool, List, ◌++◌, Option, Some, map, count_by, codes}
use Rattle.std.specs.declared.cmp.Ordering.{Ordering}
use Rattle.std.specs.Ordering.{nat_cmp, ordering_then, is_lt, is_le}
use Rattle.csn_cookie.specs.Digits.{◌>>=◌, field, number_at, after, whole, lower_digit}
use Rattle.csn_cookie.specs.Instant.{instant_of, instant_text, micros_at}

-- the parts of a CSN: the time in microseconds from the first moment of 1970 on, the count within
-- its microsecond, the number of the directory, and a last part
pub record CsnValue : Type 0 where
  pub micros : ℕ
  pub count : ℕ
  pub sid : ℕ
  pub part : ℕ

-- the last microsecond of the year 9999
abbrev pub greatest_micros : ℕ
greatest_micros = 253_402_300_799_999_999

-- the time is one up to the year 9999, and the others have six, three and six hexadecimal digits
pub record IsCsn (csn : CsnValue) : Type 0 where
  pub micros : csn.micros ≤ greatest_micros
  pub count : csn.count < 2 ^ 24
  pub sid : csn.sid < 2 ^ 12
  pub part : csn.part < 2 ^ 24

-- by the time, then the count, then the directory, then the last part
abbrev pub csn_cmp : CsnValue → CsnValue → Ordering
csn_cmp a b =
    ordering_then (nat_cmp a.micros b.micros)
    (ordering_then (nat_cmp a.count b.count)
    (ordering_then (nat_cmp a.sid b.sid) (nat_cmp a.part b.part)))

-- the first is less than the second
abbrev pub is_before : CsnValue → CsnValue → Bool
is_before a b = is_lt (csn_cmp a b)

-- the first is not greater than the second
abbrev pub is_upto : CsnValue → CsnValue → Bool
is_upto a b = is_le (csn_cmp a b)

-- how many of these CSNs are not greater than this one
abbrev pub upto : List CsnValue → CsnValue → ℕ
upto csns csn = count_by (λ one. is_upto one csn) csns

-- the CSN of a directory without writes
abbrev pub start : ℕ → CsnValue
start sid = record { micros = 0; count = 0; sid = sid; part = 0 }

-- `YYYYmmddHHMMSS.uuuuuuZ#cccccc#sss#mmmmmm`: the time as a generalized time (RFC 4517, section
-- 3.3.13), and the others in hexadecimal digits
unfoldable pub csn_text : CsnValue → List ℕ
csn_text csn =
    instant_text (instant_of csn.micros) ++ codes "#" ++ field 16 6 csn.count ++ codes "#"
    ++ field 16 3 csn.sid
    ++ codes "#" ++ field 16 6 csn.part

-- the text is that of the CSN, with hexadecimal digits in either case
abbrev pub IsSpelling : CsnValue → List ℕ → Type 0
IsSpelling csn text = map lower_digit text ≡ csn_text csn

-- `#` and a number in n hexadecimal digits, and the text after them
abbrev pub part_at : ℕ → List ℕ → Option (ℕ × List ℕ)
part_at width text = do
  digits ← after (codes "#") text
  number_at 16 width digits

-- the CSN at the start of the text, and the text after it
unfoldable pub csn_at : List ℕ → Option (CsnValue × List ℕ)
csn_at text = do
  micros ← micros_at text
  count ← part_at 6 micros.1
  sid ← part_at 3 count.1
  part ← part_at 6 sid.1
  Some (record { micros = micros.0; count = count.0; sid = sid.0; part = part.0 }, part.1)

-- the CSN that the whole text spells
unfoldable pub csn_of_text : List ℕ → Option CsnValue
csn_of_text text = csn_at text >>= whole
