-- Cookies of a content synchronization (RFC 4533, section 3).
use Rattle.std.specs.Prelude.{◌≡◌, ℕ, ◌<◌, ◌^◌, ◌⊎◌, Bool, ◌||◌, ◌==◌, length, is_some, List, [], ◌++◌, Option, Some, codes}
use Rattle.csn_cookie.specs.Digits.{◌>>=◌, field, number_at, lower_number_at, after, whole}
use Rattle.csn_cookie.specs.Csn.{IsCsn, IsSpelling, csn_text, csn_at}
use Rattle.csn_cookie.specs.declared.cookie.Cookie.{Cookie}

-- `rid=DDD` with decimal digits
abbrev pub rid_text : ℕ → List ℕ
rid_text rid = codes "rid=" ++ field 10 3 rid

-- `rid=DDD,sid=HHH`, the second with hexadecimal digits
abbrev pub ids_text : ℕ → ℕ → List ℕ
ids_text rid sid = rid_text rid ++ codes ",sid=" ++ field 16 3 sid

-- `rid=DDD,sid=HHH,csn=CSN,gen=` and 32 hexadecimal digits, where this is the text of the CSN
abbrev pub text_round : Cookie → List ℕ → List ℕ
text_round cookie csn =
    ids_text cookie.rid cookie.sid ++ codes ",csn=" ++ csn ++ codes ",gen="
    ++ field 16 32 cookie.history

-- the same, where the CSN has its letters in lower case too
unfoldable pub cookie_text : Cookie → List ℕ
cookie_text cookie = text_round cookie (csn_text cookie.csn)

-- the parts have three, three and 32 digits
pub record IsCookie (cookie : Cookie) : Type 0 where
  pub rid : cookie.rid < 1000
  pub sid : cookie.sid < 2 ^ 12
  pub csn : IsCsn cookie.csn
  pub history : cookie.history < 2 ^ 128

-- the text is that of the cookie, with hexadecimal digits in either case in its CSN alone
pub record IsCookieSpelling (cookie : Cookie) (text : List ℕ) : Type 0 where
  pub csn : List ℕ
  pub spells : IsSpelling cookie.csn csn
  pub round : text ≡ text_round cookie csn

-- the number after `rid=`, and the text after it
abbrev pub rid_at : List ℕ → Option (ℕ × List ℕ)
rid_at text = do
  digits ← after (codes "rid=") text
  number_at 10 3 digits

-- the numbers after `rid=` and `,sid=`, and the text after them
abbrev pub ids_at : List ℕ → Option ((ℕ × ℕ) × List ℕ)
ids_at text = do
  rid ← rid_at text
  digits ← after (codes ",sid=") rid.1
  sid ← lower_number_at 16 3 digits
  Some ((rid.0, sid.0), sid.1)

-- the cookie that the whole text spells
unfoldable pub cookie_of_text : List ℕ → Option Cookie
cookie_of_text text = do
  ids ← ids_at text
  spelled ← after (codes ",csn=") ids.1
  csn ← csn_at spelled
  digits ← after (codes ",gen=") csn.1
  history ← lower_number_at 16 32 digits
  whole (record { rid = ids.0.0; sid = ids.0.1; csn = csn.0; history = history.0 }, history.1)

-- the text counts as no cookie: it is empty, or ends after its rid or its sid
abbrev pub IsBlank : List ℕ → Type 0
IsBlank text =
    (text ≡ [])
    ⊎ ((rid : ℕ) × (rid < 1000) × (text ≡ rid_text rid))
    ⊎ ((rid : ℕ) × (sid : ℕ) × (rid < 1000) × (sid < 2 ^ 12) × (text ≡ ids_text rid sid))

-- whether it does, by reading it
unfoldable pub is_blank : List ℕ → Bool
is_blank text =
    (length text == 0) || is_some (rid_at text >>= whole) || is_some (ids_at text >>= whole)
