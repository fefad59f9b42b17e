-- How long the texts of CSNs and cookies are.
use Rattle.std.proofs.Common.{◌≡◌, ℕ, Option, List, length, length-append, Some, None, ap, ◌∙◌}
use Rattle.csn_cookie.specs.Cookie.{cookie_text}
use Rattle.csn_cookie.specs.Csn.{CsnValue, csn_text}
use Rattle.csn_cookie.specs.Instant.{instant_text}
use Rattle.csn_cookie.specs.declared.cookie.Cookie.{Cookie}
use Rattle.csn_cookie.specs.declared.instant.Instant.{Instant}
use Rattle.csn_cookie.proofs.FieldLemmas.{length-field}

-- ---- CSNs and cookies

instant_size : (m : Instant) → length (instant_text m) ≡ 22
unfolding instant_text
instant_size m = simp (length-append, length-field)

-- the text of a CSN has 40 octets
pub csn_size : (csn : CsnValue) → length (csn_text csn) ≡ 40
unfolding csn_text
csn_size csn = simp (length-append, length-field, instant_size)

-- the text of a cookie has 97 octets
pub cookie_size : (cookie : Cookie) → length (cookie_text cookie) ≡ 97
unfolding cookie_text
cookie_size cookie = simp (length-append, length-field, csn_size)

-- the text of a cookie, or none
abbrev pub IsText : Option (List ℕ) → Type 0
IsText None = Unit {0}
IsText (Some text) = (cookie : Cookie) × (text ≡ cookie_text cookie)

-- a text that is that of a cookie has 97 octets
pub text_size : (text : List ℕ) → IsText (Some text) → length text ≡ 97
text_size text is = ap (λ (x : List ℕ). length x) is.1 ∙ cookie_size is.0

-- no text is one that may stand for a cookie
pub none_text : (cookie : Option (List ℕ)) → cookie ≡ None → IsText cookie
none_text None none = tt
none_text (Some text) none = let never : ⊥ = cc in absurd never
