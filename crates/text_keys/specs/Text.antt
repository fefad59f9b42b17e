-- Keys of text: the characters of a value without the differences that matching ignores (RFC 4518).
-- A space is U+0020 alone, to which NFKC also brings the other spaces.
use Rattle.std.specs.Prelude.{ℕ, Bool, true, false, not, ◌&&◌, ◌==◌, nat_lt, if◌then◌else◌, List, [], ◌∷◌, Option, Some, None, option_and_then, chars, encode_utf8_all}
use Rattle.std.specs.Char.{to_ascii_lowercase}
use Rattle.std.specs.Str.{is_utf8}
use Rattle.caseless.specs.Caseless.{default_case_fold}
use Rattle.unicode_normalization.specs.Forms.{nfkc}

-- NFKC, and after it full case folding where case is ignored (compare RFC 4518,
-- sections 2.2 and 2.3)
abbrev pub prepared : Bool → List ℕ → List ℕ
prepared fold cs = if fold then default_case_fold (nfkc cs) else nfkc cs

-- the same of an ASCII character
abbrev pub lowered : Bool → ℕ → ℕ
lowered fold c = if fold then to_ascii_lowercase c else c

abbrev pub is_space : ℕ → Bool
is_space c = c == 32

abbrev pub begins_with_space : List ℕ → Bool
begins_with_space [] = false
begins_with_space (c ∷ cs) = is_space c

-- each run of spaces made one
abbrev pub single_spaced : List ℕ → List ℕ
single_spaced [] = []
single_spaced (c ∷ cs) =
    if is_space c && begins_with_space cs then single_spaced cs else c ∷ single_spaced cs

abbrev pub without_leading_spaces : List ℕ → List ℕ
without_leading_spaces [] = []
without_leading_spaces (c ∷ cs) = if is_space c then without_leading_spaces cs else c ∷ cs

abbrev pub is_empty : List ℕ → Bool
is_empty [] = true
is_empty (c ∷ cs) = false

abbrev pub without_trailing_spaces : List ℕ → List ℕ
without_trailing_spaces [] = []
without_trailing_spaces (c ∷ cs) =
    if is_space c && is_empty (without_trailing_spaces cs) then []
    else c ∷ without_trailing_spaces cs

-- each run of spaces made one, without those at the start of what stands first and at the end of
-- what stands last (compare RFC 4518, section 2.6.1)
unfoldable pub squeezed : Bool → Bool → List ℕ → List ℕ
squeezed first last cs =
    let prefix = if first then without_leading_spaces cs else cs in
    let whole = if last then without_trailing_spaces prefix else prefix in
    single_spaced whole

-- a character of ASCII that is neither a space nor a capital letter, so that each key keeps it
abbrev pub is_settled : ℕ → Bool
is_settled c = nat_lt c 128 && (not (is_space c) && to_ascii_lowercase c == c)

-- the characters, with a space before them where one is due
abbrev pub spaced : Bool → List ℕ → List ℕ
spaced space cs = if space then 32 ∷ cs else cs

-- the key of a piece of a value, as UTF-8, and none where the piece is not UTF-8
unfoldable pub piece_key : List ℕ → Bool → Bool → Bool → Option (List ℕ)
piece_key piece fold first last =
    if is_utf8 piece then Some (encode_utf8_all (squeezed first last (prepared fold (chars piece))))
    else None

-- a whole value has a key that is not empty
abbrev pub not_empty : List ℕ → Option (List ℕ)
not_empty key = if is_empty key then None else Some key

-- the key of a whole value, which is its own first and last piece
abbrev pub whole_key : Bool → List ℕ → Option (List ℕ)
whole_key fold value = option_and_then not_empty (piece_key value fold true true)

-- by ignoring case, and by its case
unfoldable pub ignore_case_key : List ℕ → Option (List ℕ)
ignore_case_key value = whole_key true value

unfoldable pub exact_key : List ℕ → Option (List ℕ)
exact_key value = whole_key false value
