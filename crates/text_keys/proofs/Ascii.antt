-- Pieces in ASCII: what is prepared of them, and what is squeezed of them one byte after the other.
use Rattle.std.proofs.Common.{◌≡◌, ℕ, ◌+◌, ◌<◌, ◌≤◌, Bool, true, false, not, ◌&&◌, List, [], ◌∷◌, ◌++◌, length, map, get_or, drop, All, Some, is_some, IsAscii, IsTrue, encode_utf8, encode_utf8_all, refl, sym, ap, ◌∙◌, arith}
use Rattle.std.specs.Bool.{MatchBool}
use Rattle.std.specs.Option.{option_and_then}
use Rattle.std.specs.Str.{IsNotAscii}
use Rattle.std.proofs.lemmas.Bool.Decides.{nat_tests}
use Rattle.std.proofs.lemmas.List.{drop_more, drop_all}
use Rattle.std.proofs.lemmas.Str.{chars-IsAscii, IsUtf8-from_ascii, encode_ascii}
use Rattle.std.proofs.lemmas.Str.Ascii.{All-from_ascii, lowercase_ascii}
use Rattle.caseless.specs.Caseless.{default_case_fold}
use Rattle.caseless.proofs.CaselessLemmas.{default_case_fold-ascii}
use Rattle.unicode_normalization.specs.Forms.{Nfkc}
use Rattle.unicode_normalization.proofs.FormsLemmas.{normalize-ascii}
use Rattle.text_keys.specs.Text.{lowered, prepared, squeezed, spaced, piece_key, not_empty, whole_key, ignore_case_key, exact_key}
use Rattle.text_keys.proofs.Pieces.{piece_key-text}
use Rattle.text_keys.proofs.Squeezing.{squeezed-space, encodes_squeezed-char, squeezed-end}

-- ---- the whole piece

unchanged : (cs : List ℕ) → map (lowered false) cs ≡ cs
unchanged [] = refl
unchanged (c ∷ cs) = ap (λ rest. c ∷ rest) (unchanged cs)

prepared-ascii : (fold : Bool) (cs : List ℕ) → All (λ c. c < 128) cs → prepared fold cs ≡ map (lowered fold) cs
prepared-ascii true cs all = ap default_case_fold (normalize-ascii Nfkc cs all) ∙ default_case_fold-ascii cs all
prepared-ascii false cs all = normalize-ascii Nfkc cs all ∙ sym (unchanged cs)

-- the key of a piece in ASCII, by its bytes
pub piece_key-ascii : (piece : List ℕ) (fold first last : Bool) → IsAscii piece
    → piece_key piece fold first last ≡ Some (encode_utf8_all (squeezed first last (map (lowered fold) piece)))
piece_key-ascii piece fold first last ascii =
    piece_key-text piece fold first last (IsUtf8-from_ascii piece ascii)
    ∙ ap (λ cs. Some (encode_utf8_all (squeezed first last (prepared fold cs)))) (chars-IsAscii piece ascii)
    ∙ ap (λ cs. Some (encode_utf8_all (squeezed first last cs))) (prepared-ascii fold piece (All-from_ascii piece ascii))

-- ---- one byte after the other

lowered_small : (fold : Bool) (c : ℕ) → c < 128 → lowered fold c < 128
lowered_small true c small = lowercase_ascii c small
lowered_small false c small = small

lowered_other : (fold : Bool) (c : ℕ) → (c ≡ 32 → ⊥) → lowered fold c ≡ 32 → ⊥
lowered_other true c other = λ same. other (grind (arith, nat_tests))
lowered_other false c other = other

lowered_space : (fold : Bool) (c : ℕ) → c ≡ 32 → lowered fold c ≡ 32
lowered_space true c space = rw space refl
lowered_space false c space = space

encodes_spaced : (space : Bool) → encode_utf8_all (spaced space []) ≡ spaced space []
encodes_spaced true = ap (λ bytes. bytes ++ []) (encode_ascii 32 (omega arith))
encodes_spaced false = refl

next_byte : (fold : Bool) (bytes : List ℕ) (i : ℕ) → i < length bytes
    → map (lowered fold) (drop i bytes) ≡ lowered fold (get_or bytes i 0) ∷ map (lowered fold) (drop (i + 1) bytes)
next_byte fold bytes i within = ap (map (lowered fold)) (drop_more bytes i 0 within)

-- a space makes one due, except at the start
pub ascii-space : (start space last fold : Bool) (bytes : List ℕ) (i : ℕ) → i < length bytes → get_or bytes i 0 ≡ 32 → (start && space) ≡ false
    → squeezed start last (spaced space (map (lowered fold) (drop i bytes))) ≡ squeezed start last (spaced (not start) (map (lowered fold) (drop (i + 1) bytes)))
ascii-space start space last fold bytes i within is apart =
    rw (next_byte fold bytes i within, lowered_space fold (get_or bytes i 0) is) (squeezed-space start space last (map (lowered fold) (drop (i + 1) bytes)) apart)

-- another byte is written, after the space that is due
pub ascii-char : (start space last fold : Bool) (bytes : List ℕ) (i : ℕ) → i < length bytes → (get_or bytes i 0 ≡ 32 → ⊥) → IsAscii bytes → (start && space) ≡ false
    → encode_utf8_all (squeezed start last (spaced space (map (lowered fold) (drop i bytes))))
    ≡ spaced space [] ++ (lowered fold (get_or bytes i 0) ∷ [] ++ encode_utf8_all (squeezed false last (map (lowered fold) (drop (i + 1) bytes))))
ascii-char start space last fold bytes i within other ascii apart =
    let c = lowered fold (get_or bytes i 0) in
    let rest = map (lowered fold) (drop (i + 1) bytes) in
    let small = lowered_small fold (get_or bytes i 0) (ascii i) in
    ap (λ cs. encode_utf8_all (squeezed start last (spaced space cs))) (next_byte fold bytes i within)
    ∙ encodes_squeezed-char start space last c rest (lowered_other fold (get_or bytes i 0) other) apart
    ∙ ap (λ front. front ++ (encode_utf8 c ++ encode_utf8_all (squeezed false last rest))) (encodes_spaced space)
    ∙ ap (λ bytes. spaced space [] ++ (bytes ++ encode_utf8_all (squeezed false last rest))) (encode_ascii c small)

-- at the end the space that is due is written, unless the piece stands last
pub ascii-end : (start space last fold : Bool) (bytes : List ℕ) (i : ℕ) → length bytes ≤ i → (start && space) ≡ false
    → encode_utf8_all (squeezed start last (spaced space (map (lowered fold) (drop i bytes)))) ≡ spaced (space && not last) []
ascii-end start space last fold bytes i all apart =
    ap (λ cs. encode_utf8_all (squeezed start last (spaced space (map (lowered fold) cs)))) (drop_all i bytes all)
    ∙ ap encode_utf8_all (squeezed-end start space last apart)
    ∙ encodes_spaced (space && not last)

-- ---- values that begin with another character than a space

whole_key-plain : (fold : Bool) (c : ℕ) (cs : List ℕ) → IsAscii (c ∷ cs) → (c ≡ 32 → ⊥) → is_some (whole_key fold (c ∷ cs)) ≡ true
whole_key-plain fold c cs ascii other =
    let first = lowered fold c in
    let rest = map (lowered fold) cs in
    ap (λ key. is_some (option_and_then not_empty key)) (piece_key-ascii (c ∷ cs) fold true true ascii)
    ∙ ap (λ key. is_some (not_empty key)) (encodes_squeezed-char true false true first rest (lowered_other fold c other) refl)
    ∙ ap (λ front. is_some (not_empty (front ++ encode_utf8_all (squeezed false true rest)))) (encode_ascii first (lowered_small fold c (ascii 0)))

begins_plain : (fold : Bool) (value : List ℕ) → 0 < length value → (get_or value 0 0 ≡ 32 → ⊥) → IsAscii value → is_some (whole_key fold value) ≡ true
begins_plain fold [] some other ascii = absurd (omega arith)
begins_plain fold (c ∷ cs) some other ascii = whole_key-plain fold c cs ascii other

-- a test that is true only in ASCII shows that it is
pub ascii_where : (value : List ℕ) (test : Bool) → MatchBool test (IsAscii value) (IsNotAscii value) → IsTrue test → IsAscii value
ascii_where value true is passes = is
ascii_where value false is passes = absurd (cc)

-- such a value has a key where case is ignored
pub plain_ignoring : (value : List ℕ) → 0 < length value → (get_or value 0 0 ≡ 32 → ⊥) → IsAscii value → is_some (ignore_case_key value) ≡ true
unfolding ignore_case_key
plain_ignoring value some other ascii = begins_plain true value some other ascii

-- it has one where case counts
pub plain_exact : (value : List ℕ) → 0 < length value → (get_or value 0 0 ≡ 32 → ⊥) → IsAscii value → is_some (exact_key value) ≡ true
unfolding exact_key
plain_exact value some other ascii = begins_plain false value some other ascii
