-- Values of settled characters alone, which are their own keys.
use Rattle.std.proofs.Common.{◌≡◌, ℕ, ◌<◌, Bool, true, false, not, ◌&&◌, ◌==◌, List, [], ◌∷◌, length, map, Some, IsAscii, encode_utf8_all, nat_lt, refl, ap, ◌∙◌, arith}
use Rattle.std.specs.Char.{to_ascii_lowercase}
use Rattle.std.specs.List.{list_all}
use Rattle.std.specs.Option.{option_and_then}
use Rattle.std.proofs.lemmas.Bool.{and_parts, not-true, ltb-true, eqb-true}
use Rattle.std.proofs.lemmas.Str.Ascii.{IsAscii-nil, IsAscii-cons, encodes-IsAscii}
use Rattle.text_keys.specs.Text.{is_settled, is_space, lowered, single_spaced, without_leading_spaces, without_trailing_spaces, squeezed, not_empty, whole_key, ignore_case_key, exact_key}
use Rattle.text_keys.proofs.Ascii.{piece_key-ascii}

-- ---- one character

abbrev keeps : ℕ → Bool
keeps c = not (is_space c) && to_ascii_lowercase c == c

is_small : (c : ℕ) → is_settled c ≡ true → c < 128
is_small c settled = ltb-true c 128 (and_parts (nat_lt c 128) (keeps c) settled).0

is_no_space : (c : ℕ) → is_settled c ≡ true → is_space c ≡ false
is_no_space c settled =
    let after = (and_parts (nat_lt c 128) (keeps c) settled).1 in
    not-true (is_space c) (and_parts (not (is_space c)) (to_ascii_lowercase c == c) after).0

lowered_same : (fold : Bool) (c : ℕ) → is_settled c ≡ true → lowered fold c ≡ c
lowered_same true c settled =
    let after = (and_parts (nat_lt c 128) (keeps c) settled).1 in
    eqb-true (to_ascii_lowercase c) c (and_parts (not (is_space c)) (to_ascii_lowercase c == c) after).1
lowered_same false c settled = refl

-- ---- all of them

-- such a value is in ASCII
pub settled_ascii : (cs : List ℕ) → list_all is_settled cs ≡ true → IsAscii cs
settled_ascii [] settled = IsAscii-nil
settled_ascii (c ∷ cs) settled =
    let parts = and_parts (is_settled c) (list_all is_settled cs) settled in
    IsAscii-cons c cs (is_small c parts.0) (settled_ascii cs parts.1)

lowered_each : (fold : Bool) (cs : List ℕ) → list_all is_settled cs ≡ true → map (lowered fold) cs ≡ cs
lowered_each fold [] settled = refl
lowered_each fold (c ∷ cs) settled =
    let parts = and_parts (is_settled c) (list_all is_settled cs) settled in
    ap (λ first. first ∷ map (lowered fold) cs) (lowered_same fold c parts.0)
    ∙ ap (λ rest. c ∷ rest) (lowered_each fold cs parts.1)

leading_same : (cs : List ℕ) → list_all is_settled cs ≡ true → without_leading_spaces cs ≡ cs
leading_same [] settled = refl
leading_same (c ∷ cs) settled =
    let other : is_space c ≡ false = is_no_space c (and_parts (is_settled c) (list_all is_settled cs) settled).0 in
    simp other

trailing_same : (cs : List ℕ) → list_all is_settled cs ≡ true → without_trailing_spaces cs ≡ cs
trailing_same [] settled = refl
trailing_same (c ∷ cs) settled =
    let parts = and_parts (is_settled c) (list_all is_settled cs) settled in
    let other : is_space c ≡ false = is_no_space c parts.0 in
    simp other (ap (λ rest. c ∷ rest) (trailing_same cs parts.1))

single_same : (cs : List ℕ) → list_all is_settled cs ≡ true → single_spaced cs ≡ cs
single_same [] settled = refl
single_same (c ∷ cs) settled =
    let parts = and_parts (is_settled c) (list_all is_settled cs) settled in
    let other : is_space c ≡ false = is_no_space c parts.0 in
    simp other (ap (λ rest. c ∷ rest) (single_same cs parts.1))

squeezed_same : (cs : List ℕ) → list_all is_settled cs ≡ true → squeezed true true cs ≡ cs
unfolding squeezed
squeezed_same cs settled =
    ap (λ text. single_spaced (without_trailing_spaces text)) (leading_same cs settled)
    ∙ ap single_spaced (trailing_same cs settled)
    ∙ single_same cs settled

-- ---- the whole value

own_whole : (fold : Bool) (value : List ℕ) → 0 < length value → list_all is_settled value ≡ true → whole_key fold value ≡ Some value
own_whole fold [] some settled = absurd (omega arith)
own_whole fold (c ∷ cs) some settled =
    ap (option_and_then not_empty) (piece_key-ascii (c ∷ cs) fold true true (settled_ascii (c ∷ cs) settled))
    ∙ ap (λ text. not_empty (encode_utf8_all (squeezed true true text))) (lowered_each fold (c ∷ cs) settled)
    ∙ ap (λ text. not_empty (encode_utf8_all text)) (squeezed_same (c ∷ cs) settled)
    ∙ ap not_empty (encodes-IsAscii (c ∷ cs) (settled_ascii (c ∷ cs) settled))

-- it is its own key where case is ignored
pub own_ignoring : (value : List ℕ) → 0 < length value → list_all is_settled value ≡ true → ignore_case_key value ≡ Some value
unfolding ignore_case_key
own_ignoring value some settled = own_whole true value some settled

-- and where case counts
pub own_exact : (value : List ℕ) → 0 < length value → list_all is_settled value ≡ true → exact_key value ≡ Some value
unfolding exact_key
own_exact value some settled = own_whole false value some settled
