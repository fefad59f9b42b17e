-- UTF-8 text: how far bytes are it, and that what is written of a value is.
use Rattle.std.proofs.Common.{◌≡◌, ◌≢◌, ℕ, zero, suc, ◌+◌, ◌-◌, ◌/◌, ◌%◌, ◌<◌, Bool, true, false, ◌==◌, if◌then◌else◌, nat_lt, List, [], ◌∷◌, ◌++◌, length, take, drop, get_or, refl, sym, ap, subst, ◌∙◌, arith, inl, inr, append-nil, length-append}
use Rattle.std.proofs.lemmas.Bool.{and_parts, ne_eqb, ltb-true, cases_lt}
use Rattle.std.proofs.lemmas.List.{take_at, drop_at, length_push}
use Rattle.std.proofs.lemmas.Str.{utf8_valid_len-IsUtf8, IsUtf8-nil, IsUtf8-append, IsUtf8-from_ascii, IsUtf8-from_is_utf8, IsUtf8-take, IsUtf8-drop, IsCharBoundary-before_ascii, IsCharBoundary-after_ascii}
use Rattle.std.proofs.Math.Seq.{get_or-append_seam}
use Rattle.std.specs.Str.{IsUtf8, is_utf8}
use Rattle.std.specs.Str.Lossy.{utf8_valid_len, valid_len_up_to}
use Rattle.ldap_filter.specs.Grammar.{is_special}
use Rattle.ldap_filter.specs.Writing.{hex_digit, escape, text_byte, value_text_after, value_text, are_bytes}
use Rattle.ldap_filter.proofs.Values.{joined}

-- all bytes of a text are
pub whole_text : (bytes : List ℕ) → IsUtf8 bytes → length bytes ≡ utf8_valid_len bytes
whole_text bytes text = sym (utf8_valid_len-IsUtf8 bytes text)

-- ---- the prefix that is text

prefix_by : (bytes : List ℕ) (n : ℕ) (test : Bool) → is_utf8 (take (suc n) bytes) ≡ test → IsUtf8 (take (valid_len_up_to bytes n) bytes)
    → IsUtf8 (take (if test then suc n else valid_len_up_to bytes n) bytes)
prefix_by bytes n true is shorter = IsUtf8-from_is_utf8 (take (suc n) bytes) is
prefix_by bytes n false is shorter = shorter

prefix_up_to : (bytes : List ℕ) (n : ℕ) → IsUtf8 (take (valid_len_up_to bytes n) bytes)
prefix_up_to bytes zero = IsUtf8-nil
prefix_up_to bytes (suc n) = prefix_by bytes n (is_utf8 (take (suc n) bytes)) refl (prefix_up_to bytes n)

valid_prefix : (bytes : List ℕ) → IsUtf8 (take (utf8_valid_len bytes) bytes)
unfolding utf8_valid_len
valid_prefix bytes = prefix_up_to bytes (length bytes)

-- ---- bytes of ASCII

ascii_one : (c : ℕ) → c < 128 → (i : ℕ) → get_or (c ∷ []) i 0 < 128
ascii_one c small zero = small
ascii_one c small (suc i) = omega arith

-- a byte of ASCII before UTF-8 is UTF-8
pub utf8_cons : (c : ℕ) (bytes : List ℕ) → c < 128 → IsUtf8 bytes → IsUtf8 (c ∷ bytes)
utf8_cons c bytes small text = IsUtf8-append (c ∷ []) bytes (IsUtf8-from_ascii (c ∷ []) (ascii_one c small)) text

hex_small_by : (test : Bool) (n : ℕ) → n < 16 → (if test then 48 + n else 87 + n) < 128
hex_small_by true n small = omega arith
hex_small_by false n small = omega arith

hex_small : (n : ℕ) → n < 16 → hex_digit n < 128
hex_small n small = hex_small_by (nat_lt n 10) n small

utf8_escape : (b : ℕ) (rest : List ℕ) → b < 256 → IsUtf8 rest → IsUtf8 (escape b ++ rest)
utf8_escape b rest small text =
    let high : b / 16 < 16 = omega arith in
    let low : b % 16 < 16 = omega arith in
    utf8_cons 92 _ (omega arith) (utf8_cons (hex_digit (b / 16)) _ (hex_small (b / 16) high) (utf8_cons (hex_digit (b % 16)) rest (hex_small (b % 16) low) text))

special_small : (b : ℕ) → is_special b ≡ true → b < 128
special_small b special =
    elim (cases_lt b 128) [
      | inl small ↦ small
      | inr large ↦
          let a : b ≢ 0 = omega arith in
          let o : b ≢ 40 = omega arith in
          let s : b ≢ 41 = omega arith in
          let e : b ≢ 42 = omega arith in
          let h : b ≢ 92 = omega arith in
          let none : false ≡ true = rw (ne_eqb b 0 a, ne_eqb b 40 o, ne_eqb b 41 s, ne_eqb b 42 e, ne_eqb b 92 h) at special in absurd cc
    ]

-- ---- values

nothing_more : (prefix : List ℕ) → IsUtf8 (prefix ++ []) → IsUtf8 prefix
nothing_more prefix text = subst (λ (t : List ℕ). IsUtf8 t) (append-nil prefix) text

-- text may be cut at a byte of ASCII
cut : (prefix : List ℕ) (b : ℕ) (rest : List ℕ) → b < 128 → IsUtf8 (prefix ++ b ∷ rest) → IsUtf8 prefix × IsUtf8 rest
cut prefix b rest small text =
    let at = get_or-append_seam prefix b rest 0 in
    let low : get_or (prefix ++ b ∷ rest) (length prefix) 0 < 128 = omega (arith, at) in
    let within : length prefix < length (prefix ++ b ∷ rest) = omega (arith, length-append prefix (b ∷ rest)) in
    let before = IsUtf8-take (prefix ++ b ∷ rest) (length prefix) text (IsCharBoundary-before_ascii (prefix ++ b ∷ rest) (length prefix) within low) in
    let beyond = IsUtf8-drop (prefix ++ b ∷ rest) (length prefix + 1) text (IsCharBoundary-after_ascii (prefix ++ b ∷ rest) (length prefix) text within low) in
    let left : take (length prefix) (prefix ++ b ∷ rest) ≡ prefix = take_at prefix (b ∷ rest) (length prefix) refl in
    let right : drop (length prefix + 1) (prefix ++ b ∷ rest) ≡ rest =
    ap (λ (t : List ℕ). drop (length prefix + 1) t) (sym (joined prefix (b ∷ []) rest)) ∙ drop_at (prefix ++ b ∷ []) rest (length prefix + 1) (length_push prefix b) in
    (subst (λ (t : List ℕ). IsUtf8 t) left before, subst (λ (t : List ℕ). IsUtf8 t) right beyond)

-- what is written of a byte of text, and after it
text_by : (prefix : List ℕ) (b : ℕ) (old new : List ℕ) (special : Bool) → is_special b ≡ special → b < 256 → IsUtf8 (prefix ++ b ∷ old)
    → ((before : List ℕ) → IsUtf8 (before ++ old) → IsUtf8 (before ++ new)) → IsUtf8 (prefix ++ ((if special then escape b else b ∷ []) ++ new))
text_by prefix b old new true test small text more =
    let parts = cut prefix b old (special_small b test) text in
    IsUtf8-append prefix (escape b ++ new) parts.0 (utf8_escape b new small (more [] parts.1))
text_by prefix b old new false test small text more =
    let whole = subst (λ (t : List ℕ). IsUtf8 t) (sym (joined prefix (b ∷ []) old)) text in
    subst (λ (t : List ℕ). IsUtf8 t) (joined prefix (b ∷ []) new) (more (prefix ++ b ∷ []) whole)

known_text : (prefix : List ℕ) (bytes : List ℕ) (known : ℕ) → IsUtf8 (prefix ++ take known bytes)
    → IsUtf8 (prefix ++ take (if known == 0 then utf8_valid_len bytes else known) bytes)
known_text prefix bytes zero text = IsUtf8-append prefix (take (utf8_valid_len bytes) bytes) (nothing_more prefix text) (valid_prefix bytes)
known_text prefix bytes (suc known) text = let some : suc known ≢ 0 = omega arith in rw (ne_eqb (suc known) 0 some) text

-- the value after its first byte, by how many bytes are known to be text
after_by : (n : ℕ) (prefix : List ℕ) (b : ℕ) (bs : List ℕ) → b < 256 → IsUtf8 (prefix ++ take n (b ∷ bs))
    → ((k : ℕ) (before : List ℕ) → IsUtf8 (before ++ take k bs) → IsUtf8 (before ++ value_text_after k bs))
    → IsUtf8 (prefix ++ (if n == 0 then escape b ++ value_text_after 0 bs else text_byte b ++ value_text_after (n - 1) bs))
after_by zero prefix b bs small text more =
    IsUtf8-append prefix (escape b ++ value_text_after 0 bs) (nothing_more prefix text) (utf8_escape b (value_text_after 0 bs) small (more 0 [] IsUtf8-nil))
after_by (suc n) prefix b bs small text more =
    let some : suc n ≢ 0 = omega arith in
    let less : suc n - 1 ≡ n = omega arith in
    rw (ne_eqb (suc n) 0 some, less) (text_by prefix b (take n bs) (value_text_after n bs) (is_special b) refl small text (more n))

value_after : (bytes : List ℕ) → are_bytes bytes ≡ true → (known : ℕ) (prefix : List ℕ) → IsUtf8 (prefix ++ take known bytes) → IsUtf8 (prefix ++ value_text_after known bytes)
value_after [] small zero prefix text = text
value_after [] small (suc known) prefix text = text
value_after (b ∷ bs) small known prefix text =
    let parts = and_parts (nat_lt b 256) (are_bytes bs) small in
    after_by (if known == 0 then utf8_valid_len (b ∷ bs) else known) prefix b bs (ltb-true b 256 parts.0) (known_text prefix (b ∷ bs) known text)
    (λ k before t. value_after bs parts.1 k before t)

-- what is written of a value is text
pub value_utf8 : (value : List ℕ) → are_bytes value ≡ true → IsUtf8 (value_text value)
unfolding value_text
value_utf8 value bytes = value_after value bytes 0 [] IsUtf8-nil
