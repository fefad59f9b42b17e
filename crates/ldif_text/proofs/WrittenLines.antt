-- Lines as they are written, and what each of them says.
use Rattle.std.proofs.Common.{◌≡◌, ℕ, zero, suc, Bool, true, false, not, ◌&&◌, ◌||◌, ◌==◌, eq-eqb, Option, Some, Ok, List, [], ◌∷◌, ◌++◌, length, refl, ap, ◌∙◌, inl, inr, append_assoc, ◌-◌, ◌+◌, ◌*◌, ◌/◌, ◌%◌, arith}
use Rattle.std.proofs.lemmas.Bool.{cases_Bool, and_parts, not-true, or_parts}
use Rattle.std.proofs.lemmas.Bool.Decides.{nat_tests}
use Rattle.std.specs.Prelude.{replicate, slice_index, if◌then◌else◌}
use Rattle.std.specs.List.{list_all, list_any, flat_map}
use Rattle.std.specs.Str.Lines.{lines, strip_carriage_return}
use Rattle.base64.specs.Engines.{standard}
use Rattle.base64.specs.GeneralPurpose.{IsBytes, encode_of}
use Rattle.base64.specs.Rfc4648.{encode_symbols, padding_len}
use Rattle.base64.proofs.EngineFacts.{decode_of-encode_of}
use Rattle.ldif_text.specs.declared.field.Field.{Field}
use Rattle.ldif_text.specs.Lines.{begins_with, is_continuation}
use Rattle.ldif_text.specs.Field.{cut, unspaced, base64_value, value_after, field_after, field_of}
use Rattle.ldif_text.specs.Written.{is_unsafe, is_unsafe_first, is_plain, value_text}
use Rattle.ldif_text.proofs.TextLines.{lines-some}

-- ---- tests

all_weaker : (p q : ℕ → Bool) → ((c : ℕ) → p c ≡ true → q c ≡ true) → (xs : List ℕ) → list_all p xs ≡ true → list_all q xs ≡ true
all_weaker p q w [] e = refl
all_weaker p q w (c ∷ xs) e = let h = and_parts (p c) (list_all p xs) e in rw (w c h.0) (all_weaker p q w xs h.1)

all_append : (p : ℕ → Bool) (xs ys : List ℕ) → list_all p xs ≡ true → list_all p ys ≡ true → list_all p (xs ++ ys) ≡ true
all_append p [] ys e f = f
all_append p (c ∷ xs) ys e f = let h = and_parts (p c) (list_all p xs) e in rw h.0 (all_append p xs ys h.1 f)

all_more : (p : ℕ → Bool) (c : ℕ) (xs : List ℕ) → p c ≡ true → list_all p xs ≡ true → list_all p (c ∷ xs) ≡ true
all_more p c xs e f = rw e f

-- a byte at a place, or 0 past the end
all_at : (p : ℕ → Bool) (xs : List ℕ) (k : ℕ) → p 0 ≡ true → list_all p xs ≡ true → p (slice_index xs k) ≡ true
all_at p [] zero z e = z
all_at p [] (suc k) z e = z
all_at p (c ∷ xs) zero z e = (and_parts (p c) (list_all p xs) e).0
all_at p (c ∷ xs) (suc k) z e = all_at p xs k z (and_parts (p c) (list_all p xs) e).1

-- ---- lines of a text

-- a byte that ends no line
abbrev pub in_line : ℕ → Bool
in_line c = not (c == 10) && not (c == 13)

-- the first mark cuts what stands before it
pub cut_prefix : (mark : ℕ) (prefix rest : List ℕ) → list_all (λ c. not (c == mark)) prefix ≡ true → cut mark (prefix ++ mark ∷ rest) ≡ (prefix, Some rest)
cut_prefix mark [] rest e = rw (eq-eqb mark mark refl) refl
cut_prefix mark (c ∷ prefix) rest e =
    let h = and_parts (not (c == mark)) (list_all (λ c. not (c == mark)) prefix) e in
    rw (not-true (c == mark) h.0, cut_prefix mark prefix rest h.1) refl

no_return : (line : List ℕ) → list_all in_line line ≡ true → strip_carriage_return line ≡ line
no_return line e =
    let last = and_parts _ _ (all_at in_line line (length line - 1) refl e) in
    rw (not-true (slice_index line (length line - 1) == 13) last.1) refl

lines_more : (line rest : List ℕ) → list_all in_line line ≡ true → lines (line ++ 10 ∷ rest) ≡ line ∷ lines rest
lines_more line rest e =
    let prefix = cut_prefix 10 line rest (all_weaker in_line (λ c. not (c == 10)) (λ c h. (and_parts (not (c == 10)) (not (c == 13)) h).0) line e) in
    lines-some (line ++ 10 ∷ rest) rest (ap (λ (p : List ℕ × Option (List ℕ)). p.1) prefix)
    ∙ ap (λ (p : List ℕ × Option (List ℕ)). strip_carriage_return p.0 ∷ lines rest) prefix
    ∙ ap (λ l. l ∷ lines rest) (no_return line e)

-- lines, each with its line feed
abbrev pub joined_text : List (List ℕ) → List ℕ
joined_text texts = flat_map (λ l. l ++ 10 ∷ []) texts

-- lines that are written are read as these lines
pub lines-joined_text : (texts : List (List ℕ)) → list_all (list_all in_line) texts ≡ true → lines (joined_text texts) ≡ texts
lines-joined_text [] e = refl
lines-joined_text (line ∷ texts) e =
    let h = and_parts (list_all in_line line) (list_all (list_all in_line) texts) e in
    ap lines (append_assoc line (10 ∷ []) (joined_text texts)) ∙ lines_more line (joined_text texts) h.0 ∙ ap (λ r. line ∷ r) (lines-joined_text texts h.1)

-- ---- values

-- a byte of a text in base64
abbrev is_symbol : ℕ → Bool
is_symbol c = in_line c && not (c == 32)

symbols_all : (p : ℕ → Bool) (t m : List ℕ) → ((k : ℕ) → p (slice_index t k) ≡ true) → list_all p (encode_symbols t m) ≡ true
unfolding encode_symbols
symbols_all p t [] good = refl
symbols_all p t (a ∷ []) good = rw (good (a / 4), good (a % 4 * 16)) refl
symbols_all p t (a ∷ b ∷ []) good = rw (good (a / 4), good (a % 4 * 16 + b / 16), good (b % 16 * 4)) refl
symbols_all p t (a ∷ b ∷ c ∷ m) good = rw (good (a / 4), good (a % 4 * 16 + b / 16), good (b % 16 * 4 + c / 64), good (c % 64)) (symbols_all p t m good)

replicate_all : (p : ℕ → Bool) (n c : ℕ) → p c ≡ true → list_all p (replicate n c) ≡ true
replicate_all p zero c e = refl
replicate_all p (suc n) c e = all_more p c _ e (replicate_all p n c e)

encoded_symbols : (value : List ℕ) → list_all is_symbol (encode_of standard value) ≡ true
encoded_symbols value =
    let table = standard.encode_table in
    let pads = padding_len (length value) in
    all_append is_symbol (encode_symbols table value) (replicate pads 61)
    (symbols_all is_symbol table value (λ k. all_at is_symbol table k refl refl)) (replicate_all is_symbol pads 61 refl)

some_bytes : (c : ℕ) (value : List ℕ) → (length (c ∷ value) == 0) ≡ false
some_bytes c value = grind (arith, nat_tests)

plain_parts : (c : ℕ) (value : List ℕ) → is_plain (c ∷ value) ≡ true → (is_unsafe_first c ≡ false) × (list_any is_unsafe (c ∷ value) ≡ false)
plain_parts c value e =
    let e' : ((not (is_unsafe_first c) && not (slice_index (c ∷ value) (length (c ∷ value) - 1) == 32)) && not (list_any is_unsafe (c ∷ value))) ≡ true = rw (some_bytes c value) at e in
    let h = and_parts (not (is_unsafe_first c) && not (slice_index (c ∷ value) (length (c ∷ value) - 1) == 32)) (not (list_any is_unsafe (c ∷ value))) e' in
    let ends = and_parts (not (is_unsafe_first c)) (not (slice_index (c ∷ value) (length (c ∷ value) - 1) == 32)) h.0 in
    (not-true (is_unsafe_first c) ends.0, not-true (list_any is_unsafe (c ∷ value)) h.1)

safe_in_line : (value : List ℕ) → list_any is_unsafe value ≡ false → list_all in_line value ≡ true
safe_in_line [] e = refl
safe_in_line (c ∷ value) e =
    let h = or_parts (is_unsafe c) (list_any is_unsafe value) e in
    let ascii = or_parts ((c == 0 || c == 10) || c == 13) _ h.0 in
    let returns = or_parts (c == 0 || c == 10) (c == 13) ascii.0 in
    let feeds = or_parts (c == 0) (c == 10) returns.0 in
    rw (feeds.1, returns.1) (safe_in_line value h.1)

plain_in_line : (value : List ℕ) → is_plain value ≡ true → list_all in_line value ≡ true
plain_in_line [] e = refl
plain_in_line (c ∷ value) e = safe_in_line (c ∷ value) (plain_parts c value e).1

-- what stands after the colon
abbrev pub after_colon : List ℕ → List ℕ
after_colon value = if is_plain value then 32 ∷ value else 58 ∷ 32 ∷ encode_of standard value

-- what is written of a value begins with the colon
pub value_text_after : (value : List ℕ) → value_text value ≡ 58 ∷ after_colon value
unfolding value_text
value_text_after value =
    elim (cases_Bool (is_plain value)) [
      | inl hit ↦ rw hit refl
      | inr miss ↦ rw miss refl
    ]

after_colon_in_line : (value : List ℕ) → list_all in_line (after_colon value) ≡ true
after_colon_in_line value =
    elim (cases_Bool (is_plain value)) [
      | inl hit ↦ rw hit (plain_in_line value hit)
      | inr miss ↦ rw miss (all_weaker is_symbol in_line (λ c h. (and_parts (in_line c) (not (c == 32)) h).0) (encode_of standard value) (encoded_symbols value))
    ]

plain_unspaced : (value : List ℕ) → is_plain value ≡ true → unspaced value ≡ value
plain_unspaced [] e = refl
plain_unspaced (c ∷ value) e =
    let first = or_parts (c == 32 || c == 58) (c == 60) (plain_parts c value e).0 in
    rw (or_parts (c == 32) (c == 58) first.0).0 refl

symbols_unspaced : (symbols : List ℕ) → list_all is_symbol symbols ≡ true → unspaced symbols ≡ symbols
symbols_unspaced [] e = refl
symbols_unspaced (c ∷ symbols) e =
    let h = and_parts (is_symbol c) (list_all is_symbol symbols) e in
    rw (not-true (c == 32) (and_parts (in_line c) (not (c == 32)) h.0).1) refl

encoded_back : (number : ℕ) (value : List ℕ) → IsBytes value → base64_value number (encode_of standard value) ≡ Ok value
unfolding base64_value
encoded_back number value bytes = rw (decode_of-encode_of standard value refl bytes) refl

value_back : (number : ℕ) (value : List ℕ) → IsBytes value → value_after number (after_colon value) ≡ Ok value
value_back number value bytes =
    elim (cases_Bool (is_plain value)) [
      | inl hit ↦ rw hit (ap (λ v. Ok v) (plain_unspaced value hit))
      | inr miss ↦ rw miss (ap (base64_value number) (symbols_unspaced (encode_of standard value) (encoded_symbols value)) ∙ encoded_back number value bytes)
    ]

-- ---- names and values

-- a name that a line may begin with
abbrev pub is_good_name : List ℕ → Bool
is_good_name name = list_all (λ c. in_line c && not (c == 58)) name && (not (begins_with 32 name) && not (begins_with 35 name))

-- the line of a name and a value
abbrev pub body_of_field : Field → List ℕ
body_of_field f = f.name ++ value_text f.value

prefix_begins : (mark : ℕ) (name rest : List ℕ) → begins_with mark name ≡ false → (58 == mark) ≡ false → begins_with mark (name ++ 58 ∷ rest) ≡ false
prefix_begins mark [] rest e n = n
prefix_begins mark (c ∷ name) rest e n = e

-- a field is one line
pub field_in_line : (f : Field) → is_good_name f.name ≡ true → list_all in_line (body_of_field f) ≡ true
field_in_line f good =
    let h = and_parts (list_all (λ c. in_line c && not (c == 58)) f.name) _ good in
    rw value_text_after
    (all_append in_line f.name (58 ∷ after_colon f.value) (all_weaker (λ c. in_line c && not (c == 58)) in_line (λ c p. (and_parts (in_line c) (not (c == 58)) p).0) f.name h.0)
    (after_colon_in_line f.value))

-- it continues none
pub field_not_continued : (f : Field) → is_good_name f.name ≡ true → is_continuation (body_of_field f) ≡ false
field_not_continued f good =
    let h = and_parts (list_all (λ c. in_line c && not (c == 58)) f.name) _ good in
    let operational = and_parts (not (begins_with 32 f.name)) (not (begins_with 35 f.name)) h.1 in
    rw value_text_after (prefix_begins 32 f.name (after_colon f.value) (not-true (begins_with 32 f.name) operational.0) refl)

-- it is no comment
pub field_not_comment : (f : Field) → is_good_name f.name ≡ true → begins_with 35 (body_of_field f) ≡ false
field_not_comment f good =
    let h = and_parts (list_all (λ c. in_line c && not (c == 58)) f.name) _ good in
    let operational = and_parts (not (begins_with 32 f.name)) (not (begins_with 35 f.name)) h.1 in
    rw value_text_after (prefix_begins 35 f.name (after_colon f.value) (not-true (begins_with 35 f.name) operational.1) refl)

-- it is read as that field
pub field_back : (first last : ℕ) (f : Field) → is_good_name f.name ≡ true → IsBytes f.value → field_of (record { first = first; last = last; text = body_of_field f }) ≡ Ok f
unfolding field_of
field_back first last f good bytes =
    let h = and_parts (list_all (λ c. in_line c && not (c == 58)) f.name) _ good in
    let prefix = cut_prefix 58 f.name (after_colon f.value) (all_weaker (λ c. in_line c && not (c == 58)) (λ c. not (c == 58)) (λ c p. (and_parts (in_line c) (not (c == 58)) p).1) f.name h.0) in
    rw (field_not_continued f good)
    (ap (λ t. field_after first (cut 58 (f.name ++ t)).0 (cut 58 (f.name ++ t)).1) (value_text_after f.value)
    ∙ ap (λ (p : List ℕ × Option (List ℕ)). field_after first p.0 p.1) prefix
    ∙ rw (value_back first f.value bytes) refl)
