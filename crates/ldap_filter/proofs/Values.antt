-- A value that was written is read again.
use Rattle.std.proofs.Common.{◌≡◌, ℕ, zero, suc, ◌+◌, ◌-◌, ◌*◌, ◌/◌, ◌%◌, ◌<◌, ◌≤◌, Bool, true, false, ◌||◌, ◌==◌, if◌then◌else◌, nat_lt, List, [], ◌∷◌, ◌++◌, length, Some, Ok, ◌⊎◌, inl, inr, refl, ap, ◌∙◌, arith, append_assoc, length-append}
use Rattle.std.proofs.lemmas.Bool.{and_parts, or_parts, ltb-true}
use Rattle.std.specs.Str.Lossy.{utf8_valid_len}
use Rattle.ldap_filter.specs.Grammar.{is_special, hex_value}
use Rattle.ldap_filter.specs.Reading.{Reading, many_in, many_at, value_goes_on, value_byte_at, hex_at, escaped_at, value_at}
use Rattle.ldap_filter.specs.Writing.{hex_digit, escape, text_byte, value_text_after, value_text, are_bytes}

-- lists are joined in any grouping
pub joined : (a b c : List ℕ) → (a ++ b) ++ c ≡ a ++ (b ++ c)
joined a b c = simp append_assoc

hex_back : (n : ℕ) → n < 16 → hex_value (hex_digit n) ≡ Some n
hex_back zero small = refl
hex_back (suc zero) small = refl
hex_back (suc (suc zero)) small = refl
hex_back (suc (suc (suc zero))) small = refl
hex_back (suc (suc (suc (suc zero)))) small = refl
hex_back (suc (suc (suc (suc (suc zero))))) small = refl
hex_back (suc (suc (suc (suc (suc (suc zero)))))) small = refl
hex_back (suc (suc (suc (suc (suc (suc (suc zero))))))) small = refl
hex_back (suc (suc (suc (suc (suc (suc (suc (suc zero)))))))) small = refl
hex_back (suc (suc (suc (suc (suc (suc (suc (suc (suc zero))))))))) small = refl
hex_back (suc (suc (suc (suc (suc (suc (suc (suc (suc (suc zero)))))))))) small = refl
hex_back (suc (suc (suc (suc (suc (suc (suc (suc (suc (suc (suc zero))))))))))) small = refl
hex_back (suc (suc (suc (suc (suc (suc (suc (suc (suc (suc (suc (suc zero)))))))))))) small = refl
hex_back (suc (suc (suc (suc (suc (suc (suc (suc (suc (suc (suc (suc (suc zero))))))))))))) small = refl
hex_back (suc (suc (suc (suc (suc (suc (suc (suc (suc (suc (suc (suc (suc (suc zero)))))))))))))) small = refl
hex_back (suc (suc (suc (suc (suc (suc (suc (suc (suc (suc (suc (suc (suc (suc (suc zero))))))))))))))) small = refl
hex_back (suc (suc (suc (suc (suc (suc (suc (suc (suc (suc (suc (suc (suc (suc (suc (suc n)))))))))))))))) small = absurd (omega arith)

hex_read : (stop n : ℕ) (rest : List ℕ) → n < 16 → hex_at stop (hex_digit n ∷ rest) ≡ Ok (n, rest)
hex_read stop n rest small = rw (hex_back n small) refl

escape_read : (stop b : ℕ) (rest : List ℕ) → b < 256 → escaped_at stop (hex_digit (b / 16) ∷ (hex_digit (b % 16) ∷ rest)) ≡ Ok (b, rest)
unfolding escaped_at
escape_read stop b rest small =
    let whole : 16 * (b / 16) + b % 16 ≡ b = omega arith in
    let high : b / 16 < 16 = omega arith in
    let low : b % 16 < 16 = omega arith in
    rw (hex_read stop (b / 16) (hex_digit (b % 16) ∷ rest) high, hex_read stop (b % 16) rest low) (ap (λ (n : ℕ). Ok (n, rest)) whole)

-- how a byte may be written
abbrev pub IsUnit : List ℕ → ℕ → Type 0
IsUnit unit b = ((b < 256) × (unit ≡ escape b)) ⊎ ((is_special b ≡ false) × (unit ≡ b ∷ []))

plain_goes : (b : ℕ) (rest : List ℕ) → is_special b ≡ false → value_goes_on (b ∷ rest) ≡ true
plain_goes b rest plain =
    let p = or_parts (b == 0) (b == 40 || (b == 41 || (b == 42 || b == 92))) plain in
    let q = or_parts (b == 40) (b == 41 || (b == 42 || b == 92)) p.1 in
    let r = or_parts (b == 41) (b == 42 || b == 92) q.1 in
    let s = or_parts (b == 42) (b == 92) r.1 in
    rw (r.0, s.0) refl

plain_reads : (stop b : ℕ) (rest : List ℕ) → is_special b ≡ false → value_byte_at stop (b ∷ rest) ≡ Ok (b, rest)
plain_reads stop b rest plain =
    let p = or_parts (b == 0) (b == 40 || (b == 41 || (b == 42 || b == 92))) plain in
    let q = or_parts (b == 40) (b == 41 || (b == 42 || b == 92)) p.1 in
    let r = or_parts (b == 41) (b == 42 || b == 92) q.1 in
    let s = or_parts (b == 42) (b == 92) r.1 in
    rw (s.1, p.0, q.0) refl

unit_goes : (unit : List ℕ) (b : ℕ) (rest : List ℕ) → IsUnit unit b → value_goes_on (unit ++ rest) ≡ true
unit_goes unit b rest written = elim written [ inl escaped ↦ rw escaped.1 refl | inr plain ↦ rw plain.1 (plain_goes b rest plain.0) ]

unit_reads : (stop : ℕ) (unit : List ℕ) (b : ℕ) (rest : List ℕ) → IsUnit unit b → value_byte_at stop (unit ++ rest) ≡ Ok (b, rest)
unit_reads stop unit b rest written =
    elim written [ inl escaped ↦ rw escaped.1 (escape_read stop b rest escaped.0) | inr plain ↦ rw plain.1 (plain_reads stop b rest plain.0) ]

unit_length : (unit : List ℕ) (b : ℕ) → IsUnit unit b → 1 ≤ length unit
unit_length unit b written = elim written [ inl escaped ↦ rw escaped.1 (omega arith) | inr plain ↦ rw plain.1 (omega arith) ]

text_unit_by : (b : ℕ) (special : Bool) → is_special b ≡ special → b < 256 → IsUnit (if special then escape b else b ∷ []) b
text_unit_by b true test small = inl (small, refl)
text_unit_by b false test small = inr (test, refl)

-- the first byte of a value is written as a unit
abbrev Written : ℕ → List ℕ → List ℕ → Type 0
Written b bs text = (unit : List ℕ) × (known : ℕ) × IsUnit unit b × (text ≡ unit ++ value_text_after known bs)

first_by : (n b : ℕ) (bs : List ℕ) (test : Bool) → b < 256
    → Written b bs (if test then escape b ++ value_text_after 0 bs else text_byte b ++ value_text_after (n - 1) bs)
first_by n b bs true small = (escape b, 0, inl (small, refl), refl)
first_by n b bs false small = (text_byte b, n - 1, text_unit_by b (is_special b) refl small, refl)

-- the first byte of a value is written as itself or as an escape
pub first_unit : (known b : ℕ) (bs : List ℕ) → b < 256 → Written b bs (value_text_after known (b ∷ bs))
first_unit known b bs small =
    let n = if known == 0 then utf8_valid_len (b ∷ bs) else known in first_by n b bs (n == 0) small

-- nothing begins where a reading stops
pub many_stops : {X : Type 0} (begins : List ℕ → Bool) (f : Reading X) (most stop : ℕ) (rest : List ℕ) → begins rest ≡ false → many_in begins f most stop rest ≡ Ok ([], rest)
many_stops begins f zero stop rest ends = refl
many_stops begins f (suc most) stop rest ends = rw ends refl

-- one value that was read and others are all of them
pub many_one : {X : Type 0} (begins : List ℕ → Bool) (f : Reading X) (most stop : ℕ) (bytes : List ℕ) (x : X) (more : List ℕ) (xs : List X) (rest : List ℕ)
    → begins bytes ≡ true → f stop bytes ≡ Ok (x, more) → many_in begins f most stop more ≡ Ok (xs, rest)
    → many_in begins f (suc most) stop bytes ≡ Ok (x ∷ xs, rest)
many_one begins f most stop bytes x more xs rest goes gives others = rw (goes, gives, others) refl

read_after : (v : List ℕ) (known most stop : ℕ) (rest : List ℕ) → are_bytes v ≡ true → length v ≤ most → value_goes_on rest ≡ false
    → many_in value_goes_on value_byte_at most stop (value_text_after known v ++ rest) ≡ Ok (v, rest)
read_after [] known most stop rest bytes room ends = many_stops value_goes_on value_byte_at most stop rest ends
read_after (b ∷ bs) known zero stop rest bytes room ends = absurd (omega arith)
read_after (b ∷ bs) known (suc most) stop rest bytes room ends =
    let parts = and_parts (nat_lt b 256) (are_bytes bs) bytes in
    let w = first_unit known b bs (ltb-true b 256 parts.0) in
    let beyond = value_text_after w.1 bs ++ rest in
    let text : value_text_after known (b ∷ bs) ++ rest ≡ w.0 ++ beyond = ap (λ (t : List ℕ). t ++ rest) w.3 ∙ joined w.0 (value_text_after w.1 bs) rest in
    ap (λ (t : List ℕ). many_in value_goes_on value_byte_at (suc most) stop t) text
    ∙ many_one value_goes_on value_byte_at most stop (w.0 ++ beyond) b beyond bs rest (unit_goes w.0 b beyond w.2) (unit_reads stop w.0 b beyond w.2)
    (read_after bs w.1 most stop rest parts.1 (omega arith) ends)

after_length : (v : List ℕ) (known : ℕ) → are_bytes v ≡ true → length v ≤ length (value_text_after known v)
after_length [] known bytes = omega arith
after_length (b ∷ bs) known bytes =
    let parts = and_parts (nat_lt b 256) (are_bytes bs) bytes in
    let w = first_unit known b bs (ltb-true b 256 parts.0) in
    let less = after_length bs w.1 parts.1 in
    let one = unit_length w.0 b w.2 in
    omega (arith, ap (λ (t : List ℕ). length t) w.3, length-append w.0 (value_text_after w.1 bs))

-- what was written of a value is read as the value
pub value_read : (v : List ℕ) (stop : ℕ) (rest : List ℕ) → are_bytes v ≡ true → value_goes_on rest ≡ false → value_at stop (value_text v ++ rest) ≡ Ok (v, rest)
unfolding value_at many_at value_text
value_read v stop rest bytes ends =
    let room = after_length v 0 bytes in
    read_after v 0 (length (value_text_after 0 v ++ rest)) stop rest bytes (omega (arith, length-append (value_text_after 0 v) rest)) ends
