-- What a text is read as a cookie, and what it spells.
use Rattle.std.proofs.Common.{◌≡◌, ℕ, zero, suc, ◌/◌, ◌%◌, ◌^◌, ◌<◌, ◌≤◌, true, false, ◌||◌, ◌==◌, List, [], ◌∷◌, ◌++◌, length, map, take, drop, Option, Some, None, Result, Ok, Err, refl, sym, ap, subst, ◌∙◌, arith, append_assoc, append-nil, inl, inr, take_at, drop_at}
use Rattle.std.specs.Prelude.{IfOk, codes, is_some}
use Rattle.std.specs.Result.{result_ok}
use Rattle.std.specs.List.{list_any}
use Rattle.std.specs.Char.{digit_value, is_digit, is_ascii_uppercase}
use Rattle.std.specs.Fmt.{digit_glyph}
use Rattle.std.proofs.lemmas.Bool.{and_parts, cases_Bool, eqb-true, false≢true, ltb-true, or_cases, or_left, or_parts, or_right}
use Rattle.std.proofs.lemmas.Bool.Decides.{nat_tests}
use Rattle.std.proofs.lemmas.List.{map-append, length-map, nil_from_length}
use Rattle.std.proofs.lemmas.List.Folds.{list_any-append}
use Rattle.std.proofs.lemmas.Option.{none-some, same_Some, some_pair_parts}
use Rattle.csn_cookie.specs.declared.cookie.Cookie.{Cookie}
use Rattle.csn_cookie.specs.Digits.{◌>>=◌, field, are_digits, number_at, lower_number_at, after, whole, lower_digit}
use Rattle.csn_cookie.specs.Csn.{CsnValue, IsCsn, IsSpelling, csn_at, csn_text}
use Rattle.csn_cookie.specs.Cookie.{IsCookie, IsCookieSpelling, rid_text, ids_text, text_round, cookie_text, rid_at, ids_at, cookie_of_text, IsBlank, is_blank}
use Rattle.csn_cookie.proofs.FieldLemmas.{number_at-spelled, spelled-number_at, lower-field, length-field, are_digits-field}
use Rattle.csn_cookie.proofs.ReadingLemmas.{goes_on, after-prefix, prefix-after}
use Rattle.csn_cookie.proofs.SpellingLemmas.{csn_at-spelled, spelled-csn_at, lower-csn_text, whole_is}

-- digits that stand as they are written

decimal_mark : (c d : ℕ) → digit_value d < 10 → lower_digit c ≡ d → c ≡ d
decimal_mark c d digit e = grind (arith, nat_tests)

decimal_exact : (prefix spelled : List ℕ) → are_digits 10 spelled ≡ true → map lower_digit prefix ≡ spelled → prefix ≡ spelled
decimal_exact [] spelled digits e = e
decimal_exact (c ∷ prefix) [] digits e = absurd cc
decimal_exact (c ∷ prefix) (d ∷ spelled) digits e =
    let parts = and_parts (is_digit d 10) (are_digits 10 spelled) digits in
    let first : lower_digit c ≡ d = cc in
    let rest : map lower_digit prefix ≡ spelled = cc in
    rw (decimal_mark c d (ltb-true _ _ parts.0) first, decimal_exact prefix spelled parts.1 rest)

lower_mark : (c : ℕ) → is_ascii_uppercase c ≡ false → lower_digit c ≡ c
lower_mark c h = grind (arith, nat_tests)

lower_exact : (prefix : List ℕ) → list_any is_ascii_uppercase prefix ≡ false → map lower_digit prefix ≡ prefix
lower_exact [] h = refl
lower_exact (c ∷ prefix) h =
    let parts = or_parts (is_ascii_uppercase c) (list_any is_ascii_uppercase prefix) h in
    rw (lower_mark c parts.0, lower_exact prefix parts.1)

glyph_lower : (d : ℕ) → d < 16 → is_ascii_uppercase (digit_glyph false d) ≡ false
glyph_lower d small = grind (arith, nat_tests)

field_lower : (base width n : ℕ) → 2 ≤ base → base ≤ 16 → list_any is_ascii_uppercase (field base width n) ≡ false
unfolding field
field_lower base zero n low high = refl
field_lower base (suc width) n low high =
    let digit = glyph_lower (n % base) (omega arith) in
    rw (list_any-append, field_lower base width (n / base) low high, digit)

decimal_is : (width n : ℕ) (text rest : List ℕ) → number_at 10 width text ≡ Some (n, rest) → (n < 10 ^ width) × (text ≡ field 10 width n ++ rest)
decimal_is width n text rest read =
    let is = number_at-spelled 10 width n text rest (omega arith) read in
    let prefix = decimal_exact is.1.prefix (field 10 width n) (are_digits-field 10 width n (omega arith) (omega arith)) is.1.lower in
    (is.0, is.1.whole ∙ ap (λ f. f ++ rest) prefix)

lower_is : (width n : ℕ) (text rest : List ℕ) → lower_number_at 16 width text ≡ Some (n, rest) → (n < 16 ^ width) × (text ≡ field 16 width n ++ rest)
unfolding lower_number_at
lower_is width n text rest h =
    elim (cases_Bool (list_any is_ascii_uppercase (take width text))) [
      | inl upper ↦ absurd (none-some (n, rest) (rw upper at h))
      | inr lower ↦
          let is = number_at-spelled 16 width n text rest (omega arith) (rw lower at h) in
          let long : length is.1.prefix ≡ width = sym (length-map is.1.prefix lower_digit) ∙ ap length is.1.lower ∙ length-field 16 width n in
          let taken : take width text ≡ is.1.prefix = ap (take width) is.1.whole ∙ take_at is.1.prefix rest width long in
          let prefix = sym (lower_exact is.1.prefix (rw taken at lower)) ∙ is.1.lower in
          (is.0, is.1.whole ∙ ap (λ f. f ++ rest) prefix)
    ]

-- and their reading

number_at-field : (base width n : ℕ) (rest : List ℕ) → 2 ≤ base → base ≤ 16 → n < base ^ width → number_at base width (field base width n ++ rest) ≡ Some (n, rest)
number_at-field base width n rest low high small =
    let e : map lower_digit (field base width n ++ rest) ≡ field base width n ++ map lower_digit rest =
    map-append lower_digit (field base width n) rest ∙ rw (lower-field base width n low high) refl in
    let read = spelled-number_at base width n (field base width n ++ rest) (map lower_digit rest) low high small e in
    read.0 ∙ ap (λ r. Some (n, r)) (drop_at (field base width n) rest width (length-field base width n))

lower_number_at-field : (width n : ℕ) (rest : List ℕ) → n < 16 ^ width → lower_number_at 16 width (field 16 width n ++ rest) ≡ Some (n, rest)
unfolding lower_number_at
lower_number_at-field width n rest small =
    rw (take_at (field 16 width n) rest width (length-field 16 width n), field_lower 16 width n (omega arith) (omega arith)) (number_at-field 16 width n rest (omega arith) (omega arith) small)

csn_at-text : (csn : CsnValue) (text rest : List ℕ) → IsCsn csn → IsSpelling csn text → csn_at (text ++ rest) ≡ Some (csn, rest)
csn_at-text csn text rest is spells =
    let e : map lower_digit (text ++ rest) ≡ csn_text csn ++ map lower_digit rest = map-append lower_digit text rest ∙ rw spells refl in
    let read = spelled-csn_at (text ++ rest) (map lower_digit rest) csn is e in
    let back = csn_at-spelled (text ++ rest) read.rest csn read.read_is in
    let long : length back.1.prefix ≡ length text =
    sym (length-map back.1.prefix lower_digit) ∙ ap length (back.1.lower ∙ sym spells) ∙ length-map text lower_digit in
    let tail : read.rest ≡ rest =
    sym (drop_at back.1.prefix read.rest (length text) long) ∙ ap (drop (length text)) (sym back.1.whole) ∙ drop_at text rest (length text) refl in
    read.read_is ∙ ap (λ r. Some (csn, r)) tail

-- one text after another
text_then : {text middle : List ℕ} (a b rest : List ℕ) → text ≡ a ++ middle → middle ≡ b ++ rest → text ≡ (a ++ b) ++ rest
text_then a b rest h k = h ∙ ap (λ r. a ++ r) k ∙ sym (append_assoc a b rest)

-- the ids

rid_is : (n : ℕ) (text rest : List ℕ) → rid_at text ≡ Some (n, rest) → (n < 1000) × (text ≡ rid_text n ++ rest)
rid_is n text rest h =
    goes_on (after (codes "rid=") text) _ (n, rest) h (λ t read number.
    let is = decimal_is 3 n t rest number in
    (is.0, text_then (codes "rid=") (field 10 3 n) rest (after-prefix (codes "rid=") text t read) is.1))

rid_at-text : (n : ℕ) (rest : List ℕ) → n < 1000 → rid_at (rid_text n ++ rest) ≡ Some (n, rest)
rid_at-text n rest small =
    rw (prefix-after (codes "rid=") (field 10 3 n ++ rest)) (number_at-field 10 3 n rest (omega arith) (omega arith) small)

abbrev HasIds : List ℕ → List ℕ → ℕ × ℕ → Type 0
HasIds text rest ids = (ids.0 < 1000) × (ids.1 < 2 ^ 12) × (text ≡ ids_text ids.0 ids.1 ++ rest)

ids_is : (ids : ℕ × ℕ) (text rest : List ℕ) → ids_at text ≡ Some (ids, rest) → HasIds text rest ids
ids_is ids text rest h =
    goes_on (rid_at text) _ (ids, rest) h (λ (rid, t₁) read₁ h₁.
    goes_on (after (codes ",sid=") t₁) _ (ids, rest) h₁ (λ t₂ read₂ h₂.
    goes_on (lower_number_at 16 3 t₂) _ (ids, rest) h₂ (λ (sid, t₃) read₃ h₃.
    let first = rid_is rid text t₁ read₁ in
    let last = lower_is 3 sid t₂ t₃ read₃ in
    let both = text_then (rid_text rid) (codes ",sid=") t₂ first.1 (after-prefix (codes ",sid=") t₁ t₂ read₂) in
    let whole_text = text_then (rid_text rid ++ codes ",sid=") (field 16 3 sid) t₃ both last.1 in
    let same = some_pair_parts (rid, sid) ids t₃ rest h₃ in
    subst (HasIds text rest) same.0 (first.0, last.0, whole_text ∙ ap (λ r. ids_text rid sid ++ r) same.1))))

ids_at-text : (rid sid : ℕ) (rest : List ℕ) → rid < 1000 → sid < 2 ^ 12 → ids_at (ids_text rid sid ++ rest) ≡ Some ((rid, sid), rest)
ids_at-text rid sid rest small short =
    rw (
      append_assoc (rid_text rid ++ codes ",sid=") (field 16 3 sid) rest,
      append_assoc (rid_text rid) (codes ",sid=") (field 16 3 sid ++ rest),
      rid_at-text rid (codes ",sid=" ++ (field 16 3 sid ++ rest)) small,
      prefix-after (codes ",sid=") (field 16 3 sid ++ rest),
      lower_number_at-field 3 sid rest short,
    ) refl

-- a text that is read as a cookie spells it

abbrev SpellsCookie : List ℕ → Cookie → Type 0
SpellsCookie text cookie = IsCookie cookie × IsCookieSpelling cookie text

-- a text that is read as a cookie is a spelling of it
pub cookie_of_text-spelled : (text : List ℕ) (cookie : Cookie) → cookie_of_text text ≡ Some cookie → IsCookie cookie × IsCookieSpelling cookie text
unfolding cookie_of_text
cookie_of_text-spelled text cookie h =
    goes_on (ids_at text) _ cookie h (λ (ids, t₁) read₁ h₁.
    goes_on (after (codes ",csn=") t₁) _ cookie h₁ (λ t₂ read₂ h₂.
    goes_on (csn_at t₂) _ cookie h₂ (λ (csn, t₃) read₃ h₃.
    goes_on (after (codes ",gen=") t₃) _ cookie h₃ (λ t₄ read₄ h₄.
    goes_on (lower_number_at 16 32 t₄) _ cookie h₄ (λ (history, t₅) read₅ h₅.
    let found : Cookie = record { rid = ids.0; sid = ids.1; csn = csn; history = history } in
    let all = whole_is found cookie t₅ h₅ in
    let first = ids_is ids text t₁ read₁ in
    let middle = csn_at-spelled t₂ t₃ csn read₃ in
    let last = lower_is 32 history t₄ t₅ read₅ in
    let prefix = middle.1.prefix in
    let two = text_then (ids_text ids.0 ids.1) (codes ",csn=") t₂ first.2 (after-prefix (codes ",csn=") t₁ t₂ read₂) in
    let three = text_then (ids_text ids.0 ids.1 ++ codes ",csn=") prefix t₃ two middle.1.whole in
    let four = text_then (ids_text ids.0 ids.1 ++ codes ",csn=" ++ prefix) (codes ",gen=") t₄ three (after-prefix (codes ",gen=") t₃ t₄ read₄) in
    let five = text_then (ids_text ids.0 ids.1 ++ codes ",csn=" ++ prefix ++ codes ",gen=") (field 16 32 history) t₅ four last.1 in
    let round : text ≡ text_round found prefix = five ∙ ap (λ r. text_round found prefix ++ r) all.1 ∙ append-nil (text_round found prefix) in
    subst (SpellsCookie text) all.0
    (record { rid = first.0; sid = first.1; csn = middle.0; history = last.0 }, record { csn = prefix; spells = middle.1.lower; round = round }))))))

round_joined : (a b c d e : List ℕ) → a ++ b ++ c ++ d ++ e ≡ a ++ (b ++ (c ++ (d ++ (e ++ []))))
round_joined a b c d e = simp (append_assoc, append-nil)

-- and one that spells a cookie is read as it
pub spelled-cookie_of_text : (text : List ℕ) (cookie : Cookie) → IsCookie cookie → IsCookieSpelling cookie text → cookie_of_text text ≡ Some cookie
unfolding cookie_of_text
spelled-cookie_of_text text cookie is spells =
    let whole_text = spells.round ∙ round_joined (ids_text cookie.rid cookie.sid) (codes ",csn=") spells.csn (codes ",gen=") (field 16 32 cookie.history) in
    rw (
      whole_text,
      ids_at-text cookie.rid cookie.sid _ is.rid is.sid,
      prefix-after (codes ",csn=") _,
      csn_at-text cookie.csn spells.csn _ is.csn spells.spells,
      prefix-after (codes ",gen=") _,
      lower_number_at-field 32 cookie.history [] is.history,
    ) refl

-- the canonical text of a cookie spells it
pub cookie_text-spelled : (cookie : Cookie) → IsCookieSpelling cookie (cookie_text cookie)
unfolding cookie_text
cookie_text-spelled cookie = record { csn = csn_text cookie.csn; spells = lower-csn_text cookie.csn; round = refl }

-- what is written of a cookie is read as it
pub cookie_of_text-cookie_text : (cookie : Cookie) → IsCookie cookie → cookie_of_text (cookie_text cookie) ≡ Some cookie
cookie_of_text-cookie_text cookie is = spelled-cookie_of_text (cookie_text cookie) cookie is (cookie_text-spelled cookie)

-- two cookies with one text are one
pub cookie_text-same : (a b : Cookie) → IsCookie a → IsCookie b → cookie_text a ≡ cookie_text b → a ≡ b
cookie_text-same a b is also e =
    same_Some a b (sym (cookie_of_text-cookie_text a is) ∙ rw e (cookie_of_text-cookie_text b also))

-- what a reading that answers a fault in place of none says of the text
pub parsed_spelled : {E : Type 0} (r : Result Cookie E) (text : List ℕ) → result_ok r ≡ cookie_of_text text → IfOk r (λ cookie. IsCookieSpelling cookie text)
parsed_spelled (Ok cookie) text h = (cookie_of_text-spelled text cookie (sym h)).1
parsed_spelled (Err e) text h = tt

-- a cookie that was read is within its bounds
pub parsed_bounds : {E : Type 0} (r : Result Cookie E) (text : List ℕ) → result_ok r ≡ cookie_of_text text → IfOk r IsCookie
parsed_bounds (Ok cookie) text h = (cookie_of_text-spelled text cookie (sym h)).0
parsed_bounds (Err e) text h = tt

-- a text that spells a cookie is read as that cookie
pub parsed_only : {E : Type 0} (r : Result Cookie E) (text : List ℕ) → result_ok r ≡ cookie_of_text text
    → (cookie : Cookie) → IsCookie cookie → IsCookieSpelling cookie text → r ≡ Ok cookie
parsed_only (Ok x) text h cookie is spells = ap Ok (same_Some x cookie (h ∙ spelled-cookie_of_text text cookie is spells))
parsed_only (Err e) text h cookie is spells = absurd (none-some cookie (h ∙ spelled-cookie_of_text text cookie is spells))

-- blank texts

some_is : {A G : Type 0} (o : Option A) → is_some o ≡ true → ((x : A) → o ≡ Some x → G) → G
some_is None h give = absurd (false≢true h)
some_is (Some x) h give = give x refl

whole_then : {A G : Type 0} (read : Option (A × List ℕ)) → is_some (read >>= whole) ≡ true → ((x : A) → read ≡ Some (x, []) → G) → G
whole_then read h give =
    some_is (read >>= whole) h (λ y all.
    goes_on read whole y all (λ (x, rest) first last.
    give x (first ∙ ap (λ r. Some (x, r)) (whole_is x y rest last).1)))

blank_rid : (text : List ℕ) → is_some (rid_at text >>= whole) ≡ true → IsBlank text
blank_rid text h =
    whole_then (rid_at text) h (λ rid read.
    let is = rid_is rid text [] read in
    inr (inl (rid, is.0, is.1 ∙ append-nil (rid_text rid))))

blank_ids : (text : List ℕ) → is_some (ids_at text >>= whole) ≡ true → IsBlank text
blank_ids text h =
    whole_then (ids_at text) h (λ ids read.
    let is = ids_is ids text [] read in
    inr (inr (ids.0, ids.1, is.0, is.1, is.2 ∙ append-nil (ids_text ids.0 ids.1))))

-- a text that is found to be blank is blank
pub is_blank-blank : (text : List ℕ) → is_blank text ≡ true → IsBlank text
unfolding is_blank
is_blank-blank text h =
    elim (or_cases ((length text == 0) || is_some (rid_at text >>= whole)) (is_some (ids_at text >>= whole)) h) [
      | inl first ↦ elim (or_cases (length text == 0) (is_some (rid_at text >>= whole)) first) [
        | inl none ↦ inl (nil_from_length text (eqb-true (length text) 0 none))
        | inr rid ↦ blank_rid text rid
      ]
      | inr ids ↦ blank_ids text ids
    ]

-- and a blank one is found to be so
pub blank-is_blank : (text : List ℕ) → IsBlank text → is_blank text ≡ true
unfolding is_blank
blank-is_blank text (inl none) = rw none refl
blank-is_blank text (inr (inl (rid, small, e))) =
    let read : rid_at text ≡ Some (rid, []) = rw (e ∙ sym (append-nil (rid_text rid))) (rid_at-text rid [] small) in
    let here : is_some (rid_at text >>= whole) ≡ true = rw read refl in
    or_left ((length text == 0) || is_some (rid_at text >>= whole)) (is_some (ids_at text >>= whole)) (or_right (length text == 0) _ here)
blank-is_blank text (inr (inr (rid, sid, small, short, e))) =
    let read : ids_at text ≡ Some ((rid, sid), []) = rw (e ∙ sym (append-nil (ids_text rid sid))) (ids_at-text rid sid [] small short) in
    let here : is_some (ids_at text >>= whole) ≡ true = rw read refl in
    or_right ((length text == 0) || is_some (rid_at text >>= whole)) _ here
