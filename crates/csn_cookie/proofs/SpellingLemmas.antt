-- What a text is read as, and what it spells.
use Rattle.std.proofs.Common.{◌≡◌, ℕ, ◌^◌, ◌<◌, ◌≤◌, List, [], ◌∷◌, ◌++◌, map, drop, Option, Some, refl, sym, ap, subst, ◌∙◌, arith, append_assoc, append-nil, pos, Result, Ok, Err}
use Rattle.std.specs.Prelude.{IfOk}
use Rattle.std.specs.Result.{result_ok}
use Rattle.std.proofs.lemmas.Option.{some_pair_parts, cond_some, same_Some, none-some}
use Rattle.std.proofs.lemmas.List.{map-append}
use Rattle.jiff_core.proofs.CalendarLemmas.{days_in_month_bounds}
use Rattle.csn_cookie.specs.declared.instant.Instant.{Instant}
use Rattle.csn_cookie.specs.Digits.{◌>>=◌, field, number_at, whole, lower_digit}
use Rattle.csn_cookie.specs.Csn.{CsnValue, IsCsn, IsSpelling, greatest_micros, part_at, csn_at, csn_text, csn_of_text}
use Rattle.csn_cookie.specs.Instant.{exists, micros_of, instant_of, instant_at, instant_text, micros_at, HasDigits}
use Rattle.csn_cookie.proofs.FieldLemmas.{Spells, number_at-spelled, spelled-number_at, lower-field}
use Rattle.csn_cookie.proofs.InstantLemmas.{Exists, exists-parts, exists-from_parts, exists-instant_of, micros_of-instant_of, instant_of-micros_of, micros_of-le}
use Rattle.csn_cookie.proofs.ReadingLemmas.{goes_on, spells_then, spelled-after, number_then, mark_then, point_mark, zulu_mark, hash_mark}

-- the parts of a moment's text, from the prefix
joined : (a b c d e f g rest : List ℕ)
    → a ++ (b ++ (c ++ (d ++ (e ++ (f ++ (46 ∷ (g ++ (90 ∷ rest)))))))) ≡ (a ++ b ++ c ++ d ++ e ++ f ++ 46 ∷ [] ++ g ++ 90 ∷ []) ++ rest
joined a b c d e f g rest = simp append_assoc

-- what is read of a moment is what the text spells
abbrev pub SpellsInstant : List ℕ → List ℕ → Instant → Type 0
SpellsInstant text rest m = HasDigits m × Spells text (instant_text m) rest

-- what was read as a time spells it
pub instant_at-spelled : (text rest : List ℕ) (m : Instant) → instant_at text ≡ Some (m, rest) → SpellsInstant text rest m
unfolding instant_at instant_text
instant_at-spelled text rest m h =
    number_then 10 4 text _ (m, rest) (omega arith) h (λ year t₁ small₁ e₁ h₁.
    number_then 10 2 t₁ _ (m, rest) (omega arith) h₁ (λ month t₂ small₂ e₂ h₂.
    number_then 10 2 t₂ _ (m, rest) (omega arith) h₂ (λ day t₃ small₃ e₃ h₃.
    number_then 10 2 t₃ _ (m, rest) (omega arith) h₃ (λ hour t₄ small₄ e₄ h₄.
    number_then 10 2 t₄ _ (m, rest) (omega arith) h₄ (λ minute t₅ small₅ e₅ h₅.
    number_then 10 2 t₅ _ (m, rest) (omega arith) h₅ (λ second t₆ small₆ e₆ h₆.
    mark_then 46 t₆ _ (m, rest) point_mark h₆ (λ t₇ e₇ h₇.
    number_then 10 6 t₇ _ (m, rest) (omega arith) h₇ (λ micro t₈ small₈ e₈ h₈.
    mark_then 90 t₈ _ (m, rest) zulu_mark h₈ (λ t₉ e₉ h₉.
    let read : Instant = record { year = year; month = month; day = day; hour = hour; minute = minute; second = second; micro = micro } in
    let same = some_pair_parts read m t₉ rest h₉ in
    let spelled = spells_then (spells_then (spells_then (spells_then (spells_then (spells_then (spells_then (spells_then e₁ e₂) e₃) e₄) e₅) e₆) e₇) e₈) e₉ in
    subst (SpellsInstant text rest) same.0 (
      record { year = small₁; month = small₂; day = small₃; hour = small₄; minute = small₅; second = small₆; micro = small₈ },
      subst (Spells text (instant_text read)) same.1 spelled,
    ))))))))))

-- a reading that goes to this rest of the text
pub record ReadsTo {A : Type 0} (read : Option (A × List ℕ)) (value : A) (lower : List ℕ) : Type 0 where
  pub rest : List ℕ
  pub read_is : read ≡ Some (value, rest)
  pub rest_is : map lower_digit rest ≡ lower

-- and what the text spells is read
pub spelled-instant_at : (text lower : List ℕ) (m : Instant) → HasDigits m → map lower_digit text ≡ instant_text m ++ lower → ReadsTo (instant_at text) m lower
unfolding instant_at instant_text
spelled-instant_at text lower m d e =
    let whole = e ∙ sym (joined (field 10 4 m.year) (field 10 2 m.month) (field 10 2 m.day) (field 10 2 m.hour) (field 10 2 m.minute) (field 10 2 m.second) (field 10 6 m.micro) lower) in
    let year = spelled-number_at 10 4 m.year text _ (omega arith) (omega arith) d.year whole in
    let month = spelled-number_at 10 2 m.month _ _ (omega arith) (omega arith) d.month year.1 in
    let day = spelled-number_at 10 2 m.day _ _ (omega arith) (omega arith) d.day month.1 in
    let hour = spelled-number_at 10 2 m.hour _ _ (omega arith) (omega arith) d.hour day.1 in
    let minute = spelled-number_at 10 2 m.minute _ _ (omega arith) (omega arith) d.minute hour.1 in
    let second = spelled-number_at 10 2 m.second _ _ (omega arith) (omega arith) d.second minute.1 in
    let point = spelled-after 46 _ _ point_mark second.1 in
    let micro = spelled-number_at 10 6 m.micro _ _ (omega arith) (omega arith) d.micro point.1 in
    let zulu = spelled-after 90 _ lower zulu_mark micro.1 in
    record { rest = _; read_is = rw (year.0, month.0, day.0, hour.0, minute.0, second.0, point.0, micro.0, zulu.0) refl; rest_is = zulu.1 }

-- the time of a moment that exists

digits_of : (m : Instant) → Exists m → HasDigits m
digits_of m is = record {
  year = omega (arith, is.to_9999);
  month = omega (arith, is.month_high);
  day = omega (arith, is.day_high, days_in_month_bounds (pos m.year) m.month);
  hour = omega (arith, is.hour);
  minute = omega (arith, is.minute);
  second = omega (arith, is.second);
  micro = is.micro;
}

micros_at-spelled : (text rest : List ℕ) (n : ℕ) → micros_at text ≡ Some (n, rest)
    → (n ≤ greatest_micros) × Spells text (instant_text (instant_of n)) rest
micros_at-spelled text rest n h =
    goes_on (instant_at text) _ (n, rest) h (λ (m, t) read next_is.
    let found = cond_some (exists m) (micros_of m, t) (n, rest) next_is in
    let is = exists-parts m found.0 in
    let time : micros_of m ≡ n = ap (λ p. p.0) found.1 in
    let tail : t ≡ rest = ap (λ p. p.1) found.1 in
    (rw (← time) (micros_of-le m is), rw (← time, ← tail, instant_of-micros_of m is) (instant_at-spelled text t m read).1))

spelled-micros_at : (text lower : List ℕ) (n : ℕ) → n ≤ greatest_micros → map lower_digit text ≡ instant_text (instant_of n) ++ lower → ReadsTo (micros_at text) n lower
spelled-micros_at text lower n early e =
    let is = exists-instant_of n early in
    let read = spelled-instant_at text lower (instant_of n) (digits_of (instant_of n) is) e in
    record { rest = read.rest; read_is = rw (read.read_is, exists-from_parts (instant_of n) is, micros_of-instant_of n early) refl; rest_is = read.rest_is }

-- a part of a CSN after the time

part_then : {B G : Type 0} (width : ℕ) (text : List ℕ) (next : ℕ × List ℕ → Option B) (y : B) → (part_at width text >>= next) ≡ Some y
    → ((n : ℕ) (middle rest : List ℕ) → n < 16 ^ width → Spells text (35 ∷ []) middle → Spells middle (field 16 width n) rest → next (n, rest) ≡ Some y → G) → G
part_then width text next y h give =
    goes_on (part_at width text) next y h (λ (n, rest) read next_is.
    mark_then 35 text (λ t. number_at 16 width t) (n, rest) hash_mark read (λ middle e number.
    let is = number_at-spelled 16 width n middle rest (omega arith) number in
    give n middle rest is.0 e is.1 next_is))

spelled-part_at : (width n : ℕ) (text lower : List ℕ) → n < 16 ^ width → map lower_digit text ≡ 35 ∷ (field 16 width n ++ lower) → ReadsTo (part_at width text) n lower
spelled-part_at width n text lower small e =
    let mark = spelled-after 35 text _ hash_mark e in
    let number = spelled-number_at 16 width n (drop 1 text) lower (omega arith) (omega arith) small mark.1 in
    record { rest = drop width (drop 1 text); read_is = rw (mark.0, number.0) refl; rest_is = number.1 }

-- a CSN

parts_joined : (a b c d rest : List ℕ) → a ++ (35 ∷ (b ++ (35 ∷ (c ++ (35 ∷ (d ++ rest)))))) ≡ (a ++ 35 ∷ [] ++ b ++ 35 ∷ [] ++ c ++ 35 ∷ [] ++ d) ++ rest
parts_joined a b c d rest = simp append_assoc

abbrev pub SpellsCsn : List ℕ → List ℕ → CsnValue → Type 0
SpellsCsn text rest csn = IsCsn csn × Spells text (csn_text csn) rest

-- what was read as a CSN spells it
pub csn_at-spelled : (text rest : List ℕ) (csn : CsnValue) → csn_at text ≡ Some (csn, rest) → SpellsCsn text rest csn
unfolding csn_at csn_text
csn_at-spelled text rest csn h =
    goes_on (micros_at text) _ (csn, rest) h (λ (micros, t₁) read h₁.
    part_then 6 t₁ _ (csn, rest) h₁ (λ count m₂ t₂ small₂ d₂ e₂ h₂.
    part_then 3 t₂ _ (csn, rest) h₂ (λ sid m₃ t₃ small₃ d₃ e₃ h₃.
    part_then 6 t₃ _ (csn, rest) h₃ (λ part m₄ t₄ small₄ d₄ e₄ h₄.
    let time = micros_at-spelled text t₁ micros read in
    let found : CsnValue = record { micros = micros; count = count; sid = sid; part = part } in
    let same = some_pair_parts found csn t₄ rest h₄ in
    let spelled = spells_then (spells_then (spells_then (spells_then (spells_then (spells_then time.1 d₂) e₂) d₃) e₃) d₄) e₄ in
    subst (SpellsCsn text rest) same.0
    (record { micros = time.0; count = small₂; sid = small₃; part = small₄ }, subst (Spells text (csn_text found)) same.1 spelled)))))

csn_at-read : (text t₁ t₂ t₃ t₄ : List ℕ) (csn : CsnValue) → micros_at text ≡ Some (csn.micros, t₁) → part_at 6 t₁ ≡ Some (csn.count, t₂)
    → part_at 3 t₂ ≡ Some (csn.sid, t₃) → part_at 6 t₃ ≡ Some (csn.part, t₄) → csn_at text ≡ Some (csn, t₄)
unfolding csn_at
csn_at-read text t₁ t₂ t₃ t₄ csn h₁ h₂ h₃ h₄ = rw (h₁, h₂, h₃, h₄) refl

-- a text that spells a CSN is read as that CSN
pub spelled-csn_at : (text lower : List ℕ) (csn : CsnValue) → IsCsn csn → map lower_digit text ≡ csn_text csn ++ lower → ReadsTo (csn_at text) csn lower
unfolding csn_text
spelled-csn_at text lower csn is e =
    let whole = e ∙ sym (parts_joined (instant_text (instant_of csn.micros)) (field 16 6 csn.count) (field 16 3 csn.sid) (field 16 6 csn.part) lower) in
    let micros = spelled-micros_at text _ csn.micros is.micros whole in
    let count = spelled-part_at 6 csn.count micros.rest _ is.count micros.rest_is in
    let sid = spelled-part_at 3 csn.sid count.rest _ is.sid count.rest_is in
    let part = spelled-part_at 6 csn.part sid.rest lower is.part sid.rest_is in
    record { rest = part.rest; read_is = csn_at-read text micros.rest count.rest sid.rest part.rest csn micros.read_is count.read_is sid.read_is part.read_is; rest_is = part.rest_is }

-- the whole of a text

-- what is read of a whole text leaves nothing
pub whole_is : {A : Type 0} (x y : A) (rest : List ℕ) → whole (x, rest) ≡ Some y → (x ≡ y) × (rest ≡ [])
whole_is x y [] h = (same_Some x y h, refl)
whole_is x y (c ∷ rest) h = absurd (none-some y h)

lower_none : (rest : List ℕ) → map lower_digit rest ≡ [] → rest ≡ []
lower_none [] e = refl
lower_none (c ∷ rest) e = absurd cc

-- a text that is read as a CSN spells it
pub csn_of_text-spelled : (text : List ℕ) (csn : CsnValue) → csn_of_text text ≡ Some csn → IsCsn csn × IsSpelling csn text
unfolding csn_of_text
csn_of_text-spelled text csn h =
    goes_on (csn_at text) whole csn h (λ (x, rest) read next_is.
    let all = whole_is x csn rest next_is in
    let is = csn_at-spelled text rest x read in
    let whole_text : text ≡ is.1.prefix = is.1.whole ∙ ap (λ r. is.1.prefix ++ r) all.1 ∙ append-nil is.1.prefix in
    subst (λ c. IsCsn c × IsSpelling c text) all.0 (is.0, ap (map lower_digit) whole_text ∙ is.1.lower))

-- and one that spells a CSN is read as it
pub spelled-csn_of_text : (text : List ℕ) (csn : CsnValue) → IsCsn csn → IsSpelling csn text → csn_of_text text ≡ Some csn
unfolding csn_of_text
spelled-csn_of_text text csn is e =
    let read = spelled-csn_at text [] csn is (e ∙ sym (append-nil (csn_text csn))) in
    rw (read.read_is, lower_none read.rest read.rest_is) refl

lower_decimal : (width n : ℕ) → map lower_digit (field 10 width n) ≡ field 10 width n
lower_decimal width n = lower-field 10 width n (omega arith) (omega arith)

lower_hexadecimal : (width n : ℕ) → map lower_digit (field 16 width n) ≡ field 16 width n
lower_hexadecimal width n = lower-field 16 width n (omega arith) (omega arith)

-- the text of a CSN is in lower case
pub lower-csn_text : (csn : CsnValue) → map lower_digit (csn_text csn) ≡ csn_text csn
unfolding csn_text instant_text
lower-csn_text csn = simp (map-append, lower_decimal, lower_hexadecimal)

-- what is written of a CSN is read as it
pub csn_of_text-csn_text : (csn : CsnValue) → IsCsn csn → csn_of_text (csn_text csn) ≡ Some csn
csn_of_text-csn_text csn is = spelled-csn_of_text (csn_text csn) csn is (lower-csn_text csn)

-- two CSNs with one text are one
pub csn_text-same : (a b : CsnValue) → IsCsn a → IsCsn b → csn_text a ≡ csn_text b → a ≡ b
csn_text-same a b is also e =
    same_Some a b (sym (csn_of_text-csn_text a is) ∙ rw e (csn_of_text-csn_text b also))

-- what a reading that answers a fault in place of none says of the text
pub parsed_spelled : {E : Type 0} (r : Result CsnValue E) (text : List ℕ) → result_ok r ≡ csn_of_text text → IfOk r (λ csn. IsSpelling csn text)
parsed_spelled (Ok csn) text h = (csn_of_text-spelled text csn (sym h)).1
parsed_spelled (Err e) text h = tt

-- a CSN that was read is within its bounds
pub parsed_bounds : {E : Type 0} (r : Result CsnValue E) (text : List ℕ) → result_ok r ≡ csn_of_text text → IfOk r IsCsn
parsed_bounds (Ok csn) text h = (csn_of_text-spelled text csn (sym h)).0
parsed_bounds (Err e) text h = tt

-- a text that spells a CSN is read as that CSN, and as no other
pub parsed_only : {E : Type 0} (r : Result CsnValue E) (text : List ℕ) → result_ok r ≡ csn_of_text text
    → (csn : CsnValue) → IsCsn csn → IsSpelling csn text → r ≡ Ok csn
parsed_only (Ok x) text h csn is spells = ap Ok (same_Some x csn (h ∙ spelled-csn_of_text text csn is spells))
parsed_only (Err e) text h csn is spells = absurd (none-some csn (h ∙ spelled-csn_of_text text csn is spells))
