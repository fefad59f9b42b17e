-- Readings one after another.
use Rattle.std.proofs.Common.{◌≡◌, ℕ, ◌^◌, ◌<◌, ◌≤◌, List, [], ◌∷◌, ◌++◌, length, map, drop, Option, Some, None, refl, sym, ap, ◌∙◌, arith, nat_eq, inl, inr, drop_at, append_assoc}
use Rattle.std.proofs.lemmas.List.{map-append}
use Rattle.std.specs.List.{starts_with}
use Rattle.std.proofs.lemmas.Bool.{cases_Bool}
use Rattle.std.proofs.lemmas.Bool.Decides.{nat_tests, Decides-eqb}
use Rattle.std.proofs.lemmas.Option.{none-some, same_Some}
use Rattle.std.proofs.lemmas.Slice.Eq.{starts_is}
use Rattle.csn_cookie.specs.Digits.{◌>>=◌, field, number_at, after, lower_digit}
use Rattle.csn_cookie.proofs.FieldLemmas.{Spells, number_at-spelled}

-- where two readings went on, the first gave something
pub goes_on : {A B G : Type 0} (first : Option A) (next : A → Option B) (y : B) → (first >>= next) ≡ Some y
    → ((x : A) → first ≡ Some x → next x ≡ Some y → G) → G
goes_on None next y h give = absurd (none-some y h)
goes_on (Some x) next y h give = give x refl h

-- and where the first was that of a number
pub number_then : {B G : Type 0} (base width : ℕ) (text : List ℕ) (next : ℕ × List ℕ → Option B) (y : B) → base ≤ 16
    → (number_at base width text >>= next) ≡ Some y
    → ((number : ℕ) (rest : List ℕ) → number < base ^ width → Spells text (field base width number) rest → next (number, rest) ≡ Some y → G)
    → G
number_then base width text next y high h give =
    goes_on (number_at base width text) next y h (λ (number, rest) read next_is.
    let is = number_at-spelled base width number text rest high read in
    give number rest is.0 is.1 next_is)

-- one spelling after another
pub spells_then : {text a middle b rest : List ℕ} → Spells text a middle → Spells middle b rest → Spells text (a ++ b) rest
spells_then {text} {a} {middle} {b} {rest} first second = record {
  prefix = first.prefix ++ second.prefix;
  whole = first.whole ∙ ap (λ r. first.prefix ++ r) second.whole ∙ sym (append_assoc first.prefix second.prefix rest);
  lower = map-append lower_digit first.prefix second.prefix ∙ rw (first.lower, second.lower) refl;
}

-- the text after these bytes

-- what is left after a prefix stands after it
pub after-prefix : (prefix text rest : List ℕ) → after prefix text ≡ Some rest → text ≡ prefix ++ rest
unfolding after
after-prefix prefix text rest h =
    elim (cases_Bool (starts_with nat_eq text prefix)) [
      | inl begins ↦ (starts_is Decides-eqb text prefix (starts_with nat_eq text prefix) refl).0 begins ∙ ap (λ r. prefix ++ r) (same_Some _ _ (rw begins at h))
      | inr other ↦ absurd (none-some rest (rw other at h))
    ]

-- after a prefix that is there the rest is left
pub prefix-after : (prefix rest : List ℕ) → after prefix (prefix ++ rest) ≡ Some rest
unfolding after
prefix-after prefix rest =
    let begins = (starts_is Decides-eqb (prefix ++ rest) prefix (starts_with nat_eq (prefix ++ rest) prefix) refl).1 rest refl in
    rw begins (ap Some (drop_at prefix rest (length prefix) refl))

-- no other byte is written as this one
abbrev pub IsMark : ℕ → Type 0
IsMark m = (lower_digit m ≡ m) × ((c : ℕ) → lower_digit c ≡ m → c ≡ m)

-- `#` is no digit in either case
pub hash_mark : IsMark 35
hash_mark = (refl, λ c e. hash c e)
  where
    hash : (c : ℕ) → lower_digit c ≡ 35 → c ≡ 35
    hash c e = grind (arith, nat_tests)

-- nor is a point
pub point_mark : IsMark 46
point_mark = (refl, λ c e. point c e)
  where
    point : (c : ℕ) → lower_digit c ≡ 46 → c ≡ 46
    point c e = grind (arith, nat_tests)

-- nor is `Z`
pub zulu_mark : IsMark 90
zulu_mark = (refl, λ c e. zulu c e)
  where
    zulu : (c : ℕ) → lower_digit c ≡ 90 → c ≡ 90
    zulu c e = grind (arith, nat_tests)

-- a mark was read, and the rest of the text
pub mark_then : {B G : Type 0} (mark : ℕ) (text : List ℕ) (next : List ℕ → Option B) (y : B) → IsMark mark
    → (after (mark ∷ []) text >>= next) ≡ Some y
    → ((rest : List ℕ) → Spells text (mark ∷ []) rest → next rest ≡ Some y → G) → G
mark_then mark text next y is h give =
    goes_on (after (mark ∷ []) text) next y h (λ rest read next_is.
    give rest (record { prefix = mark ∷ []; whole = after-prefix (mark ∷ []) text rest read; lower = ap (λ c. c ∷ []) is.0 }) next_is)

-- a text that spells the mark first
pub spelled-after : (mark : ℕ) (text lower : List ℕ) → IsMark mark → map lower_digit text ≡ mark ∷ lower
    → (after (mark ∷ []) text ≡ Some (drop 1 text)) × (map lower_digit (drop 1 text) ≡ lower)
spelled-after mark [] lower is e = absurd cc
spelled-after mark (c ∷ text) lower is e =
    let first : lower_digit c ≡ mark = cc in
    let rest : map lower_digit text ≡ lower = cc in
    (rw (is.1 c first) (prefix-after (mark ∷ []) text), rest)
