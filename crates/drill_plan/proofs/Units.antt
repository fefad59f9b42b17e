-- The part of the names that a writer works on: those at or below its unit, under either name.
use Rattle.std.proofs.Common.{◌≡◌, ◌≢◌, ℕ, ◌+◌, ◌-◌, ◌<◌, ◌≤◌, Bool, true, false, ◌&&◌, ◌||◌, nat_lt, nat_le, nat_eq, if◌then◌else◌, [], ◌∷◌, ◌++◌, length, take, drop, get_or, inl, inr, refl, sym, ap, ◌∙◌, subst, arith}
use Rattle.std.specs.Prelude.{bytes_eq, codes, unwrap_or}
use Rattle.std.specs.Cmp.Lexicographic.{bytes_decides}
use Rattle.std.proofs.lemmas.Bool.{and_parts, and_from, or_cases, or_left, or_right, leb-true, le-leb, le-ltb, ltb-true, false≢true}
use Rattle.std.proofs.lemmas.List.{drop_at, drop-drop, length-append}
use Rattle.dn_names.specs.Names.{TypeAndValue, pair_key, same_pair, has_pair, same_rdn, same_name, suffix_of, is_at_or_below, moved_name}
use Rattle.dn_names.proofs.EqualNames.{AreEqual, AreEqual-same_name, same_name-AreEqual, length-AreEqual, AreEqual-drop, name_sym, name_trans}
use Rattle.drill_plan.specs.Names.{unit_text, unit_rdn, unit_name}
use Rattle.drill_plan.proofs.PlainKeys.{unit_rule, word_key}
use Rattle.drill_plan.proofs.UnitTexts.{digits, text_word}
use Rattle.drill_plan.proofs.Plainly.{Name}
use Rattle.drill_plan.proofs.Regions.{IsRegion}

-- ---- the names of units

-- one of the two names of the writer's unit
abbrev pub is_unit : ℕ → Name → Bool
is_unit writer name = same_name name (unit_name writer false) || same_name name (unit_name writer true)

-- the key of a unit's value
unit_key : (writer : ℕ) (renamed : Bool) → writer < 8
    → pair_key (record { kind = 9; value = unit_text writer renamed }) ≡ 119 ∷ (48 + writer) ∷ (if renamed then codes "x" else [])
unit_key writer renamed small =
    let rest = (48 + writer) ∷ (if renamed then codes "x" else []) in
    ap (λ value. pair_key (record { kind = 9; value = value })) (digits writer renamed small)
    ∙ ap (λ key. unwrap_or key []) (word_key 9 119 rest unit_rule (text_word writer renamed small))

-- units of two writers have no name in common
pub units_apart : (one other : ℕ) (renamed also : Bool) → one < 8 → other < 8 → one ≢ other
    → same_name (unit_name one renamed) (unit_name other also) ≡ true → ⊥
units_apart one other renamed also small small_too differ same =
    let p : TypeAndValue = record { kind = 9; value = unit_text one renamed } in
    let q : TypeAndValue = record { kind = 9; value = unit_text other also } in
    let rdns : same_rdn (unit_rdn one renamed) (unit_rdn other also) ≡ true =
    (AreEqual-same_name (unit_name one renamed) (unit_name other also) same).0 in
    let there = and_parts (has_pair (q ∷ []) p && true) (has_pair (p ∷ []) q && true) rdns in
    let has : (same_pair p q || false) ≡ true = (and_parts (has_pair (q ∷ []) p) true there.0).0 in
    let pair : same_pair p q ≡ true = elim (or_cases (same_pair p q) false has) [ inl passing ↦ passing | inr failing ↦ absurd (false≢true failing) ] in
    let keys : pair_key p ≡ pair_key q = (bytes_decides (pair_key p) (pair_key q)).0 (and_parts (nat_eq 9 9) (bytes_eq (pair_key p) (pair_key q)) pair).1 in
    let texts = sym (unit_key one renamed small) ∙ keys ∙ unit_key other also small_too in
    let numbers : 48 + one ≡ 48 + other = ap (λ ds. get_or ds 1 0) texts in
    differ (omega (arith, numbers))

-- ---- the part of a writer

-- the last two RDNs are a name of the unit
abbrev pub own : ℕ → Name → Bool
own writer name = nat_lt writer 8 && (nat_le 2 (length name) && is_unit writer (suffix_of 2 name))

-- a name that has fewer RDNs than a unit
abbrev pub is_short : Name → Bool
is_short name = nat_lt (length name) 2

-- what is known of a name of the part
pub record IsOwn (writer : ℕ) (name : Name) : Type 0 where
  pub few : nat_lt writer 8 ≡ true
  pub long : 2 ≤ length name
  pub unit : is_unit writer (suffix_of 2 name) ≡ true

-- a name in the part of a writer is its unit's or below it
pub own_parts : (writer : ℕ) (name : Name) → own writer name ≡ true → IsOwn writer name
own_parts writer name is =
    let first = and_parts (nat_lt writer 8) (nat_le 2 (length name) && is_unit writer (suffix_of 2 name)) is in
    let second = and_parts (nat_le 2 (length name)) (is_unit writer (suffix_of 2 name)) first.1 in
    record { few = first.0; long = leb-true 2 (length name) second.0; unit = second.1 }

-- a name that is its unit's or below it is in the part
pub own_from : (writer : ℕ) (name : Name) → IsOwn writer name → own writer name ≡ true
own_from writer name is =
    and_from (nat_lt writer 8) (nat_le 2 (length name) && is_unit writer (suffix_of 2 name)) is.few
    (and_from (nat_le 2 (length name)) (is_unit writer (suffix_of 2 name)) (le-leb 2 (length name) is.long) is.unit)

unit_like : (writer : ℕ) (name like : Name) → same_name like name ≡ true → is_unit writer name ≡ true → is_unit writer like ≡ true
unit_like writer name like same is =
    elim (or_cases (same_name name (unit_name writer false)) (same_name name (unit_name writer true)) is) [
      | inl first ↦ or_left (same_name like (unit_name writer false)) (same_name like (unit_name writer true)) (name_trans like name (unit_name writer false) same first)
      | inr second ↦ or_right (same_name like (unit_name writer false)) (same_name like (unit_name writer true)) (name_trans like name (unit_name writer true) same second)
    ]

-- ends that are alike
own_like : (writer : ℕ) (name other : Name) → IsOwn writer other → 2 ≤ length name → AreEqual (suffix_of 2 name) (suffix_of 2 other)
    → own writer name ≡ true
own_like writer name other is long equal =
    own_from writer name (record {
      few = is.few;
      long = long;
      unit = unit_like writer (suffix_of 2 other) (suffix_of 2 name) (same_name-AreEqual (suffix_of 2 name) (suffix_of 2 other) equal) is.unit;
    })

own_below : (writer : ℕ) (name other : Name) → is_at_or_below name other ≡ true → own writer other ≡ true → own writer name ≡ true
own_below writer name other below is =
    let parts = and_parts (nat_le (length other) (length name)) (same_name (suffix_of (length other) name) other) below in
    let long : length other ≤ length name = leb-true (length other) (length name) parts.0 in
    let its = own_parts writer other is in
    let two : 2 ≤ length other = its.long in
    let counts : (length name - length other) + (length other - 2) ≡ length name - 2 = omega (arith, long, two) in
    let equal : AreEqual (drop (length other - 2) (drop (length name - length other) name)) (drop (length other - 2) other) =
    AreEqual-drop (length other - 2) (drop (length name - length other) name) other
    (AreEqual-same_name (suffix_of (length other) name) other parts.1) in
    own_like writer name other its (omega (arith, long, two))
    (subst (λ rest. AreEqual rest (suffix_of 2 other))
    (drop-drop (length other - 2) (length name - length other) name ∙ ap (λ n. drop n name) counts) equal)

own_same : (writer : ℕ) (name other : Name) → same_name name other ≡ true → own writer other ≡ true → own writer name ≡ true
own_same writer name other same is =
    let equal = AreEqual-same_name name other same in
    let long : length name ≡ length other = length-AreEqual name other equal in
    let its = own_parts writer other is in
    let two : 2 ≤ length other = its.long in
    own_like writer name other its (omega (arith, long, two))
    (subst (λ n. AreEqual (drop n name) (suffix_of 2 other)) (ap (λ n. n - 2) (sym long))
    (AreEqual-drop (length other - 2) name other equal))

-- the end of a name with another one before it
suffix_after : (front back : Name) → 2 ≤ length back → suffix_of 2 (front ++ back) ≡ suffix_of 2 back
suffix_after front back long =
    let whole : length (front ++ back) ≡ length front + length back = length-append front back in
    let count : length (front ++ back) - 2 ≡ length front + (length back - 2) = omega (arith, whole, long) in
    ap (λ n. drop n (front ++ back)) count
    ∙ sym (drop-drop (length back - 2) (length front) (front ++ back))
    ∙ ap (drop (length back - 2)) (drop_at front back (length front) refl)

own_moved : (writer : ℕ) (name from to : Name) → own writer to ≡ true → own writer (moved_name name from to) ≡ true
own_moved writer name from to is =
    let its = own_parts writer to is in
    let two : 2 ≤ length to = its.long in
    let front = take (length name - length from) name in
    let whole : length (front ++ to) ≡ length front + length to = length-append front to in
    own_from writer (front ++ to) (record {
      few = its.few;
      long = omega (arith, whole, two);
      unit = ap (is_unit writer) (suffix_after front to two) ∙ its.unit;
    })

-- with a name the part has all below it
pub own_region : (writer : ℕ) → IsRegion (own writer)
own_region writer = record { below = own_below writer; same = own_same writer; moves = own_moved writer }

-- ---- parts that have nothing in common

small_number : (n : ℕ) → nat_lt n 8 ≡ true → n < 8
small_number n is = ltb-true n 8 is

one_unit : (one other : ℕ) (name : Name) → nat_lt one 8 ≡ true → nat_lt other 8 ≡ true → one ≢ other
    → is_unit one name ≡ true → is_unit other name ≡ true → ⊥
one_unit one other name few few_too differ is is_too =
    let meet : (r q : Bool) → same_name name (unit_name one r) ≡ true → same_name name (unit_name other q) ≡ true → ⊥ =
    λ r q first second. units_apart one other r q (small_number one few) (small_number other few_too) differ
    (name_trans (unit_name one r) name (unit_name other q) (name_sym name (unit_name one r) first) second) in
    elim (or_cases (same_name name (unit_name one false)) (same_name name (unit_name one true)) is) [
      | inl a ↦ elim (or_cases (same_name name (unit_name other false)) (same_name name (unit_name other true)) is_too) [
        | inl b ↦ meet false false a b
        | inr b ↦ meet false true a b
      ]
      | inr a ↦ elim (or_cases (same_name name (unit_name other false)) (same_name name (unit_name other true)) is_too) [
        | inl b ↦ meet true false a b
        | inr b ↦ meet true true a b
      ]
    ]

-- the parts of two writers have no name in common
pub own_apart : (one other : ℕ) → one ≢ other → (name : Name) → own one name ≡ true → own other name ≡ false
own_apart one other differ name is = by (own other name) refl
  where
    by : (b : Bool) → own other name ≡ b → own other name ≡ false
    by false failing = failing
    by true passing =
        let mine = own_parts one name is in
        let theirs = own_parts other name passing in
        absurd (one_unit one other (suffix_of 2 name) mine.few theirs.few differ mine.unit theirs.unit)

-- a name in a part is longer than the suffix
pub own_long : (writer : ℕ) (name : Name) → own writer name ≡ true → is_short name ≡ false
own_long writer name is = let long = (own_parts writer name is).long in not_short (length name) long
  where
    not_short : (n : ℕ) → 2 ≤ n → nat_lt n 2 ≡ false
    not_short n long = le-ltb n 2 long
