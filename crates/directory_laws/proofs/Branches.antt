-- Names at or below a name, and such names that move with it.
use Rattle.std.proofs.Common.{◌≡◌, ◌≤◌, ◌<◌, ◌+◌, ◌-◌, ℕ, suc, true, nat_le, List, [], ◌∷◌, ◌++◌, length, take, drop, refl, sym, ap, ◌∙◌, subst, arith}
use Rattle.std.proofs.lemmas.Bool.{and_parts, and_from, leb-true, le-leb}
use Rattle.std.proofs.lemmas.List.{take_at, drop_at, drop-drop, take-append-drop, length-append, length-take}
use Rattle.dn_names.specs.Names.{TypeAndValue, same_name, is_at_or_below, is_child_of, moved_name}
use Rattle.dn_names.proofs.EqualNames.{AreEqual, AreEqual-same_name, same_name-AreEqual, length-AreEqual, AreEqual-refl, AreEqual-sym, AreEqual-trans, AreEqual-take, AreEqual-drop, AreEqual-append}

-- ---- at or below

-- n RDNs stand before what equals the other name
pub record IsBelow (name other : List (List TypeAndValue)) : Type 0 where
  pub count : ℕ
  pub long : length name ≡ count + length other
  pub equal : AreEqual (drop count name) other

-- a name that is tested to be at or below another one is so
pub IsBelow-is_at_or_below : (name other : List (List TypeAndValue)) → is_at_or_below name other ≡ true → IsBelow name other
IsBelow-is_at_or_below name other below =
    let both = and_parts (nat_le (length other) (length name)) (same_name (drop (length name - length other) name) other) below in
    let long : length other ≤ length name = leb-true (length other) (length name) both.0 in
    record {
      count = length name - length other;
      long = omega (arith, long);
      equal = AreEqual-same_name (drop (length name - length other) name) other both.1;
    }

-- a name that is at or below another one is tested to be so
pub is_at_or_below-IsBelow : (name other : List (List TypeAndValue)) → IsBelow name other → is_at_or_below name other ≡ true
is_at_or_below-IsBelow name other below =
    let long : length name ≡ below.count + length other = below.long in
    let same : below.count ≡ length name - length other = omega (arith, long) in
    and_from (nat_le (length other) (length name)) (same_name (drop (length name - length other) name) other) (le-leb (length other) (length name) (omega (arith, long)))
    (same_name-AreEqual (drop (length name - length other) name) other (subst (λ count. AreEqual (drop count name) other) same below.equal))

-- a name that equals one at or below a base is at or below it
pub IsBelow-equal : (one other base : List (List TypeAndValue)) → AreEqual one other → IsBelow one base → IsBelow other base
IsBelow-equal one other base equal below = record {
  count = below.count;
  long = sym (length-AreEqual one other equal) ∙ below.long;
  equal = AreEqual-trans (drop below.count other) (drop below.count one) base (AreEqual-sym (drop below.count one) (drop below.count other) (AreEqual-drop below.count one other equal)) below.equal;
}

-- a name below one that is below a base is below the base
pub IsBelow-trans : (name middle base : List (List TypeAndValue)) → IsBelow name middle → IsBelow middle base → IsBelow name base
IsBelow-trans name middle base first second =
    let long : length name ≡ first.count + length middle = first.long in
    let more : length middle ≡ second.count + length base = second.long in
    record {
      count = first.count + second.count;
      long = omega (arith, long, more);
      equal = subst (λ rest. AreEqual rest base) (drop-drop second.count first.count name)
          (AreEqual-trans (drop second.count (drop first.count name)) (drop second.count middle) base
          (AreEqual-drop second.count (drop first.count name) middle first.equal) second.equal);
    }

-- a name is at or below each that equals it
pub IsBelow-itself : (one other : List (List TypeAndValue)) → AreEqual one other → IsBelow one other
IsBelow-itself one other equal = record { count = 0; long = omega (arith, length-AreEqual one other equal); equal = equal }

-- a name with more RDNs before it is below it
pub IsBelow-longer : (prefix name : List (List TypeAndValue)) → IsBelow (prefix ++ name) name
IsBelow-longer prefix name = record {
  count = length prefix;
  long = length-append prefix name;
  equal = subst (λ rest. AreEqual rest name) (sym (drop_at prefix name (length prefix) refl)) (AreEqual-refl name);
}

-- a name at or below another and as long is that one
pub equal_where_long : (name base : List (List TypeAndValue)) → IsBelow name base → length name ≡ length base → AreEqual name base
equal_where_long name base below same =
    let long : length name ≡ below.count + length base = below.long in
    let none : below.count ≡ 0 = omega (arith, long, same) in
    subst (λ count. AreEqual (drop count name) base) none below.equal

-- ---- directly below

-- without its own RDN the name equals the other
pub record IsChild (name other : List (List TypeAndValue)) : Type 0 where
  pub long : length name ≡ suc (length other)
  pub equal : AreEqual (drop 1 name) other

-- a name that is tested to be a child of another one is so
pub IsChild-is_child_of : (name other : List (List TypeAndValue)) → is_child_of name other ≡ true → IsChild name other
IsChild-is_child_of [] other child = absurd (cc)
IsChild-is_child_of (rdn ∷ above) other child =
    let equal = AreEqual-same_name above other child in
    record { long = ap suc (length-AreEqual above other equal); equal = equal }

-- a child of a name is below it
pub IsBelow-child : (name other : List (List TypeAndValue)) → IsChild name other → IsBelow name other
IsBelow-child name other child = record { count = 1; long = omega (arith, child.long); equal = child.equal }

-- what is longer than a name and at or below it has its parent at or below it too
pub IsBelow-parent : (name other base : List (List TypeAndValue)) → IsBelow name base → length base < length name → IsChild name other → IsBelow other base
IsBelow-parent name other base below longer child =
    let long : length name ≡ below.count + length base = below.long in
    let next : length name ≡ suc (length other) = child.long in
    let count : ℕ = below.count - 1 in
    let step : 1 + count ≡ below.count = omega (arith, long, longer) in
    let above : AreEqual (drop count (drop 1 name)) base =
    subst (λ rest. AreEqual rest base) (sym (drop-drop count 1 name)) (subst (λ n. AreEqual (drop n name) base) (sym step) below.equal)
    in
    record {
      count = count;
      long = omega (arith, long, next, longer);
      equal = AreEqual-trans (drop count other) (drop count (drop 1 name)) base
          (AreEqual-sym (drop count (drop 1 name)) (drop count other) (AreEqual-drop count (drop 1 name) other child.equal)) above;
    }

-- ---- names that move

-- the RDNs before a suffix as long as the base
abbrev prefix : (name base : List (List TypeAndValue)) → List (List TypeAndValue)
prefix name base = take (length name - length base) name

length-prefix : (name base : List (List TypeAndValue)) → length (prefix name base) ≡ length name - length base
length-prefix name base = omega (arith, length-take (length name - length base) name)

-- two names at or below one are equal where they are equal once moved
pub moved_apart : (one other base new : List (List TypeAndValue)) → IsBelow one base → IsBelow other base
    → AreEqual (moved_name one base new) (moved_name other base new) → AreEqual one other
moved_apart one other base new first second equal =
    subst (λ name. AreEqual name other) (take-append-drop first.count one)
    (subst (λ name. AreEqual (take first.count one ++ drop first.count one) name) (take-append-drop first.count other)
    (AreEqual-append (take first.count one) (take first.count other) (drop first.count one) (drop first.count other) prefixes backs))
  where
    one_long : length one ≡ first.count + length base
    one_long = first.long

    other_long : length other ≡ second.count + length base
    other_long = second.long

    lengths : length (prefix one base) + length new ≡ length (prefix other base) + length new
    lengths = sym (length-append (prefix one base) new) ∙ length-AreEqual (moved_name one base new) (moved_name other base new) equal ∙ length-append (prefix other base) new

    one_count : length one - length base ≡ first.count
    one_count = omega (arith, one_long)

    other_count : length other - length base ≡ first.count
    other_count = omega (arith, one_long, other_long, lengths, length-prefix one base, length-prefix other base)

    one_prefix : take first.count (moved_name one base new) ≡ take first.count one
    one_prefix = take_at (prefix one base) new first.count (omega (arith, length-prefix one base, one_count)) ∙ ap (λ n. take n one) one_count

    other_prefix : take first.count (moved_name other base new) ≡ take first.count other
    other_prefix = take_at (prefix other base) new first.count (omega (arith, length-prefix other base, other_count)) ∙ ap (λ n. take n other) other_count

    prefixes : AreEqual (take first.count one) (take first.count other)
    prefixes =
        subst (λ name. AreEqual name (take first.count other)) one_prefix
        (subst (λ name. AreEqual (take first.count (moved_name one base new)) name) other_prefix
        (AreEqual-take first.count (moved_name one base new) (moved_name other base new) equal))

    counts : second.count ≡ first.count
    counts = omega (arith, one_long, other_long, other_count)

    backs : AreEqual (drop first.count one) (drop first.count other)
    backs =
        AreEqual-trans (drop first.count one) base (drop first.count other) first.equal
        (AreEqual-sym (drop first.count other) base (subst (λ n. AreEqual (drop n other) base) counts second.equal))

-- what equals a moved name is at or below the new one
pub moved_meets : (name base new other : List (List TypeAndValue)) → AreEqual (moved_name name base new) other → IsBelow other new
moved_meets name base new other equal = IsBelow-equal (moved_name name base new) other new equal (IsBelow-longer (prefix name base) new)

prefix_child : (above other base new : List (List TypeAndValue)) → AreEqual above other → AreEqual (moved_name above base new) (moved_name other base new)
prefix_child above other base new equal =
    let long : length above ≡ length other = length-AreEqual above other equal in
    let count = length other - length base in
    let same : length above - length base ≡ count = omega (arith, long) in
    AreEqual-append (prefix above base) (prefix other base) new new
    (subst (λ n. AreEqual (take n above) (take count other)) (sym same) (AreEqual-take count above other equal)) (AreEqual-refl new)

-- a name that moves stays directly below its parent, which moves too
pub moved_child : (name other base new : List (List TypeAndValue)) → length base < length name → IsChild name other → IsChild (moved_name name base new) (moved_name other base new)
moved_child [] other base new longer child = absurd (omega arith)
moved_child (rdn ∷ above) other base new longer child =
    let count = length above - length base in
    let next : length (rdn ∷ above) - length base ≡ suc count = omega (arith, longer) in
    let same : moved_name (rdn ∷ above) base new ≡ rdn ∷ moved_name above base new = ap (λ n. take n (rdn ∷ above) ++ new) next in
    let equal = prefix_child above other base new child.equal in
    subst (λ moved. IsChild moved (moved_name other base new)) (sym same)
    (record { long = ap suc (length-AreEqual (moved_name above base new) (moved_name other base new) equal); equal = equal })

-- the base itself takes the new name
pub moved_base : (name base new : List (List TypeAndValue)) → length name ≡ length base → moved_name name base new ≡ new
moved_base name base new same = let none : length name - length base ≡ 0 = omega (arith, same) in ap (λ n. take n name ++ new) none
