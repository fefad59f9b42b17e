-- Names that are equal, one RDN with the other.
use Rattle.std.proofs.Common.{◌≡◌, ℕ, zero, suc, true, nat_eq, List, [], ◌∷◌, ◌++◌, length, take, drop, refl, ap, ◌∙◌, inl, inr, arith}
use Rattle.std.specs.Prelude.{⊤, bytes_eq}
use Rattle.std.specs.Cmp.Lexicographic.{bytes_decides}
use Rattle.std.specs.List.{list_all, zip}
use Rattle.std.proofs.lemmas.Bool.{and_parts, and_from, or_cases, or_left, or_right, eqb-true, eq-eqb}
use Rattle.dn_names.specs.Names.{TypeAndValue, pair_key, same_pair, has_pair, same_rdn, same_name}

-- ---- pairs

pair_parts : (p q : TypeAndValue) → same_pair p q ≡ true → (p.kind ≡ q.kind) × (pair_key p ≡ pair_key q)
pair_parts p q same =
    let both = and_parts (nat_eq p.kind q.kind) (bytes_eq (pair_key p) (pair_key q)) same in
    (eqb-true p.kind q.kind both.0, (bytes_decides (pair_key p) (pair_key q)).0 both.1)

pair_from : (p q : TypeAndValue) → p.kind ≡ q.kind → pair_key p ≡ pair_key q → same_pair p q ≡ true
pair_from p q kinds keys =
    and_from (nat_eq p.kind q.kind) (bytes_eq (pair_key p) (pair_key q)) (eq-eqb p.kind q.kind kinds) ((bytes_decides (pair_key p) (pair_key q)).1 keys)

pair_trans : (p q r : TypeAndValue) → same_pair p q ≡ true → same_pair q r ≡ true → same_pair p r ≡ true
pair_trans p q r first second =
    let one = pair_parts p q first in
    let two = pair_parts q r second in
    pair_from p r (one.0 ∙ two.0) (one.1 ∙ two.1)

-- ---- RDNs

has_like : (pairs : List TypeAndValue) (p q : TypeAndValue) → same_pair p q ≡ true → has_pair pairs q ≡ true → has_pair pairs p ≡ true
has_like [] p q same has = absurd (cc)
has_like (r ∷ pairs) p q same has =
    elim (or_cases (same_pair q r) (has_pair pairs q) has) [
      | inl first ↦ or_left (same_pair p r) (has_pair pairs p) (pair_trans p q r same first)
      | inr rest ↦ or_right (same_pair p r) (has_pair pairs p) (has_like pairs p q same rest)
    ]

-- equality goes through the RDN in the middle
pub has_through : (middle last : List TypeAndValue) (p : TypeAndValue) → has_pair middle p ≡ true → list_all (has_pair last) middle ≡ true → has_pair last p ≡ true
has_through [] last p has all = absurd (cc)
has_through (q ∷ middle) last p has all =
    let parts = and_parts (has_pair last q) (list_all (has_pair last) middle) all in
    elim (or_cases (same_pair p q) (has_pair middle p) has) [
      | inl first ↦ has_like last p q first parts.0
      | inr rest ↦ has_through middle last p rest parts.1
    ]

-- each pair that is among some is among those that have these
pub all_through : (pairs middle last : List TypeAndValue) → list_all (has_pair middle) pairs ≡ true → list_all (has_pair last) middle ≡ true → list_all (has_pair last) pairs ≡ true
all_through [] middle last one two = refl
all_through (p ∷ pairs) middle last one two =
    let parts = and_parts (has_pair middle p) (list_all (has_pair middle) pairs) one in
    and_from (has_pair last p) (list_all (has_pair last) pairs) (has_through middle last p parts.0 two) (all_through pairs middle last parts.1 two)

all_within : (pairs whole : List TypeAndValue) → ((p : TypeAndValue) → has_pair pairs p ≡ true → has_pair whole p ≡ true) → list_all (has_pair whole) pairs ≡ true
all_within [] whole within = refl
all_within (p ∷ pairs) whole within =
    and_from (has_pair whole p) (list_all (has_pair whole) pairs) (within p (or_left (same_pair p p) (has_pair pairs p) (pair_from p p refl refl)))
    (all_within pairs whole (λ q rest. within q (or_right (same_pair q p) (has_pair pairs q) rest)))

-- an RDN is equal to itself
pub rdn_same : (rdn : List TypeAndValue) → same_rdn rdn rdn ≡ true
rdn_same rdn =
    let all = all_within rdn rdn (λ p has. has) in
    and_from (list_all (has_pair rdn) rdn) (list_all (has_pair rdn) rdn) all all

rdn_sym : (one other : List TypeAndValue) → same_rdn one other ≡ true → same_rdn other one ≡ true
rdn_sym one other same =
    let both = and_parts (list_all (has_pair other) one) (list_all (has_pair one) other) same in
    and_from (list_all (has_pair one) other) (list_all (has_pair other) one) both.1 both.0

-- an RDN that is equal to one is equal to what this is equal to
pub rdn_trans : (one other third : List TypeAndValue) → same_rdn one other ≡ true → same_rdn other third ≡ true → same_rdn one third ≡ true
rdn_trans one other third first second =
    let a = and_parts (list_all (has_pair other) one) (list_all (has_pair one) other) first in
    let b = and_parts (list_all (has_pair third) other) (list_all (has_pair other) third) second in
    and_from (list_all (has_pair third) one) (list_all (has_pair one) third) (all_through one other third a.0 b.0) (all_through third other one b.1 a.1)

-- ---- names

-- names with as many RDNs, of which each two at one place match
abbrev pub AreEqual : (one other : List (List TypeAndValue)) → Type 0
AreEqual [] [] = ⊤
AreEqual [] (q ∷ other) = ⊥
AreEqual (r ∷ one) [] = ⊥
AreEqual (r ∷ one) (q ∷ other) = (same_rdn r q ≡ true) × AreEqual one other

AreEqual-zip : (one other : List (List TypeAndValue)) → length one ≡ length other → list_all (λ rdns. same_rdn rdns.0 rdns.1) (zip one other) ≡ true → AreEqual one other
AreEqual-zip [] [] long all = tt
AreEqual-zip [] (q ∷ other) long all = absurd (omega arith)
AreEqual-zip (r ∷ one) [] long all = absurd (omega arith)
AreEqual-zip (r ∷ one) (q ∷ other) long all =
    let both = and_parts (same_rdn r q) (list_all (λ rdns. same_rdn rdns.0 rdns.1) (zip one other)) all in
    (both.0, AreEqual-zip one other (omega arith) both.1)

-- names that are tested as equal are so
pub AreEqual-same_name : (one other : List (List TypeAndValue)) → same_name one other ≡ true → AreEqual one other
AreEqual-same_name one other same =
    let both = and_parts (nat_eq (length one) (length other)) (list_all (λ rdns. same_rdn rdns.0 rdns.1) (zip one other)) same in
    AreEqual-zip one other (eqb-true (length one) (length other) both.0) both.1

-- equal names have as many RDNs
pub length-AreEqual : (one other : List (List TypeAndValue)) → AreEqual one other → length one ≡ length other
length-AreEqual [] [] equal = refl
length-AreEqual [] (q ∷ other) equal = absurd equal
length-AreEqual (r ∷ one) [] equal = absurd equal
length-AreEqual (r ∷ one) (q ∷ other) equal = ap suc (length-AreEqual one other equal.1)

zip-AreEqual : (one other : List (List TypeAndValue)) → AreEqual one other → list_all (λ rdns. same_rdn rdns.0 rdns.1) (zip one other) ≡ true
zip-AreEqual [] [] equal = refl
zip-AreEqual [] (q ∷ other) equal = absurd equal
zip-AreEqual (r ∷ one) [] equal = absurd equal
zip-AreEqual (r ∷ one) (q ∷ other) equal =
    and_from (same_rdn r q) (list_all (λ rdns. same_rdn rdns.0 rdns.1) (zip one other)) equal.0 (zip-AreEqual one other equal.1)

-- names that are equal are tested as equal
pub same_name-AreEqual : (one other : List (List TypeAndValue)) → AreEqual one other → same_name one other ≡ true
same_name-AreEqual one other equal =
    and_from (nat_eq (length one) (length other)) (list_all (λ rdns. same_rdn rdns.0 rdns.1) (zip one other))
    (eq-eqb (length one) (length other) (length-AreEqual one other equal)) (zip-AreEqual one other equal)

-- each name equals itself
pub AreEqual-refl : (name : List (List TypeAndValue)) → AreEqual name name
AreEqual-refl [] = tt
AreEqual-refl (rdn ∷ name) = (rdn_same rdn, AreEqual-refl name)

-- equality of names goes both ways
pub AreEqual-sym : (one other : List (List TypeAndValue)) → AreEqual one other → AreEqual other one
AreEqual-sym [] [] equal = tt
AreEqual-sym [] (q ∷ other) equal = absurd equal
AreEqual-sym (r ∷ one) [] equal = absurd equal
AreEqual-sym (r ∷ one) (q ∷ other) equal = (rdn_sym r q equal.0, AreEqual-sym one other equal.1)

-- names that equal one name are equal
pub AreEqual-trans : (one other third : List (List TypeAndValue)) → AreEqual one other → AreEqual other third → AreEqual one third
AreEqual-trans [] [] third first second = second
AreEqual-trans [] (q ∷ other) third first second = absurd first
AreEqual-trans (r ∷ one) [] third first second = absurd first
AreEqual-trans (r ∷ one) (q ∷ other) [] first second = absurd second
AreEqual-trans (r ∷ one) (q ∷ other) (s ∷ third) first second = (rdn_trans r q s first.0 second.0, AreEqual-trans one other third first.1 second.1)

-- equal names are equal without their first RDNs
pub AreEqual-drop : (count : ℕ) (one other : List (List TypeAndValue)) → AreEqual one other → AreEqual (drop count one) (drop count other)
AreEqual-drop zero one other equal = equal
AreEqual-drop (suc count) [] [] equal = tt
AreEqual-drop (suc count) [] (q ∷ other) equal = absurd equal
AreEqual-drop (suc count) (r ∷ one) [] equal = absurd equal
AreEqual-drop (suc count) (r ∷ one) (q ∷ other) equal = AreEqual-drop count one other equal.1

-- the first RDNs of equal names are equal
pub AreEqual-take : (count : ℕ) (one other : List (List TypeAndValue)) → AreEqual one other → AreEqual (take count one) (take count other)
AreEqual-take zero one other equal = tt
AreEqual-take (suc count) [] [] equal = tt
AreEqual-take (suc count) [] (q ∷ other) equal = absurd equal
AreEqual-take (suc count) (r ∷ one) [] equal = absurd equal
AreEqual-take (suc count) (r ∷ one) (q ∷ other) equal = (equal.0, AreEqual-take count one other equal.1)

-- names of equal parts are equal
pub AreEqual-append : (prefix other_prefix back other_back : List (List TypeAndValue)) → AreEqual prefix other_prefix → AreEqual back other_back → AreEqual (prefix ++ back) (other_prefix ++ other_back)
AreEqual-append [] [] back other_back prefixes backs = backs
AreEqual-append [] (q ∷ other_prefix) back other_back prefixes backs = absurd prefixes
AreEqual-append (r ∷ prefix) [] back other_back prefixes backs = absurd prefixes
AreEqual-append (r ∷ prefix) (q ∷ other_prefix) back other_back prefixes backs = (prefixes.0, AreEqual-append prefix other_prefix back other_back prefixes.1 backs)

-- ---- as a whole

-- each name is tested as equal to itself
pub name_refl : (name : List (List TypeAndValue)) → same_name name name ≡ true
name_refl name = same_name-AreEqual name name (AreEqual-refl name)

-- the test of equality of names goes both ways
pub name_sym : (one other : List (List TypeAndValue)) → same_name one other ≡ true → same_name other one ≡ true
name_sym one other same = same_name-AreEqual other one (AreEqual-sym one other (AreEqual-same_name one other same))

-- and goes through a name between
pub name_trans : (one other third : List (List TypeAndValue)) → same_name one other ≡ true → same_name other third ≡ true → same_name one third ≡ true
name_trans one other third first second =
    same_name-AreEqual one third (AreEqual-trans one other third (AreEqual-same_name one other first) (AreEqual-same_name other third second))
