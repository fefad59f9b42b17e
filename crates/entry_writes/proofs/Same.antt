-- An entry is one with itself, and entries that are one are equal.
use Rattle.std.proofs.Common.{◌≡◌, ℕ, Bool, true, nat_eq, List, [], ◌∷◌, length, zip, Option, Some, None, refl, ap, arith}
use Rattle.std.specs.List.{list_all}
use Rattle.std.proofs.lemmas.Bool.{eqb-true, eq-eqb, and_from, and_parts}
use Rattle.std.proofs.lemmas.Slice.Eq.{bytes_eq-Decides, slice_eq-Decides}
use Rattle.std.proofs.Common.{bytes_eq}
use Rattle.ldap_ber.specs.Octets.{lists_eq}
use Rattle.schema_rules.specs.declared.attributes.Attribute.{Attribute}
use Rattle.csn_cookie.specs.Csn.{CsnValue}
use Rattle.dn_names.specs.Names.{TypeAndValue}
use Rattle.entry_writes.specs.declared.entry.Entry.{Entry}
use Rattle.entry_writes.specs.Bytes as spec

all_zip : {X : Type 0} (is_one : X → X → Bool) → ((x : X) → is_one x x ≡ true) → (xs : List X) → list_all (λ items. is_one items.0 items.1) (zip xs xs) ≡ true
all_zip is_one same [] = refl
all_zip is_one same (x ∷ xs) = and_from (is_one x x) (list_all (λ items. is_one items.0 items.1) (zip xs xs)) (same x) (all_zip is_one same xs)

each_one_same : {X : Type 0} (is_one : X → X → Bool) → ((x : X) → is_one x x ≡ true) → (xs : List X) → spec.each_one is_one xs xs ≡ true
each_one_same is_one same xs = and_from (nat_eq (length xs) (length xs)) _ (eq-eqb (length xs) (length xs) refl) (all_zip is_one same xs)

numbers_same : (n : ℕ) → nat_eq n n ≡ true
numbers_same n = eq-eqb n n refl

-- bytes are the same as themselves
pub bytes_same : (bytes : List ℕ) → bytes_eq bytes bytes ≡ true
bytes_same [] = refl
bytes_same (b ∷ bytes) = and_from (nat_eq b b) (bytes_eq bytes bytes) (numbers_same b) (bytes_same bytes)

lists_same : (lists : List (List ℕ)) → lists_eq lists lists ≡ true
lists_same [] = refl
lists_same (bytes ∷ lists) = and_from (bytes_eq bytes bytes) (lists_eq lists lists) (bytes_same bytes) (lists_same lists)

csn_same : (s : CsnValue) → spec.is_one_csn s s ≡ true
csn_same s =
    and_from (nat_eq s.micros s.micros) _ (numbers_same s.micros)
    (and_from (nat_eq s.count s.count) _ (numbers_same s.count)
    (and_from (nat_eq s.sid s.sid) (nat_eq s.part s.part) (numbers_same s.sid) (numbers_same s.part)))

pair_same : (p : TypeAndValue) → spec.is_one_pair p p ≡ true
pair_same p = and_from (nat_eq p.kind p.kind) (bytes_eq p.value p.value) (numbers_same p.kind) (bytes_same p.value)

attribute_same : (a : Attribute) → spec.is_one_attribute a a ≡ true
attribute_same a = and_from (nat_eq a.kind a.kind) (lists_eq a.values a.values) (numbers_same a.kind) (lists_same a.values)

-- each entry is compared as one with itself
pub entry_same : (e : Entry) → spec.is_one_entry e e ≡ true
entry_same e =
    and_from (nat_eq e.uuid e.uuid) _ (numbers_same e.uuid)
    (and_from (spec.is_one_csn e.csn e.csn) _ (csn_same e.csn)
    (and_from (spec.is_one_name e.dn e.dn) (spec.is_one_list e.attrs e.attrs)
    (each_one_same spec.is_one_rdn (each_one_same spec.is_one_pair pair_same) e.dn)
    (each_one_same spec.is_one_attribute attribute_same e.attrs)))

-- ---- entries that are one

zip-true : {X : Type 0} (is_one : X → X → Bool) → ((one other : X) → is_one one other ≡ true → one ≡ other) → (xs ys : List X) → nat_eq (length xs) (length ys) ≡ true
    → list_all (λ items. is_one items.0 items.1) (zip xs ys) ≡ true → xs ≡ ys
zip-true is_one same [] [] long all = refl
zip-true is_one same [] (y ∷ ys) long all = let far : 0 ≡ length (y ∷ ys) = eqb-true 0 (length (y ∷ ys)) long in absurd (omega (arith, far))
zip-true is_one same (x ∷ xs) [] long all = let far : length (x ∷ xs) ≡ 0 = eqb-true (length (x ∷ xs)) 0 long in absurd (omega (arith, far))
zip-true is_one same (x ∷ xs) (y ∷ ys) long all =
    let parts = and_parts (is_one x y) (list_all (λ items. is_one items.0 items.1) (zip xs ys)) all in
    let first : x ≡ y = same x y parts.0 in
    let long_too : length (x ∷ xs) ≡ length (y ∷ ys) = eqb-true (length (x ∷ xs)) (length (y ∷ ys)) long in
    let rest : xs ≡ ys = zip-true is_one same xs ys (eq-eqb (length xs) (length ys) (omega (arith, long_too))) parts.1 in
    λ i. first i ∷ rest i

each_one-true : {X : Type 0} (is_one : X → X → Bool) → ((one other : X) → is_one one other ≡ true → one ≡ other) → (xs ys : List X) → spec.each_one is_one xs ys ≡ true → xs ≡ ys
each_one-true is_one same xs ys h =
    let parts = and_parts (nat_eq (length xs) (length ys)) (list_all (λ items. is_one items.0 items.1) (zip xs ys)) h in
    zip-true is_one same xs ys parts.0 parts.1

csn-true : (one other : CsnValue) → spec.is_one_csn one other ≡ true → one ≡ other
csn-true one other h =
    let p = and_parts (nat_eq one.micros other.micros) _ h in
    let q = and_parts (nat_eq one.count other.count) _ p.1 in
    let r = and_parts (nat_eq one.sid other.sid) (nat_eq one.part other.part) q.1 in
    let micros : one.micros ≡ other.micros = eqb-true _ _ p.0 in
    let count : one.count ≡ other.count = eqb-true _ _ q.0 in
    let sid : one.sid ≡ other.sid = eqb-true _ _ r.0 in
    let part : one.part ≡ other.part = eqb-true _ _ r.1 in
    λ i. record { micros = micros i; count = count i; sid = sid i; part = part i }

pair-true : (one other : TypeAndValue) → spec.is_one_pair one other ≡ true → one ≡ other
pair-true one other h =
    let p = and_parts (nat_eq one.kind other.kind) (bytes_eq one.value other.value) h in
    let kind : one.kind ≡ other.kind = eqb-true _ _ p.0 in
    let value : one.value ≡ other.value = (bytes_eq-Decides one.value other.value).0 p.1 in
    λ i. record { kind = kind i; value = value i }

attribute-true : (one other : Attribute) → spec.is_one_attribute one other ≡ true → one ≡ other
attribute-true one other h =
    let p = and_parts (nat_eq one.kind other.kind) (lists_eq one.values other.values) h in
    let kind : one.kind ≡ other.kind = eqb-true _ _ p.0 in
    let values : one.values ≡ other.values = (slice_eq-Decides bytes_eq-Decides one.values other.values (lists_eq one.values other.values) refl).0 p.1 in
    λ i. record { kind = kind i; values = values i }

-- entries that are compared as one are equal
pub one_entry-true : (one other : Entry) → spec.is_one_entry one other ≡ true → one ≡ other
one_entry-true one other h =
    let p = and_parts (nat_eq one.uuid other.uuid) _ h in
    let q = and_parts (spec.is_one_csn one.csn other.csn) _ p.1 in
    let r = and_parts (spec.is_one_name one.dn other.dn) (spec.is_one_list one.attrs other.attrs) q.1 in
    let uuid : one.uuid ≡ other.uuid = eqb-true _ _ p.0 in
    let csn : one.csn ≡ other.csn = csn-true one.csn other.csn q.0 in
    let dn : one.dn ≡ other.dn = each_one-true spec.is_one_rdn (each_one-true spec.is_one_pair pair-true) one.dn other.dn r.0 in
    let attrs : one.attrs ≡ other.attrs = each_one-true spec.is_one_attribute attribute-true one.attrs other.attrs r.1 in
    λ i. record { uuid = uuid i; csn = csn i; dn = dn i; attrs = attrs i }

-- two entries or none that are compared as one are equal
pub one_found-true : (one other : Option Entry) → spec.is_one_found one other ≡ true → one ≡ other
one_found-true None None h = refl
one_found-true None (Some other) h = cc
one_found-true (Some one) None h = cc
one_found-true (Some one) (Some other) h = ap Some (one_entry-true one other h)

-- an entry or none is compared as one with itself
pub one_found-same : (found : Option Entry) → spec.is_one_found found found ≡ true
one_found-same None = refl
one_found-same (Some entry) = entry_same entry
