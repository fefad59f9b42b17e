-- Names are equal exactly where the sets of their pairs are.
use Rattle.std.proofs.Common.{◌≡◌, ◌⊎◌, ℕ, suc, ◌<◌, ◌≤◌, true, ◌&&◌, nat_eq, nat_le, List, [], ◌∷◌, ◌++◌, length, map, fold, Some, None, is_some, refl, sym, ◌∙◌, ap, arith, inl, inr, subst, not}
use Rattle.std.specs.Ordering.{nat_cmp}
use Rattle.std.specs.Cmp.Lexicographic.{slice_cmp, pointwise, bytes_decides}
use Rattle.std.specs.BTreeSet.{insert_key}
use Rattle.std.specs.List.{list_all, list_any, zip, AllPass}
use Rattle.std.proofs.lemmas.Cmp.{nat_list_cmp_total}
use Rattle.std.proofs.lemmas.Map.Lookups.{exact_bytes}
use Rattle.std.proofs.lemmas.Bool.{and_parts, and_from, or_cases, or_left, or_right, eqb-true, eq-eqb, cases_lt}
use Rattle.std.proofs.lemmas.List.{get_or_past, length-map}
use Rattle.schema_rules.specs.Keys.{key_of, key_by}
use Rattle.schema_rules.specs.Schema.{types, no_type, type_rule, type_name, type_named}
use Rattle.schema_rules.specs.declared.types.Rule.TheVariants.{Operational}
use Rattle.schema_rules.proofs.Tables.{found_by_name}
use Rattle.dn_names.specs.Names.{TypeAndValue, pair_key, same_pair, has_pair, same_rdn, same_name}
use Rattle.dn_names.specs.Keys.{marked, pair_mark, pair_set, has_double}
use Rattle.dn_names.specs.Writing.{rdn_text}
use Rattle.dn_names.specs.Sound.{has_key, is_rdn, IsName}
use Rattle.dn_names.proofs.SortedLists.{In, Sorted, sorted-insert, new_or_old, new_is_in, old_is_in, same_members}
use Rattle.dn_names.proofs.KeyTexts.{marked-apart}

-- ---- a type that has keys is found by its name

past_the_table : (kind : ℕ) → 24 ≤ kind → type_rule kind ≡ Operational
unfolding types
past_the_table kind past = ap (λ row. row.rule) (get_or_past types kind no_type past)

-- a type whose value has a key is in the schema
pub keyed_below : (kind : ℕ) (value : List ℕ) → is_some (key_of kind value) ≡ true → kind < 24
unfolding key_of
keyed_below kind value keyed =
    elim (cases_lt kind 24) [
      | inl below ↦ below
      | inr past ↦ absurd (let none : key_by (type_rule kind) value ≡ None = rw (past_the_table kind past) refl in cc)
    ]

-- a type whose value has a key is found by its name
pub found_type : (kind : ℕ) (value : List ℕ) → is_some (key_of kind value) ≡ true → type_named (type_name kind) ≡ Some kind
found_type kind value keyed = found_by_name kind kind refl (keyed_below kind value keyed)

abbrev pub IsKnown : TypeAndValue → Type 0
IsKnown pair = type_named (type_name pair.kind) ≡ Some pair.kind

abbrev pub AreKnown : List TypeAndValue → Type 0
AreKnown [] = Unit {0}
AreKnown (pair ∷ pairs) = IsKnown pair × AreKnown pairs

-- pairs that have keys are of known types
pub known_pairs : (pairs : List TypeAndValue) → list_all has_key pairs ≡ true → AreKnown pairs
known_pairs [] keyed = tt
known_pairs (pair ∷ pairs) keyed =
    let both = and_parts (has_key pair) (list_all has_key pairs) keyed in
    (found_type pair.kind pair.value both.0, known_pairs pairs both.1)

-- ---- pairs and their marks

mark-from_same : (one other : TypeAndValue) → same_pair one other ≡ true → pair_mark one ≡ pair_mark other
mark-from_same one other same =
    let both = and_parts (nat_eq one.kind other.kind) (pointwise nat_eq (pair_key one) (pair_key other)) same in
    let kinds : one.kind ≡ other.kind = eqb-true one.kind other.kind both.0 in
    let keys : pair_key one ≡ pair_key other = (bytes_decides (pair_key one) (pair_key other)).0 both.1 in
    ap (λ kind. 1 ∷ (marked (type_name kind) ++ marked (pair_key one))) kinds ∙ ap (λ key. 1 ∷ (marked (type_name other.kind) ++ marked key)) keys

same-from_mark : (one other : TypeAndValue) → IsKnown one → IsKnown other → pair_mark one ≡ pair_mark other → same_pair one other ≡ true
same-from_mark one other known_one known_other same =
    let tails : marked (type_name one.kind) ++ marked (pair_key one) ≡ marked (type_name other.kind) ++ marked (pair_key other) = (cc) in
    let names = marked-apart (type_name one.kind) (type_name other.kind) (marked (pair_key one)) (marked (pair_key other)) tails in
    let keys = marked-apart (pair_key one) (pair_key other) [] [] (ap (λ text. text ++ []) names.1) in
    let found : Some one.kind ≡ Some other.kind = sym known_one ∙ ap type_named names.0 ∙ known_other in
    let kinds : one.kind ≡ other.kind = (cc) in
    and_from (nat_eq one.kind other.kind) (pointwise nat_eq (pair_key one) (pair_key other)) (eq-eqb one.kind other.kind kinds) ((bytes_decides (pair_key one) (pair_key other)).1 keys.0)

-- ---- sets of texts

-- the texts of pairs as a set: in ascending order, and each once
abbrev pub set_by : (TypeAndValue → List ℕ) → List TypeAndValue → List (List ℕ)
set_by text pairs = fold (insert_key (slice_cmp nat_cmp)) [] (map text pairs)

put_in : (texts set : List (List ℕ)) (m : List ℕ) → In m (fold (insert_key (slice_cmp nat_cmp)) set texts) → In m set ⊎ In m texts
put_in [] set m member = inl member
put_in (k ∷ ks) set m member =
    elim (put_in ks (insert_key (slice_cmp nat_cmp) set k) m member) [
      | inl early ↦ elim (new_or_old nat_list_cmp_total exact_bytes m k set early) [ inl new ↦ inr (inl new) | inr old ↦ inl old ]
      | inr late ↦ inr (inr late)
    ]

kept_in : (texts set : List (List ℕ)) (m : List ℕ) → In m set ⊎ In m texts → In m (fold (insert_key (slice_cmp nat_cmp)) set texts)
kept_in [] set m (inl early) = early
kept_in [] set m (inr late) = absurd late
kept_in (k ∷ ks) set m (inl early) = kept_in ks (insert_key (slice_cmp nat_cmp) set k) m (inl (old_is_in nat_list_cmp_total exact_bytes m k set early))
kept_in (k ∷ ks) set m (inr (inl first)) =
    kept_in ks (insert_key (slice_cmp nat_cmp) set k) m (inl (rw first (new_is_in nat_list_cmp_total exact_bytes k set)))
kept_in (k ∷ ks) set m (inr (inr rest)) = kept_in ks (insert_key (slice_cmp nat_cmp) set k) m (inr rest)

sorted-fold : (texts set : List (List ℕ)) → Sorted (slice_cmp nat_cmp) set → Sorted (slice_cmp nat_cmp) (fold (insert_key (slice_cmp nat_cmp)) set texts)
sorted-fold [] set sorted = sorted
sorted-fold (k ∷ ks) set sorted = sorted-fold ks (insert_key (slice_cmp nat_cmp) set k) (sorted-insert nat_list_cmp_total exact_bytes set k sorted)

-- a text of the set is that of a pair
pub from_texts : (text : TypeAndValue → List ℕ) (pairs : List TypeAndValue) (m : List ℕ) → In m (set_by text pairs) → In m (map text pairs)
from_texts text pairs m member = elim (put_in (map text pairs) [] m member) [ inl none ↦ absurd none | inr there ↦ there ]

-- the text of each pair is in the set
pub into_texts : (text : TypeAndValue → List ℕ) (pairs : List TypeAndValue) (m : List ℕ) → In m (map text pairs) → In m (set_by text pairs)
into_texts text pairs m member = kept_in (map text pairs) [] m (inr member)

-- ---- names

abbrev pub AllKnown : List (List TypeAndValue) → Type 0
AllKnown [] = Unit {0}
AllKnown (rdn ∷ rdns) = AreKnown rdn × AllKnown rdns

-- each pair of an RDN has a key
pub rdn-keyed : (rdn : List TypeAndValue) → is_rdn rdn ≡ true → list_all has_key rdn ≡ true
rdn-keyed rdn sound =
    let rest = and_parts (not (nat_eq (length rdn) 0)) (list_all has_key rdn && (not (has_double rdn) && nat_le (length (rdn_text rdn)) 1024)) sound in
    (and_parts (list_all has_key rdn) (not (has_double rdn) && nat_le (length (rdn_text rdn)) 1024) rest.1).0

-- so are all pairs of a name
pub known_name : (name : List (List TypeAndValue)) → AllPass is_rdn name → AllKnown name
known_name [] sound = tt
known_name (rdn ∷ rdns) sound =
    (known_pairs rdn (rdn-keyed rdn (sound 0 rdn (omega arith))), known_name rdns (λ k d within. sound (suc k) d (omega arith)))

-- ---- pairs that have one text exactly where they match

module _ (text : TypeAndValue → List ℕ)
    (matching_text : (one other : TypeAndValue) → same_pair one other ≡ true → text one ≡ text other)
    (text_matches : (one other : TypeAndValue) → IsKnown one → IsKnown other → text one ≡ text other → same_pair one other ≡ true) where
  text_is_in : (pairs : List TypeAndValue) (pair : TypeAndValue) → has_pair pairs pair ≡ true → In (text pair) (map text pairs)
  text_is_in [] pair has = (cc)
  text_is_in (p ∷ ps) pair has =
      elim (or_cases (same_pair pair p) (list_any (same_pair pair) ps) has) [
        | inl first ↦ inl (matching_text pair p first)
        | inr rest ↦ inr (text_is_in ps pair rest)
      ]

  pair_is_in : (pairs : List TypeAndValue) (pair : TypeAndValue) → IsKnown pair → AreKnown pairs → In (text pair) (map text pairs) → has_pair pairs pair ≡ true
  pair_is_in [] pair known are member = absurd member
  pair_is_in (p ∷ ps) pair known are (inl first) = or_left (same_pair pair p) (list_any (same_pair pair) ps) (text_matches pair p known are.0 first)
  pair_is_in (p ∷ ps) pair known are (inr rest) = or_right (same_pair pair p) (list_any (same_pair pair) ps) (pair_is_in ps pair known are.1 rest)

  texts_are_in : (pairs wanted : List TypeAndValue) → list_all (has_pair pairs) wanted ≡ true → (m : List ℕ) → In m (map text wanted) → In m (map text pairs)
  texts_are_in pairs [] all m member = absurd member
  texts_are_in pairs (w ∷ ws) all m (inl first) =
      rw first (text_is_in pairs w (and_parts (has_pair pairs w) (list_all (has_pair pairs) ws) all).0)
  texts_are_in pairs (w ∷ ws) all m (inr rest) =
      texts_are_in pairs ws (and_parts (has_pair pairs w) (list_all (has_pair pairs) ws) all).1 m rest

  pairs_are_in : (pairs wanted : List TypeAndValue) → AreKnown pairs → AreKnown wanted → ((m : List ℕ) → In m (map text wanted) → In m (map text pairs)) → list_all (has_pair pairs) wanted ≡ true
  pairs_are_in pairs [] known known_wanted all = refl
  pairs_are_in pairs (w ∷ ws) known known_wanted all =
      and_from (has_pair pairs w) (list_all (has_pair pairs) ws) (pair_is_in pairs w known_wanted.0 known (all (text w) (inl refl)))
      (pairs_are_in pairs ws known known_wanted.1 (λ m member. all m (inr member)))

  sets-from_same : (one other : List TypeAndValue) → same_rdn one other ≡ true → set_by text one ≡ set_by text other
  sets-from_same one other same =
      let both = and_parts (list_all (has_pair other) one) (list_all (has_pair one) other) same in
      same_members nat_list_cmp_total exact_bytes (set_by text one) (set_by text other) (sorted-fold (map text one) [] tt) (sorted-fold (map text other) [] tt)
      (λ m member. into_texts text other m (texts_are_in other one both.0 m (from_texts text one m member)))
      (λ m member. into_texts text one m (texts_are_in one other both.1 m (from_texts text other m member)))

  same-from_sets : (one other : List TypeAndValue) → AreKnown one → AreKnown other → set_by text one ≡ set_by text other → same_rdn one other ≡ true
  same-from_sets one other known_one known_other sets =
      and_from (list_all (has_pair other) one) (list_all (has_pair one) other)
      (pairs_are_in other one known_other known_one (λ m member. from_texts text other m (let P : List (List ℕ) → Type 0 = λ set. In m set in subst P sets (into_texts text one m member))))
      (pairs_are_in one other known_one known_other (λ m member. from_texts text one m (let P : List (List ℕ) → Type 0 = λ set. In m set in subst P (sym sets) (into_texts text other m member))))

  all_sets-from_same : (one other : List (List TypeAndValue)) → length one ≡ length other → list_all (λ rdns. same_rdn rdns.0 rdns.1) (zip one other) ≡ true → map (set_by text) one ≡ map (set_by text) other
  all_sets-from_same [] [] long same = refl
  all_sets-from_same [] (q ∷ qs) long same = absurd (omega arith)
  all_sets-from_same (r ∷ rs) [] long same = absurd (omega arith)
  all_sets-from_same (r ∷ rs) (q ∷ qs) long same =
      let both = and_parts (same_rdn r q) (list_all (λ rdns. same_rdn rdns.0 rdns.1) (zip rs qs)) same in
      let first : set_by text r ≡ set_by text q = sets-from_same r q both.0 in
      let rest : map (set_by text) rs ≡ map (set_by text) qs = all_sets-from_same rs qs (omega arith) both.1 in
      cc

  all_same-from_sets : (one other : List (List TypeAndValue)) → AllKnown one → AllKnown other → map (set_by text) one ≡ map (set_by text) other → list_all (λ rdns. same_rdn rdns.0 rdns.1) (zip one other) ≡ true
  all_same-from_sets [] other known_one known_other sets = refl
  all_same-from_sets (r ∷ rs) [] known_one known_other sets = refl
  all_same-from_sets (r ∷ rs) (q ∷ qs) known_one known_other sets =
      let first : set_by text r ≡ set_by text q = (cc) in
      let rest : map (set_by text) rs ≡ map (set_by text) qs = (cc) in
      and_from (same_rdn r q) (list_all (λ rdns. same_rdn rdns.0 rdns.1) (zip rs qs)) (same-from_sets r q known_one.0 known_other.0 first)
      (all_same-from_sets rs qs known_one.1 known_other.1 rest)

  -- equal names have the same sets of texts
  pub sets_by-from_same : (one other : List (List TypeAndValue)) → same_name one other ≡ true → map (set_by text) one ≡ map (set_by text) other
  sets_by-from_same one other same =
      let both = and_parts (nat_eq (length one) (length other)) (list_all (λ rdns. same_rdn rdns.0 rdns.1) (zip one other)) same in
      all_sets-from_same one other (eqb-true (length one) (length other) both.0) both.1

  -- names with the same sets of texts are equal
  pub same-from_sets_by : (one other : List (List TypeAndValue)) → IsName one → IsName other → map (set_by text) one ≡ map (set_by text) other → same_name one other ≡ true
  same-from_sets_by one other sound_one sound_other sets =
      let long : length one ≡ length other = sym (length-map one (set_by text)) ∙ ap length sets ∙ length-map other (set_by text) in
      and_from (nat_eq (length one) (length other)) (list_all (λ rdns. same_rdn rdns.0 rdns.1) (zip one other)) (eq-eqb (length one) (length other) long)
      (all_same-from_sets one other (known_name one sound_one.rdns) (known_name other sound_other.rdns) sets)

-- ---- names

-- equal names have the same sets of pairs
pub sets-from_same_name : (one other : List (List TypeAndValue)) → same_name one other ≡ true → map pair_set one ≡ map pair_set other
sets-from_same_name one other same = sets_by-from_same pair_mark mark-from_same same-from_mark one other same

-- names with the same sets of pairs are equal
pub same_name-from_sets : (one other : List (List TypeAndValue)) → IsName one → IsName other → map pair_set one ≡ map pair_set other → same_name one other ≡ true
same_name-from_sets one other sound_one sound_other sets = same-from_sets_by pair_mark mark-from_same same-from_mark one other sound_one sound_other sets
