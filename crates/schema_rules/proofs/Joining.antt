-- One more value in a list of attributes, by the place of its type.
use Rattle.std.proofs.Common.{◌≡◌, ◌≢◌, ℕ, zero, suc, ◌+◌, ◌<◌, ◌≤◌, Bool, true, false, not, ◌&&◌, cond, nat_eq, nat_lt, List, [], ◌∷◌, ◌++◌, length, map, get_or, set, Option, Some, None, ap, sym, ◌∙◌, refl, arith}
use Rattle.std.specs.List.{position, position_or_len, list_all, AllPairs}
use Rattle.std.proofs.Math.ListN.{get_or-map}
use Rattle.std.proofs.Math.Seq.{map-set_same}
use Rattle.std.proofs.lemmas.Bool.{ltb-false, eqb-true, eq-eqb, false≢true, and_parts}
use Rattle.std.proofs.lemmas.List.{length-map}
use Rattle.std.proofs.lemmas.List.Elements.{All-push, All-set, All-get_or}
use Rattle.std.proofs.lemmas.List.Folds.{list_all-append}
use Rattle.std.proofs.lemmas.List.Sums.{fails_before_first}
use Rattle.std.proofs.lemmas.List.Quantifiers.{position-Some, all_pairs_push}
use Rattle.schema_rules.specs.declared.attributes.Attribute.{Attribute}
use Rattle.schema_rules.specs.Attributes.{with_values, is_given, IsAttributeList, is_of_syntax}
use Rattle.schema_rules.specs.Schema.{is_operational}

abbrev is_of : ℕ → Attribute → Bool
is_of kind a = nat_eq a.kind kind

-- the attribute with more values
abbrev grown : Attribute → List (List ℕ) → Attribute
grown a values = record { kind = a.kind; values = a.values ++ values }

abbrev fresh : ℕ → List (List ℕ) → Attribute
fresh kind values = record { kind = kind; values = values }

at_place : (xs : List Attribute) (kind : ℕ) (values : List (List ℕ)) (i : ℕ) (d : Attribute) → i < length xs → is_of kind (get_or xs i d) ≡ true
    → ((k : ℕ) → k < i → is_of kind (get_or xs k d) ≡ false) → with_values xs kind values ≡ set xs i (grown (get_or xs i d) values)
at_place [] kind values i d low here before = absurd (omega arith)
at_place (a ∷ rest) kind values zero d low here before = ap (λ b. cond b (grown a values ∷ rest) (a ∷ with_values rest kind values)) here
at_place (a ∷ rest) kind values (suc i) d low here before =
    ap (λ b. cond b (grown a values ∷ rest) (a ∷ with_values rest kind values)) (before 0 (omega arith))
    ∙ ap (λ xs. a ∷ xs) (at_place rest kind values i d (omega arith) here (λ k h. before (suc k) (omega arith)))

-- the type is there
pub with_values-found : (xs : List Attribute) (kind : ℕ) (values : List (List ℕ)) (i : ℕ) (d : Attribute) → position (is_of kind) xs ≡ Some i
    → with_values xs kind values ≡ set xs i (grown (get_or xs i d) values)
with_values-found xs kind values i d found =
    let p = position-Some (is_of kind) xs i d found in
    at_place xs kind values i d p.0 p.1 p.2

-- what `at_end` says of a list with this first attribute
abbrev IsLastAt : Attribute → List Attribute → ℕ → List (List ℕ) → Bool → Type 0
IsLastAt a rest kind values b =
    length (a ∷ rest) ≤ cond (not b) (1 + position_or_len (is_of kind) rest) 0
    → cond b (grown a values ∷ rest) (a ∷ with_values rest kind values) ≡ a ∷ (rest ++ fresh kind values ∷ [])

at_end : (xs : List Attribute) (kind : ℕ) (values : List (List ℕ)) → length xs ≤ position_or_len (is_of kind) xs → with_values xs kind values ≡ xs ++ fresh kind values ∷ []
at_end [] kind values none = refl
at_end (a ∷ rest) kind values none = by (is_of kind a) (at_end rest kind values) none
  where
    by : (b : Bool) → (length rest ≤ position_or_len (is_of kind) rest → with_values rest kind values ≡ rest ++ fresh kind values ∷ []) → IsLastAt a rest kind values b
    by true shorter long = absurd (omega arith)
    by false shorter long = ap (λ xs. a ∷ xs) (shorter (omega arith))

-- a place that is not within the list is past its end
pub none_long : (m l : ℕ) → cond (nat_lt m l) (Some m) None ≡ None → l ≤ m
none_long m l none = by (nat_lt m l) refl none
  where
    by : (b : Bool) → nat_lt m l ≡ b → cond b (Some m) None ≡ None → l ≤ m
    by true e h = absurd (cc)
    by false e h = ltb-false m l e

-- the type is not there
pub with_values-absent : (xs : List Attribute) (kind : ℕ) (values : List (List ℕ)) → position (is_of kind) xs ≡ None
    → with_values xs kind values ≡ xs ++ fresh kind values ∷ []
with_values-absent xs kind values none = at_end xs kind values (none_long _ _ none)

-- ---- what more values keep

kind_of : Attribute → ℕ
kind_of a = a.kind

kinds_same : (xs ys : List Attribute) → map kind_of ys ≡ map kind_of xs → AllPairs (λ (a b : Attribute). a.kind ≢ b.kind) xs → AllPairs (λ (a b : Attribute). a.kind ≢ b.kind) ys
unfolding kind_of
kinds_same xs ys same once i j d before within e =
    let long : length ys ≡ length xs = sym (length-map ys kind_of) ∙ ap length same ∙ length-map xs kind_of in
    once i j d before (omega arith) (at i ∙ e ∙ sym (at j))
  where
    at : (k : ℕ) → (get_or xs k d).kind ≡ (get_or ys k d).kind
    at k = sym (get_or-map kind_of xs k d) ∙ ap (λ ks. get_or ks k d.kind) (sym same) ∙ get_or-map kind_of ys k d

append_filled : (xs ys : List (List ℕ)) → xs ≢ [] → (xs ++ ys) ≢ []
append_filled [] ys some = absurd (some refl)
append_filled (x ∷ xs) ys some = λ e. cc

fails_everywhere : (xs : List Attribute) (kind k : ℕ) (d : Attribute) → position (is_of kind) xs ≡ None → k < length xs → is_of kind (get_or xs k d) ≡ false
fails_everywhere xs kind k d none low =
    let long = none_long (position_or_len (is_of kind) xs) (length xs) none in
    fails_before_first (is_of kind) xs k d (omega arith)

-- a list of attributes with more values of one type is such a list
pub IsAttributeList-with_values : (xs : List Attribute) (kind : ℕ) (values : List (List ℕ)) → IsAttributeList xs → values ≢ [] → IsAttributeList (with_values xs kind values)
unfolding kind_of
IsAttributeList-with_values xs kind values list some = by (position (is_of kind) xs) refl
  where
    differ : (k : ℕ) (d : Attribute) → is_of kind (get_or xs k d) ≡ false → (get_or xs k d).kind ≢ kind
    differ k d fails e = absurd (false≢true (sym fails ∙ eq-eqb _ _ e))

    by : (o : Option ℕ) → position (is_of kind) xs ≡ o → IsAttributeList (with_values xs kind values)
    by None e =
        rw (with_values-absent xs kind values e) (record {
          once = all_pairs_push (λ (a b : Attribute). a.kind ≢ b.kind) xs (fresh kind values) list.once (λ k d low. differ k d (fails_everywhere xs kind k d e low));
          filled = All-push (λ (a : Attribute). a.values ≢ []) xs (fresh kind values) list.filled some;
        })
    by (Some i) e =
        let d = fresh kind values in
        let found = position-Some (is_of kind) xs i d e in
        rw (with_values-found xs kind values i d e) (record {
          once = kinds_same xs (set xs i (grown (get_or xs i d) values)) (map-set_same kind_of xs i (grown (get_or xs i d) values) d refl) list.once;
          filled = All-set (λ (a : Attribute). a.values ≢ []) xs i (grown (get_or xs i d) values)
              (append_filled (get_or xs i d).values values (All-get_or (λ (a : Attribute). a.values ≢ []) xs i d found.0 list.filled)) list.filled;
        })

both : (a b c : Bool) → (a && b) ≡ true → c ≡ true → (a && (b && c)) ≡ true
both true true c e h = h
both true false c e h = absurd (cc)
both false b c e h = absurd (cc)

is_given-grown : (a : Attribute) (kind : ℕ) (values : List (List ℕ)) → a.kind ≡ kind → is_given a ≡ true → is_given (fresh kind values) ≡ true → is_given (grown a values) ≡ true
is_given-grown a kind values same old new =
    let more : list_all (is_of_syntax a.kind) values ≡ true = ap (λ k. list_all (is_of_syntax k) values) same ∙ (and_parts (not (is_operational kind)) _ new).1 in
    ap (λ b. not (is_operational a.kind) && b) (list_all-append (is_of_syntax a.kind) a.values values)
    ∙ both (not (is_operational a.kind)) (list_all (is_of_syntax a.kind) a.values) _ old more

-- and clients may give it, where they may give both
pub is_given-with_values : (xs : List Attribute) (kind : ℕ) (values : List (List ℕ)) → list_all is_given xs ≡ true → is_given (fresh kind values) ≡ true
    → list_all is_given (with_values xs kind values) ≡ true
is_given-with_values [] kind values all given = ap (λ b. b && true) given
is_given-with_values (x ∷ xs) kind values all given = by (nat_eq x.kind kind) refl (is_given-with_values xs kind values (and_parts (is_given x) _ all).1 given)
  where
    by : (b : Bool) → nat_eq x.kind kind ≡ b → list_all is_given (with_values xs kind values) ≡ true
        → list_all is_given (cond b (grown x values ∷ xs) (x ∷ with_values xs kind values)) ≡ true
    by true e ih =
        ap (λ b. b && list_all is_given xs) (is_given-grown x kind values (eqb-true x.kind kind e) (and_parts (is_given x) _ all).0 given)
        ∙ (and_parts (is_given x) _ all).1
    by false e ih = ap (λ b. b && list_all is_given (with_values xs kind values)) (and_parts (is_given x) _ all).0 ∙ ih
