-- The key of a name reports its sets of pairs.
use Rattle.std.proofs.Common.{◌≡◌, ℕ, List, [], ◌∷◌, ◌++◌, map, fold, refl, sym, ◌∙◌, ap, arith, append_assoc}
use Rattle.std.specs.declared.cmp.Ordering.TheVariants.{Less, Equal, Greater}
use Rattle.std.specs.Ordering.{match_ordering, nat_cmp}
use Rattle.std.specs.Cmp.Lexicographic.{slice_cmp}
use Rattle.std.specs.BTreeSet.{insert_key}
use Rattle.std.specs.List.{flat_map}
use Rattle.schema_rules.specs.Schema.{type_name}
use Rattle.dn_names.specs.Names.{TypeAndValue, pair_key}
use Rattle.dn_names.specs.Keys.{marked, pair_mark, pair_set, rdn_key, name_key}

marks_differ : (a b : ℕ) → a ≡ 0 → b ≡ 1 → a ≡ b → ⊥
marks_differ a b zero one same = omega arith

-- two marked texts that begin one text are equal, and so is what follows them
pub marked-apart : (one other rest more : List ℕ) → marked one ++ rest ≡ marked other ++ more → (one ≡ other) × (rest ≡ more)
marked-apart [] [] rest more same = (refl, (cc))
marked-apart [] (b ∷ bs) rest more same = let first : 0 ≡ 1 = (cc) in absurd (marks_differ 0 1 refl refl first)
marked-apart (a ∷ as') [] rest more same = let first : 1 ≡ 0 = (cc) in absurd (marks_differ 0 1 refl refl (sym first))
marked-apart (a ∷ as') (b ∷ bs) rest more same =
    let first : a ≡ b = (cc) in
    let tails : marked as' ++ rest ≡ marked bs ++ more = (cc) in
    let later = marked-apart as' bs rest more tails in
    let prefix : as' ≡ bs = later.0 in
    ((cc), later.1)

-- the mark of a pair, and then two texts whose ends are marked
abbrev pub IsMark : List ℕ → Type 0
IsMark mark = (name : List ℕ) × (key : List ℕ) × (mark ≡ 1 ∷ (marked name ++ marked key))

abbrev pub AreMarks : List (List ℕ) → Type 0
AreMarks [] = Unit {0}
AreMarks (mark ∷ marks) = IsMark mark × AreMarks marks

marks-insert : (marks : List (List ℕ)) (mark : List ℕ) → AreMarks marks → IsMark mark → AreMarks (insert_key (slice_cmp nat_cmp) marks mark)
marks-insert [] mark are is = (is, tt)
marks-insert (m ∷ ms) mark are is =
    elim (slice_cmp nat_cmp mark m) as (λ o. AreMarks (match_ordering o (mark ∷ m ∷ ms) (m ∷ ms) (m ∷ insert_key (slice_cmp nat_cmp) ms mark)))
    [ Less ↦ (is, are) | Equal ↦ are | Greater ↦ (are.0, marks-insert ms mark are.1 is) ]

marks-fold : (marks : List (List ℕ)) (pairs : List TypeAndValue) → AreMarks marks → AreMarks (fold (insert_key (slice_cmp nat_cmp)) marks (map pair_mark pairs))
marks-fold marks [] are = are
marks-fold marks (pair ∷ pairs) are =
    marks-fold (insert_key (slice_cmp nat_cmp) marks (pair_mark pair)) pairs (marks-insert marks (pair_mark pair) are (type_name pair.kind, pair_key pair, refl))

-- each pair of a set has its mark
pub pair_set-marks : (pairs : List TypeAndValue) → AreMarks (pair_set pairs)
pair_set-marks pairs = marks-fold [] pairs tt

-- where a mark ends, and what follows it
mark-apart : (one other rest more : List ℕ) → IsMark one → IsMark other → one ++ rest ≡ other ++ more → (one ≡ other) × (rest ≡ more)
mark-apart one other rest more is_one is_other same =
    let left : one ++ rest ≡ 1 ∷ (marked is_one.0 ++ (marked is_one.1 ++ rest)) = rw is_one.2 (ap (λ t. 1 ∷ t) (append_assoc (marked is_one.0) (marked is_one.1) rest)) in
    let right : other ++ more ≡ 1 ∷ (marked is_other.0 ++ (marked is_other.1 ++ more)) = rw is_other.2 (ap (λ t. 1 ∷ t) (append_assoc (marked is_other.0) (marked is_other.1) more)) in
    let tails : marked is_one.0 ++ (marked is_one.1 ++ rest) ≡ marked is_other.0 ++ (marked is_other.1 ++ more) = (cc) in
    let names = marked-apart is_one.0 is_other.0 (marked is_one.1 ++ rest) (marked is_other.1 ++ more) tails in
    let keys = marked-apart is_one.1 is_other.1 rest more names.1 in
    (is_one.2 ∙ ap (λ t. 1 ∷ t) (ap (λ n. marked n ++ marked is_one.1) names.0 ∙ ap (λ k. marked is_other.0 ++ marked k) keys.0) ∙ sym is_other.2, keys.1)

abbrev pub joined : List (List ℕ) → List ℕ
joined marks = flat_map (λ text. text) marks

marks-apart : (one other : List (List ℕ)) (rest more : List ℕ) → AreMarks one → AreMarks other → joined one ++ 0 ∷ rest ≡ joined other ++ 0 ∷ more → (one ≡ other) × (rest ≡ more)
marks-apart [] [] rest more are_one are_other same = (refl, (cc))
marks-apart [] (m ∷ ms) rest more are_one are_other same =
    let right : joined (m ∷ ms) ++ 0 ∷ more ≡ 1 ∷ ((marked are_other.0.0 ++ marked are_other.0.1) ++ joined ms ++ 0 ∷ more) = rw are_other.0.2 refl in
    let first : 0 ≡ 1 = (cc) in absurd (marks_differ 0 1 refl refl first)
marks-apart (m ∷ ms) [] rest more are_one are_other same =
    let left : joined (m ∷ ms) ++ 0 ∷ rest ≡ 1 ∷ ((marked are_one.0.0 ++ marked are_one.0.1) ++ joined ms ++ 0 ∷ rest) = rw are_one.0.2 refl in
    let first : 1 ≡ 0 = (cc) in absurd (marks_differ 0 1 refl refl (sym first))
marks-apart (m ∷ ms) (n ∷ ns) rest more are_one are_other same =
    let firsts = mark-apart m n (joined ms ++ 0 ∷ rest) (joined ns ++ 0 ∷ more) are_one.0 are_other.0 (sym (append_assoc m (joined ms) (0 ∷ rest)) ∙ same ∙ append_assoc n (joined ns) (0 ∷ more)) in
    let later = marks-apart ms ns rest more are_one.1 are_other.1 firsts.1 in
    let first : m ≡ n = firsts.0 in
    let tails : ms ≡ ns = later.0 in
    ((cc), later.1)

rdn_key-prefix : (rdn : List TypeAndValue) (rest : List ℕ) → rdn_key rdn ++ rest ≡ joined (pair_set rdn) ++ 0 ∷ rest
rdn_key-prefix rdn rest = append_assoc (joined (pair_set rdn)) (0 ∷ []) rest

-- a list with an element in it
pub not_empty : {X : Type 0} (prefix rest : List X) (x : X) → prefix ++ x ∷ rest ≡ [] → ⊥
not_empty [] rest x same = (cc)
not_empty (a ∷ prefix) rest x same = (cc)

-- names with one key have the same sets of pairs
pub name_key-apart : (one other : List (List TypeAndValue)) → name_key one ≡ name_key other → map pair_set one ≡ map pair_set other
name_key-apart [] [] same = refl
name_key-apart [] (r ∷ rs) same = absurd (not_empty (joined (pair_set r)) (name_key rs) 0 (sym (rdn_key-prefix r (name_key rs)) ∙ sym same))
name_key-apart (r ∷ rs) [] same = absurd (not_empty (joined (pair_set r)) (name_key rs) 0 (sym (rdn_key-prefix r (name_key rs)) ∙ same))
name_key-apart (r ∷ rs) (q ∷ qs) same =
    let both = marks-apart (pair_set r) (pair_set q) (name_key rs) (name_key qs) (pair_set-marks r) (pair_set-marks q) (sym (rdn_key-prefix r (name_key rs)) ∙ same ∙ rdn_key-prefix q (name_key qs)) in
    let first : pair_set r ≡ pair_set q = both.0 in
    let rest : map pair_set rs ≡ map pair_set qs = name_key-apart rs qs both.1 in
    cc

-- names with the same sets of pairs have one key
pub name_key-from_sets : (one other : List (List TypeAndValue)) → map pair_set one ≡ map pair_set other → name_key one ≡ name_key other
name_key-from_sets one other same = of_sets one ∙ ap (flat_map (λ set. joined set ++ 0 ∷ [])) same ∙ sym (of_sets other)
  where
    of_sets : (name : List (List TypeAndValue)) → name_key name ≡ flat_map (λ set. joined set ++ 0 ∷ []) (map pair_set name)
    of_sets [] = refl
    of_sets (r ∷ rs) = ap (λ rest. rdn_key r ++ rest) (of_sets rs)
