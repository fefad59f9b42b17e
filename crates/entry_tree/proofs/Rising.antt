-- Lists of identities in ascending order: two that have the same ones are one list.
use Rattle.std.proofs.Common.{◌≡◌, ◌<◌, ◌+◌, ℕ, Bool, true, false, cond, nat_eq, nat_lt, List, [], ◌∷◌, ◌++◌, length, take, get_or, refl, sym, ap, ◌∙◌, ◌⊎◌, inl, inr, append-nil, arith}
use Rattle.std.specs.Prelude.{◌&&◌, ◌||◌}
use Rattle.std.specs.BTreeSet.{insert_key}
use Rattle.std.specs.List.{filter, flat_map, list_all, list_any}
use Rattle.std.specs.Ordering.{nat_cmp}
use Rattle.std.proofs.lemmas.Bool.{and_parts, and_from, eq-eqb, eqb-true, lt-ltb, cases_order, false≢true, cond_both}
use Rattle.std.proofs.lemmas.Bool.Decides.{nat_tests}
use Rattle.std.proofs.lemmas.List.{take_more}
use Rattle.std.proofs.lemmas.List.Concat.{flat_map-append}
use Rattle.std.proofs.lemmas.List.Sums.{fold-append}
use Rattle.entry_writes.specs.Touched.{joined, rises}
use Rattle.entry_writes.proofs.Passing.{list_all-filter}

-- whether a number is below all of these
abbrev pub below_all : ℕ → List ℕ → Bool
below_all n ns = list_all (nat_lt n) ns

-- whether a number is among these
abbrev pub among : ℕ → List ℕ → Bool
among u ns = list_any (nat_eq u) ns

-- what is below one is below all that are above it
pub below_lower : (n m : ℕ) (ns : List ℕ) → n < m → below_all m ns ≡ true → below_all n ns ≡ true
below_lower n m [] less below = refl
below_lower n m (k ∷ ns) less below = grind (arith, nat_tests, below_lower n m ns less)

-- ---- numbers that are put in

-- what is below all is below one more that is above it
pub below-insert : (n : ℕ) (ns : List ℕ) (u : ℕ) → n < u → below_all n ns ≡ true → below_all n (insert_key nat_cmp ns u) ≡ true
below-insert n [] u less below = grind (arith, nat_tests)
below-insert n (m ∷ ns) u less below = grind (arith, nat_tests, below-insert n ns u less)

-- ascending numbers ascend with one more at its place
pub rises-insert : (ns : List ℕ) (u : ℕ) → rises ns ≡ true → rises (insert_key nat_cmp ns u) ≡ true
rises-insert [] u up = refl
rises-insert (n ∷ ns) u up =
    let p = and_parts (below_all n ns) (rises ns) up in
    grind (arith, nat_tests, p.0, rises-insert ns u p.1, below-insert n ns u, below_lower u n ns)

-- a union of ascending numbers ascends
pub rises-joined : (ns more : List ℕ) → rises ns ≡ true → rises (joined ns more) ≡ true
rises-joined ns [] up = up
rises-joined ns (u ∷ more) up = rises-joined (insert_key nat_cmp ns u) more (rises-insert ns u up)

-- what is there with one more
pub among-insert : (u : ℕ) (ns : List ℕ) (n : ℕ) → among u (insert_key nat_cmp ns n) ≡ (nat_eq u n || among u ns)
among-insert u [] n = refl
among-insert u (m ∷ ns) n = grind (arith, nat_tests, among-insert u ns n)

-- a number is in a union where it is in one of its parts
pub among-joined : (u : ℕ) (ns more : List ℕ) → among u (joined ns more) ≡ (among u more || among u ns)
among-joined u ns [] = refl
among-joined u ns (n ∷ more) =
    among-joined u (insert_key nat_cmp ns n) more ∙ ap (λ b. among u more || b) (among-insert u ns n) ∙ by (nat_eq u n) (among u more) (among u ns)
  where
    by : (same one other : Bool) → (one || (same || other)) ≡ ((same || one) || other)
    by true true other = refl
    by true false other = refl
    by false true other = refl
    by false false other = refl

-- ---- those that pass a test

rises-filter : (p : ℕ → Bool) (ns : List ℕ) → rises ns ≡ true → rises (filter p ns) ≡ true
rises-filter p [] up = refl
rises-filter p (n ∷ ns) up =
    let parts = and_parts (below_all n ns) (rises ns) up in
    let rest = rises-filter p ns parts.1 in
    cond_both (p n) (n ∷ filter p ns) (filter p ns) (λ xs. rises xs ≡ true) (λ _. and_from (below_all n (filter p ns)) (rises (filter p ns)) (list_all-filter (nat_lt n) p ns parts.0) rest) (λ _. rest)

-- a number is among those that pass where it passes and is there
pub among-filter : (p : ℕ → Bool) (u : ℕ) (ns : List ℕ) → among u (filter p ns) ≡ (p u && among u ns)
among-filter p u [] = by (p u)
  where
    by : (b : Bool) → false ≡ (b && false)
    by true = refl
    by false = refl
among-filter p u (n ∷ ns) = by (p n) refl (nat_eq u n) refl (p u) refl (among-filter p u ns)
  where
    by : (b : Bool) → p n ≡ b → (same : Bool) → nat_eq u n ≡ same → (own : Bool) → p u ≡ own → among u (filter p ns) ≡ (own && among u ns)
        → among u (cond b (n ∷ filter p ns) (filter p ns)) ≡ (own && (same || among u ns))
    by true passes true is own at rest = ap (λ b. b || among u (filter p ns)) is ∙ ap (λ b. b && true) (sym passes ∙ ap p (sym (eqb-true u n is)) ∙ at)
    by true passes false not own at rest = ap (λ b. b || among u (filter p ns)) not ∙ rest
    by false fails true is own at rest =
        let out : own ≡ false = sym at ∙ ap p (eqb-true u n is) ∙ fails in
        rest ∙ ap (λ b. b && among u ns) out ∙ ap (λ b. b && true) (sym out)
    by false fails false not own at rest = rest

-- ---- one list

off_below : (u : ℕ) (ns : List ℕ) → below_all u ns ≡ true → among u ns ≡ false
off_below u [] below = refl
off_below u (n ∷ ns) below = grind (arith, nat_tests, off_below u ns)

-- the same numbers, and so the same first one
same_first : (n : ℕ) (ns : List ℕ) (m : ℕ) (ms : List ℕ) → below_all m ms ≡ true → among n (n ∷ ns) ≡ among n (m ∷ ms) → n < m → ⊥
same_first n ns m ms below same less =
    let off : among n (m ∷ ms) ≡ false = off_below n (m ∷ ms) (and_from (nat_lt n m) (below_all n ms) (lt-ltb n m less) (below_lower n m ms less below)) in
    let here : among n (n ∷ ns) ≡ true = ap (λ b. b || among n ns) (eq-eqb n n refl) in
    false≢true (sym off ∙ sym same ∙ here)

-- lists that rise and have the same numbers are equal
pub same_numbers : (ns ms : List ℕ) → rises ns ≡ true → rises ms ≡ true → ((u : ℕ) → among u ns ≡ among u ms) → ns ≡ ms
same_numbers [] [] up rising same = refl
same_numbers [] (m ∷ ms) up rising same = absurd (false≢true (same m ∙ ap (λ b. b || among m ms) (eq-eqb m m refl)))
same_numbers (n ∷ ns) [] up rising same = absurd (false≢true (sym (same n) ∙ ap (λ b. b || among n ns) (eq-eqb n n refl)))
same_numbers (n ∷ ns) (m ∷ ms) up rising same = by (λ shared. same_numbers ns ms first.1 other.1 shared) (cases_order n m)
  where
    first : (below_all n ns ≡ true) × (rises ns ≡ true)
    first = and_parts (below_all n ns) (rises ns) up

    other : (below_all m ms ≡ true) × (rises ms ≡ true)
    other = and_parts (below_all m ms) (rises ms) rising

    rest : n ≡ m → (u : ℕ) → among u ns ≡ among u ms
    rest is u = at (nat_eq u n) refl
      where
        at : (b : Bool) → nat_eq u n ≡ b → among u ns ≡ among u ms
        at true hit =
            let here : u ≡ n = eqb-true u n hit in
            off_below u ns (ap (λ k. below_all k ns) here ∙ first.0) ∙ sym (off_below u ms (ap (λ k. below_all k ms) (here ∙ is) ∙ other.0))
        at false miss = sym (ap (λ b. b || among u ns) miss) ∙ same u ∙ ap (λ b. b || among u ms) (ap (nat_eq u) (sym is) ∙ miss)

    by : (((u : ℕ) → among u ns ≡ among u ms) → ns ≡ ms) → (n ≡ m) ⊎ ((n < m) ⊎ (m < n)) → n ∷ ns ≡ m ∷ ms
    by later (inl is) = ap (λ k. k ∷ ns) is ∙ ap (λ ks. m ∷ ks) (later (rest is))
    by later (inr (inl less)) = absurd (same_first n ns m ms other.0 (same n) less)
    by later (inr (inr more)) = absurd (same_first m ms n ns first.0 (sym (same m)) more)

-- those that pass, where both lists have all that do
pub same_passing : (p : ℕ → Bool) (ns ms : List ℕ) → rises ns ≡ true → rises ms ≡ true → ((u : ℕ) → p u ≡ true → among u ns ≡ true) → ((u : ℕ) → p u ≡ true → among u ms ≡ true)
    → filter p ns ≡ filter p ms
same_passing p ns ms up rising one other =
    same_numbers (filter p ns) (filter p ms) (rises-filter p ns up) (rises-filter p ms rising)
    (λ u. among-filter p u ns ∙ by u (p u) refl ∙ sym (among-filter p u ms))
  where
    by : (u : ℕ) (b : Bool) → p u ≡ b → (b && among u ns) ≡ (b && among u ms)
    by u true passes = one u passes ∙ sym (other u passes)
    by u false fails = refl

-- ---- one more of a list

-- a union with one more number of the second part
pub joined_more : (ns us : List ℕ) (i : ℕ) → i < length us → joined ns (take (i + 1) us) ≡ insert_key nat_cmp (joined ns (take i us)) (get_or us i 0)
joined_more ns us i low = ap (joined ns) (take_more us i 0 low) ∙ fold-append (insert_key nat_cmp) ns (take i us) (get_or us i 0 ∷ [])

-- the union of some lists with those of one more
pub joined_each_more : {A : Type 0} (ids : A → List ℕ) (lists : List A) (i : ℕ) (list : A) → i < length lists → list ≡ get_or lists i list
    → joined [] (flat_map ids (take (i + 1) lists)) ≡ joined (joined [] (flat_map ids (take i lists))) (ids list)
joined_each_more ids lists i list low is =
    ap (λ ls. joined [] (flat_map ids ls)) (take_more lists i list low ∙ ap (λ last. take i lists ++ last ∷ []) (sym is))
    ∙ ap (joined []) (flat_map-append ids (take i lists) (list ∷ []) ∙ ap (λ more. flat_map ids (take i lists) ++ more) (append-nil (ids list)))
    ∙ fold-append (insert_key nat_cmp) [] (flat_map ids (take i lists)) (ids list)
