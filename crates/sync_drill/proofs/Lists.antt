-- Facts of lists, item by item.
use Rattle.std.proofs.Common.{◌≡◌, ℕ, zero, suc, ◌+◌, ◌<◌, List, [], ◌∷◌, ◌++◌, length, sym, ap, ◌∙◌, subst, arith, append_assoc, append-nil}
use Rattle.std.specs.Prelude.{remove, slice_index_or}
use Rattle.std.specs.List.{All, AllZip}
use Rattle.std.proofs.lemmas.List.Elements.{All-cons, All-nil}
use Rattle.std.proofs.lemmas.List.{nil_from_length}
use Rattle.sync_drill.specs.Drilled.{EachAt}

-- a list with an item is not empty
pub nil-cons : {X : Type 0} (x : X) (xs : List X) → x ∷ xs ≡ [] → ⊥
nil-cons x xs e = cc

-- what holds of each holds of one of them
pub all_at : {X : Type 0} (P : X → Type 0) (xs ys : List X) (x : X) → All P (xs ++ x ∷ ys) → P x
all_at P [] ys x all = all 0 x (omega arith)
all_at P (y ∷ xs) ys x all = all_at P xs ys x (λ k d low. all (suc k) d (omega (arith, low)))

-- ---- two lists

-- what follows of each two holds of each two
pub zip-weaker : {X Y : Type 0} (R S : X → Y → Type 0) (xs : List X) (ys : List Y) → ((x : X) (y : Y) → R x y → S x y) → AllZip R xs ys → AllZip S xs ys
zip-weaker R S [] [] step all = tt
zip-weaker R S [] (y ∷ ys) step all = absurd all
zip-weaker R S (x ∷ xs) [] step all = absurd all
zip-weaker R S (x ∷ xs) (y ∷ ys) step all = (step x y all.0, zip-weaker R S xs ys step all.1)

-- ---- places

-- what follows of each, whatever its place
pub each-all : {X : Type 0} (P : ℕ → X → Type 0) (Q : X → Type 0) (place : ℕ) (xs : List X) → ((n : ℕ) (x : X) → P n x → Q x) → EachAt P place xs → All Q xs
each-all P Q place [] step each = All-nil Q
each-all P Q place (x ∷ xs) step each = All-cons Q x xs (step place x each.0) (each-all P Q (suc place) xs step each.1)

-- what follows of each at its place
pub each-weaker : {X : Type 0} (P Q : ℕ → X → Type 0) (place : ℕ) (xs : List X) → ((n : ℕ) (x : X) → P n x → Q n x) → EachAt P place xs → EachAt Q place xs
each-weaker P Q place [] step each = tt
each-weaker P Q place (x ∷ xs) step each = (step place x each.0, each-weaker P Q (suc place) xs step each.1)

-- what becomes of each
pub each-zip : {X Y : Type 0} (P : ℕ → X → Type 0) (R : X → Y → Type 0) (Q : ℕ → Y → Type 0) (place : ℕ) (xs : List X) (ys : List Y)
    → ((n : ℕ) (x : X) (y : Y) → P n x → R x y → Q n y) → EachAt P place xs → AllZip R xs ys → EachAt Q place ys
each-zip P R Q place [] [] step each all = tt
each-zip P R Q place [] (y ∷ ys) step each all = absurd all
each-zip P R Q place (x ∷ xs) [] step each all = absurd all
each-zip P R Q place (x ∷ xs) (y ∷ ys) step each all =
    (step place x y each.0 all.0, each-zip P R Q (suc place) xs ys step each.1 all.1)

-- what speaks of the places alone
pub each_holds : {X : Type 0} (Q : ℕ → Type 0) (place : ℕ) (xs : List X) → EachAt (λ n x. Q n) place xs → (k : ℕ) → k < length xs → Q (place + k)
each_holds Q place [] each k low = absurd (omega (arith, low))
each_holds Q place (x ∷ xs) each zero low = let same : place ≡ place + 0 = omega arith in subst Q same each.0
each_holds Q place (x ∷ xs) each (suc k) low =
    let same : suc place + k ≡ place + suc k = omega arith in
    subst Q same (each_holds Q (suc place) xs each.1 k (omega (arith, low)))

-- ---- what an iterator has left

-- all were given
pub all_given : {X : Type 0} (all given left : List X) → all ≡ given ++ left → length left ≡ 0 → given ≡ all
all_given all given left is none = sym (is ∙ ap (λ more. given ++ more) (nil_from_length left none) ∙ append-nil given)

-- one more was given
pub one_given : {X : Type 0} (all given left more : List X) (x : X) → all ≡ given ++ left → left ≡ x ∷ more → all ≡ (given ++ x ∷ []) ++ more
one_given all given left more x is first =
    is ∙ ap (λ xs. given ++ xs) first ∙ sym (append_assoc given (x ∷ []) more)

-- it was one of all
pub is_given : {X : Type 0} (P : X → Type 0) (all given left more : List X) (x : X) → all ≡ given ++ left → left ≡ x ∷ more → All P all → P x
is_given P all given left more x is first each =
    all_at P given more x (subst (All P) (is ∙ ap (λ xs. given ++ xs) first) each)

-- ---- the first one

-- the list is its first item and then what is left where that is removed
pub first_and_others : {X : Type 0} (xs others : List X) (first : X) → 0 < length xs → first ≡ slice_index_or xs 0 first → others ≡ remove xs 0 → xs ≡ first ∷ others
first_and_others [] others first some is are = absurd (omega (arith, some))
first_and_others (x ∷ xs) others first some is are = ap (λ y. y ∷ xs) (sym is) ∙ ap (λ ys. first ∷ ys) (sym are)
