-- Laws of lists that the library does not state.
use Rattle.std.proofs.Common.{◌≡◌, ◌≢◌, ℕ, ◌+◌, ◌<◌, Bool, true, ◌&&◌, ◌==◌, List, [], ◌∷◌, length, take, get_or, map, refl, ap, sym, ◌∙◌, arith, suc, Fits, w8}
use Rattle.std.specs.List.{list_all}
use Rattle.std.proofs.lemmas.Bool.{ne_eqb, lt-ltb}
use Rattle.std.proofs.lemmas.List.Folds.{list_all_more}
use Rattle.ldap_filter.specs.declared.filter.Filter.{Filter}
use Rattle.ldap_filter.specs.Same.{same_trees}
use Rattle.ldap_filter.specs.Writing.{are_bytes}
use Rattle.ldap_filter.specs.FilterTree.{no_trees, tree_of, trees}

-- a test of all passes with one element more that passes
pub list_all_next : {X : Type 0} (p : X → Bool) (xs : List X) (i : ℕ) (x : X) → i < length xs → x ≡ get_or xs i x
    → list_all p (take i xs) ≡ true → p x ≡ true → list_all p (take (i + 1) xs) ≡ true
list_all_next p xs i x low at before here =
    list_all_more p xs i x low ∙ ap (λ b. b && p (get_or xs i x)) before ∙ ap p (sym at) ∙ here

-- two lists of filters end together
pub same_trees_end : (others : List Filter) → same_trees no_trees (trees (map tree_of others)) ≡ (length others == 0)
same_trees_end [] = refl
same_trees_end (other ∷ others) = let some : length (other ∷ others) ≢ 0 = omega arith in sym (ne_eqb _ 0 some)

-- a slice of bytes holds bytes
pub bytes_fit : (bytes : List ℕ) → ((i : ℕ) → Fits w8 (get_or bytes i 0)) → are_bytes bytes ≡ true
bytes_fit [] fits = refl
bytes_fit (b ∷ bytes) fits =
    let small : b < 256 = omega (arith, fits 0) in rw (lt-ltb b 256 small) (bytes_fit bytes (λ i. fits (suc i)))
