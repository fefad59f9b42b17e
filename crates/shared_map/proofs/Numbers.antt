-- Texts of octets that are compared by the numbers which their first octets are.
use Rattle.std.proofs.Common.{◌≡◌, ◌≢◌, ◌+◌, ◌*◌, ◌<◌, ◌≤◌, ◌⊎◌, inl, inr, ℕ, zero, suc, List, [], ◌∷◌, length, take, drop, get_or, refl, sym, ap, ap₂, ◌∙◌, arith}
use Rattle.std.specs.Cmp.{nat_cmp_is, nat_cmp_total, tied_itself}
use Rattle.std.specs.Cmp.Lexicographic.{slice_cmp}
use Rattle.std.specs.Int.{from_be_bytes, w64}
use Rattle.std.specs.Ordering.{nat_cmp, ordering_then}
use Rattle.std.specs.declared.cmp.Ordering.{Ordering}
use Rattle.std.specs.declared.cmp.Ordering.TheVariants.{Less, Equal, Greater}
use Rattle.std.proofs.lemmas.Bool.{cases_order}
use Rattle.std.proofs.lemmas.List.{length-take}
use Rattle.shared_map.specs.Queries.{BeginsWith}

-- the number whose octets are those of this one and then these
abbrev number_from : ℕ → List ℕ → ℕ
number_from n [] = n
number_from n (x ∷ xs) = number_from (n * 256 + x) xs

then_then : (a b c : Ordering) → ordering_then (ordering_then a b) c ≡ ordering_then a (ordering_then b c)
then_then Less b c = refl
then_then Equal b c = refl
then_then Greater b c = refl

-- ---- one octet more

same_before : (n m x y : ℕ) → n ≡ m → nat_cmp (n * 256 + x) (m * 256 + y) ≡ nat_cmp x y
same_before n m x y same = by (cases_order x y)
  where
    by : (x ≡ y) ⊎ ((x < y) ⊎ (y < x)) → nat_cmp (n * 256 + x) (m * 256 + y) ≡ nat_cmp x y
    by (inl equal) =
        let both : n * 256 + x ≡ m * 256 + y = omega (arith, same, equal) in
        sym (nat_cmp_is (n * 256 + x) (m * 256 + y) Equal both) ∙ nat_cmp_is x y Equal equal
    by (inr (inl less)) =
        let both : n * 256 + x < m * 256 + y = omega (arith, same, less) in
        sym (nat_cmp_is (n * 256 + x) (m * 256 + y) Less both) ∙ nat_cmp_is x y Less less
    by (inr (inr more)) =
        let both : m * 256 + y < n * 256 + x = omega (arith, same, more) in
        sym (nat_cmp_is (n * 256 + x) (m * 256 + y) Greater both) ∙ nat_cmp_is x y Greater more

one_more : (n m x y : ℕ) → x < 256 → y < 256 → nat_cmp (n * 256 + x) (m * 256 + y) ≡ ordering_then (nat_cmp n m) (nat_cmp x y)
one_more n m x y small small' = by (cases_order n m)
  where
    by : (n ≡ m) ⊎ ((n < m) ⊎ (m < n)) → nat_cmp (n * 256 + x) (m * 256 + y) ≡ ordering_then (nat_cmp n m) (nat_cmp x y)
    by (inl same) = same_before n m x y same ∙ ap (λ o. ordering_then o (nat_cmp x y)) (nat_cmp_is n m Equal same)
    by (inr (inl less)) =
        let both : n * 256 + x < m * 256 + y = omega (arith, less, small) in
        sym (nat_cmp_is (n * 256 + x) (m * 256 + y) Less both) ∙ ap (λ o. ordering_then o (nat_cmp x y)) (nat_cmp_is n m Less less)
    by (inr (inr more)) =
        let both : m * 256 + y < n * 256 + x = omega (arith, more, small') in
        sym (nat_cmp_is (n * 256 + x) (m * 256 + y) Greater both) ∙ ap (λ o. ordering_then o (nat_cmp x y)) (nat_cmp_is n m Greater more)

-- the numbers of the first octets decide, and else what follows these
numbers_first : (k n m : ℕ) (one other : List ℕ) → k ≤ length one → k ≤ length other → ((i : ℕ) → get_or one i 0 < 256) → ((i : ℕ) → get_or other i 0 < 256)
    → ordering_then (nat_cmp (number_from n (take k one)) (number_from m (take k other))) (slice_cmp nat_cmp (drop k one) (drop k other))
    ≡ ordering_then (nat_cmp n m) (slice_cmp nat_cmp one other)
numbers_first zero n m [] [] in_one in_other small small' = refl
numbers_first zero n m [] (y ∷ other) in_one in_other small small' = refl
numbers_first zero n m (x ∷ one) [] in_one in_other small small' = refl
numbers_first zero n m (x ∷ one) (y ∷ other) in_one in_other small small' = refl
numbers_first (suc k) n m [] other in_one in_other small small' = absurd (omega (arith, in_one))
numbers_first (suc k) n m (x ∷ one) [] in_one in_other small small' = absurd (omega (arith, in_other))
numbers_first (suc k) n m (x ∷ one) (y ∷ other) in_one in_other small small' =
    numbers_first k (n * 256 + x) (m * 256 + y) one other (omega (arith, in_one)) (omega (arith, in_other)) (λ i. small (suc i)) (λ i. small' (suc i))
    ∙ ap (λ o. ordering_then o (slice_cmp nat_cmp one other)) (one_more n m x y (small 0) (small' 0))
    ∙ then_then (nat_cmp n m) (nat_cmp x y) (slice_cmp nat_cmp one other)

-- ---- eight octets

eight_are : (octets : List ℕ) → length octets ≡ 8 → from_be_bytes w64 octets ≡ number_from 0 octets
eight_are [] eight = absurd (omega (arith, eight))
eight_are (a ∷ []) eight = absurd (omega (arith, eight))
eight_are (a ∷ b ∷ []) eight = absurd (omega (arith, eight))
eight_are (a ∷ b ∷ c ∷ []) eight = absurd (omega (arith, eight))
eight_are (a ∷ b ∷ c ∷ d ∷ []) eight = absurd (omega (arith, eight))
eight_are (a ∷ b ∷ c ∷ d ∷ e ∷ []) eight = absurd (omega (arith, eight))
eight_are (a ∷ b ∷ c ∷ d ∷ e ∷ f ∷ []) eight = absurd (omega (arith, eight))
eight_are (a ∷ b ∷ c ∷ d ∷ e ∷ f ∷ g ∷ []) eight = absurd (omega (arith, eight))
eight_are (a ∷ b ∷ c ∷ d ∷ e ∷ f ∷ g ∷ h ∷ []) eight = omega arith
eight_are (a ∷ b ∷ c ∷ d ∷ e ∷ f ∷ g ∷ h ∷ i ∷ octets) eight = absurd (omega (arith, eight))

number_is : (octets : List ℕ) (number : ℕ) → BeginsWith octets number → number ≡ number_from 0 (take 8 octets)
number_is octets number begins = begins.is ∙ eight_are (take 8 octets) (omega (arith, length-take 8 octets, begins.enough))

module _ (one other : List ℕ) (n m : ℕ) (begins : BeginsWith one n) (other_begins : BeginsWith other m) where
  numbers_decide : ordering_then (nat_cmp n m) (slice_cmp nat_cmp (drop 8 one) (drop 8 other)) ≡ slice_cmp nat_cmp one other
  numbers_decide =
      ap₂ (λ a b. ordering_then (nat_cmp a b) (slice_cmp nat_cmp (drop 8 one) (drop 8 other))) (number_is one n begins) (number_is other m other_begins)
      ∙ numbers_first 8 0 0 one other begins.enough other_begins.enough begins.small other_begins.small
      ∙ ap (λ o. ordering_then o (slice_cmp nat_cmp one other)) (tied_itself nat_cmp_total 0)

  -- where the numbers are equal, what follows decides
  pub same_numbers : n ≡ m → slice_cmp nat_cmp (drop 8 one) (drop 8 other) ≡ slice_cmp nat_cmp one other
  same_numbers same =
      ap (λ o. ordering_then o (slice_cmp nat_cmp (drop 8 one) (drop 8 other))) (nat_cmp_is n m Equal same) ∙ numbers_decide

  -- else the numbers do
  pub other_numbers : n ≢ m → nat_cmp n m ≡ slice_cmp nat_cmp one other
  other_numbers differ = by (cases_order n m) ∙ numbers_decide
    where
      by : (n ≡ m) ⊎ ((n < m) ⊎ (m < n)) → nat_cmp n m ≡ ordering_then (nat_cmp n m) (slice_cmp nat_cmp (drop 8 one) (drop 8 other))
      by (inl same) = absurd (differ same)
      by (inr (inl less)) = sym (nat_cmp_is n m Less less) ∙ ap (λ o. ordering_then o (slice_cmp nat_cmp (drop 8 one) (drop 8 other))) (nat_cmp_is n m Less less)
      by (inr (inr more)) = sym (nat_cmp_is n m Greater more) ∙ ap (λ o. ordering_then o (slice_cmp nat_cmp (drop 8 one) (drop 8 other))) (nat_cmp_is n m Greater more)
