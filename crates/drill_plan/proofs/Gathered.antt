-- Entries that are alike part by part are alike as a whole.
use Rattle.std.proofs.Common.{◌≡◌, ℕ, zero, suc, ◌<◌, Bool, true, false, not, ◌||◌, if◌then◌else◌, List, [], ◌∷◌, ◌++◌, map, filter, refl, sym, ap, ◌∙◌, subst, arith}
use Rattle.std.specs.List.Sorted.{IsPermutation}
use Rattle.std.proofs.lemmas.Bool.{false≢true}
use Rattle.std.proofs.lemmas.List.{map-append}
use Rattle.std.proofs.lemmas.List.Sorted.{IsPermutation-refl, IsPermutation-sym, IsPermutation-trans, IsPermutation-append, IsPermutation-map, IsPermutation-filter_both}
use Rattle.entry_writes.specs.declared.entry.Entry.{Entry}
use Rattle.drill_plan.specs.Plain.{plain}
use Rattle.drill_plan.proofs.Filtered.{filter_yes, filter_no, filter_within}
use Rattle.drill_plan.proofs.Plainly.{Name}
use Rattle.drill_plan.proofs.Regions.{part}

-- one test or the other
abbrev pub either : (Name → Bool) → (Name → Bool) → Name → Bool
either p q name = p name || q name

-- of the first n parts, or of the rest
abbrev pub among : (ℕ → Name → Bool) → (Name → Bool) → ℕ → Name → Bool
among own rest zero = rest
among own rest (suc n) = either (own n) (among own rest n)

module _ {X : Type 0} where
  -- what passes neither of two tests that exclude each other, and what passes either
  both_parts : (p q : X → Bool) → ((x : X) → p x ≡ true → q x ≡ false) → (xs : List X)
      → filter (λ x. not (p x)) (filter (λ x. p x || q x) xs) ≡ filter q xs
  both_parts p q apart [] = refl
  both_parts p q apart (x ∷ xs) = by (both_parts p q apart xs) (p x) (q x) refl refl
    where
      in_either : (b : Bool) → (p x || q x) ≡ b
          → filter (λ y. p y || q y) (x ∷ xs) ≡ (if b then x ∷ filter (λ y. p y || q y) xs else filter (λ y. p y || q y) xs)
      in_either b is = ap (λ c. if c then x ∷ filter (λ y. p y || q y) xs else filter (λ y. p y || q y) xs) is

      by : filter (λ y. not (p y)) (filter (λ y. p y || q y) xs) ≡ filter q xs → (a b : Bool) → p x ≡ a → q x ≡ b
          → filter (λ y. not (p y)) (filter (λ y. p y || q y) (x ∷ xs)) ≡ filter q (x ∷ xs)
      by rest true true yes_p yes_q = absurd (false≢true (sym (apart x yes_p) ∙ yes_q))
      by rest true false yes_p no_q =
          ap (filter (λ y. not (p y))) (in_either true (ap (λ c. c || q x) yes_p))
          ∙ filter_no (λ y. not (p y)) x (filter (λ y. p y || q y) xs) (ap not yes_p)
          ∙ rest ∙ sym (filter_no q x xs no_q)
      by rest false true no_p yes_q =
          ap (filter (λ y. not (p y))) (in_either true (ap (λ c. c || q x) no_p ∙ yes_q))
          ∙ filter_yes (λ y. not (p y)) x (filter (λ y. p y || q y) xs) (ap not no_p)
          ∙ ap (λ ys. x ∷ ys) rest ∙ sym (filter_yes q x xs yes_q)
      by rest false false no_p no_q =
          ap (filter (λ y. not (p y))) (in_either false (ap (λ c. c || q x) no_p ∙ no_q))
          ∙ rest ∙ sym (filter_no q x xs no_q)

  first_part : (p q : X → Bool) (xs : List X) → filter p (filter (λ x. p x || q x) xs) ≡ filter p xs
  first_part p q xs = filter_within (λ x. p x || q x) p (λ x passing. ap (λ c. c || q x) passing) xs

  -- all pass where none is left by the other test
  pub all_pass : (p : X → Bool) (xs : List X) → filter (λ x. not (p x)) xs ≡ [] → filter p xs ≡ xs
  all_pass p [] none = refl
  all_pass p (x ∷ xs) none = by (λ others. all_pass p xs others) (p x) refl
    where
      by : (filter (λ y. not (p y)) xs ≡ [] → filter p xs ≡ xs) → (b : Bool) → p x ≡ b → filter p (x ∷ xs) ≡ x ∷ xs
      by rest true passing =
          filter_yes p x xs passing
          ∙ ap (λ ys. x ∷ ys) (rest (sym (filter_no (λ y. not (p y)) x xs (ap not passing)) ∙ none))
      by rest false failing =
          let some : x ∷ filter (λ y. not (p y)) xs ≡ [] = sym (filter_yes (λ y. not (p y)) x xs (ap not failing)) ∙ none in
          absurd (cc)

module _ (own : ℕ → Name → Bool) (rest : Name → Bool)
    (apart : (n : ℕ) (name : Name) → own n name ≡ true → among own rest n name ≡ false) where
  -- the entries of n parts more, in two
  parts_more : (n : ℕ) (entries : List Entry)
      → IsPermutation (map plain (part (among own rest (suc n)) entries))
      (map plain (part (own n) entries) ++ map plain (part (among own rest n) entries))
  parts_more n entries =
      let p : Entry → Bool = λ e. own n e.dn in
      let q : Entry → Bool = λ e. among own rest n e.dn in
      let all = filter (λ e. p e || q e) entries in
      let split : IsPermutation all (filter p all ++ filter (λ e. not (p e)) all) =
      IsPermutation-filter_both p (λ e. not (p e)) (λ e. refl) all in
      let halves : filter p all ++ filter (λ e. not (p e)) all ≡ filter p entries ++ filter q entries =
      ap (λ es. es ++ filter (λ e. not (p e)) all) (first_part p q entries)
      ∙ ap (λ es. filter p entries ++ es) (both_parts p q (λ e passing. apart n e.dn passing) entries) in
      subst (IsPermutation (map plain all)) (map-append plain (filter p entries) (filter q entries))
      (IsPermutation-map plain all (filter p entries ++ filter q entries) (subst (IsPermutation all) halves split))

  -- alike in each part and in the rest
  pub alike_among : (n : ℕ) (one other : List Entry)
      → ((k : ℕ) → k < n → map plain (part (own k) one) ≡ map plain (part (own k) other))
      → map plain (part rest one) ≡ map plain (part rest other)
      → IsPermutation (map plain (part (among own rest n) one)) (map plain (part (among own rest n) other))
  alike_among zero one other each last =
      subst (IsPermutation (map plain (part rest one))) last (IsPermutation-refl (map plain (part rest one)))
  alike_among (suc n) one other each last =
      let these = map plain (part (own n) one) in
      let those = map plain (part (own n) other) in
      let before = map plain (part (among own rest n) one) in
      let after = map plain (part (among own rest n) other) in
      let lower : IsPermutation before after = alike_among n one other (λ k low. each k (omega (arith, low))) last in
      let same : these ≡ those = each n (omega arith) in
      let middle : IsPermutation (these ++ before) (those ++ after) =
      IsPermutation-append these those before after (subst (IsPermutation these) same (IsPermutation-refl these)) lower in
      IsPermutation-trans (map plain (part (among own rest (suc n)) one)) (these ++ before) (map plain (part (among own rest (suc n)) other))
      (parts_more n one)
      (IsPermutation-trans (these ++ before) (those ++ after) (map plain (part (among own rest (suc n)) other)) middle
      (IsPermutation-sym (map plain (part (among own rest (suc n)) other)) (those ++ after) (parts_more n other)))
