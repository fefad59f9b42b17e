-- The order of CSNs, and how many are not greater than one.
use Rattle.std.proofs.Common.{◌≡◌, ◌+◌, ◌≤◌, ℕ, Bool, true, false, cond, List, [], ◌∷◌, refl, ap, sym, ◌∙◌, arith}
use Rattle.std.specs.Ordering.{is_lt, is_le, ordering_reverse}
use Rattle.std.specs.declared.cmp.Ordering.{Ordering}
use Rattle.std.specs.declared.cmp.Ordering.TheVariants.{Less, Equal, Greater}
use Rattle.csn_cookie.specs.Csn.{CsnValue, csn_cmp, is_before, is_upto, upto}
use Rattle.csn_cookie.proofs.OrderLemmas.{csn_cmp_total, upto-cons}

-- ---- one CSN and another

back : (a b : CsnValue) → csn_cmp b a ≡ ordering_reverse (csn_cmp a b)
back a b = csn_cmp_total.antisymm b a

-- of two CSNs, where the first is not before the second, the second is not above the first
pub not_before_upto : (a b : CsnValue) → is_before a b ≡ false → is_upto b a ≡ true
not_before_upto a b h = ap is_le (back a b) ∙ by (csn_cmp a b) h
  where
    by : (o : Ordering) → is_lt o ≡ false → is_le (ordering_reverse o) ≡ true
    by Less h = let never : ⊥ = cc in absurd never
    by Equal h = refl
    by Greater h = refl

-- where the second is as a third
same_upto : (a b c : CsnValue) → csn_cmp a b ≡ Equal → is_upto b c ≡ true → is_upto a c ≡ true
same_upto a b c same h = ap is_le (csn_cmp_total.congr a b c same) ∙ h

upto_same : (a b c : CsnValue) → csn_cmp b c ≡ Equal → is_upto a b ≡ true → is_upto a c ≡ true
upto_same a b c same h =
    let turned : csn_cmp c b ≡ Equal = back b c ∙ ap ordering_reverse same in
    let alike : csn_cmp c a ≡ csn_cmp b a = csn_cmp_total.congr c b a turned ∙ refl in
    ap is_le (back c a ∙ ap ordering_reverse alike ∙ sym (back b a)) ∙ h

-- not to be above goes on from one CSN to the next
pub is_upto_then : (a b c : CsnValue) → is_upto a b ≡ true → is_upto b c ≡ true → is_upto a c ≡ true
is_upto_then a b c h k = by (csn_cmp a b) refl (csn_cmp b c) refl h k
  where
    by : (o : Ordering) → csn_cmp a b ≡ o → (q : Ordering) → csn_cmp b c ≡ q → is_le o ≡ true → is_le q ≡ true → is_upto a c ≡ true
    by Less one Less two h k = ap is_le (csn_cmp_total.trans a b c one two)
    by Less one Equal two h k = upto_same a b c two (ap is_le one)
    by Equal one q two h k = same_upto a b c one (ap is_le two ∙ k)
    by Greater one q two h k = let never : ⊥ = cc in absurd never
    by Less one Greater two h k = let never : ⊥ = cc in absurd never

-- ---- many

one_more : (a b : Bool) (m n : ℕ) → (a ≡ true → b ≡ true) → m ≤ n → cond a 1 0 + m ≤ cond b 1 0 + n
one_more false false m n h k = omega (arith, k)
one_more false true m n h k = omega (arith, k)
one_more true true m n h k = omega (arith, k)
one_more true false m n h k = let bad : false ≡ true = h refl in let never : ⊥ = cc in absurd never

-- of some CSNs no fewer are up to a greater CSN
pub upto_more : (csns : List CsnValue) (a b : CsnValue) → is_upto a b ≡ true → upto csns a ≤ upto csns b
upto_more [] a b h = omega arith
upto_more (s ∷ csns) a b h =
    let more = one_more (is_upto s a) (is_upto s b) (upto csns a) (upto csns b) (λ k. is_upto_then s a b k h) (upto_more csns a b h) in
    omega (arith, upto-cons s a csns, upto-cons s b csns, more)
