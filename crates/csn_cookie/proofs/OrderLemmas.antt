-- The order of CSNs, and CSNs that rise.
use Rattle.std.proofs.Common.{◌≡◌, ◌+◌, true, false, cond, List, [], ◌∷◌, ◌++◌, length, refl, ap, ◌∙◌, arith, zero-add}
use Rattle.std.proofs.lemmas.List.Sums.{sum_by-cons}
use Rattle.std.specs.declared.cmp.Ordering.{Ordering}
use Rattle.std.specs.declared.cmp.Ordering.TheVariants.{Less, Equal, Greater}
use Rattle.std.specs.Cmp.{IsTotalOrder}
use Rattle.std.specs.Ordering.{is_lt}
use Rattle.std.specs.List.{AllByRecursion}
use Rattle.std.specs.List.Sorted.{IsStrictlySortedBy}
use Rattle.std.proofs.lemmas.Cmp.{nat_cmp_total, on_total, then_total, tied_itself}
use Rattle.std.proofs.lemmas.Map.Keys.{sorted_head, sorted_tail}
use Rattle.csn_cookie.specs.Csn.{CsnValue, csn_cmp, is_before, is_upto, upto}

-- the order of CSNs is total
pub csn_cmp_total : IsTotalOrder csn_cmp
csn_cmp_total =
    then_total (on_total (λ (c : CsnValue). c.micros) nat_cmp_total)
    (then_total (on_total (λ (c : CsnValue). c.count) nat_cmp_total)
    (then_total (on_total (λ (c : CsnValue). c.sid) nat_cmp_total) (on_total (λ (c : CsnValue). c.part) nat_cmp_total)))

-- what passes the test is less
pub less_from : (o : Ordering) → is_lt o ≡ true → o ≡ Less
less_from Less h = refl
less_from Equal h = absurd cc
less_from Greater h = absurd cc

-- a CSN that is before another compares as less
pub csn_cmp-before : (a b : CsnValue) → is_before a b ≡ true → csn_cmp a b ≡ Less
csn_cmp-before a b h = less_from (csn_cmp a b) h

-- a CSN is not greater than itself
pub is_upto-itself : (a : CsnValue) → is_upto a a ≡ true
is_upto-itself a = rw (tied_itself csn_cmp_total a) refl

-- nor than one that it is less than
pub is_upto-before : (a b : CsnValue) → csn_cmp a b ≡ Less → is_upto a b ≡ true
is_upto-before a b h = rw h refl

-- a later CSN is not up to an earlier one
pub is_upto-after : (a b : CsnValue) → csn_cmp a b ≡ Less → is_upto b a ≡ false
is_upto-after a b h = rw (csn_cmp_total.antisymm b a, h) refl

-- one CSN more
pub upto-cons : (s csn : CsnValue) (csns : List CsnValue) → upto (s ∷ csns) csn ≡ cond (is_upto s csn) 1 0 + upto csns csn
upto-cons s csn csns = sum_by-cons (λ one. cond (is_upto one csn) 1 0) s csns

counted : (s csn : CsnValue) (csns : List CsnValue) → is_upto s csn ≡ true → upto (s ∷ csns) csn ≡ 1 + upto csns csn
counted s csn csns h = upto-cons s csn csns ∙ ap (λ b. cond b 1 0 + upto csns csn) h

passed : (s csn : CsnValue) (csns : List CsnValue) → is_upto s csn ≡ false → upto (s ∷ csns) csn ≡ upto csns csn
passed s csn csns h = upto-cons s csn csns ∙ ap (λ b. cond b 1 0 + upto csns csn) h ∙ zero-add (upto csns csn)

-- none of the CSNs that come later is counted
upto-later : (csn : CsnValue) (later : List CsnValue) → AllByRecursion (λ s. csn_cmp csn s ≡ Less) later → upto later csn ≡ 0
upto-later csn [] h = refl
upto-later csn (s ∷ later) h = passed s csn later (is_upto-after csn s h.0) ∙ upto-later csn later h.1

here : (s csn : CsnValue) (earlier later : List CsnValue) → AllByRecursion (λ t. csn_cmp s t ≡ Less) (earlier ++ csn ∷ later) → csn_cmp s csn ≡ Less
here s csn [] later h = h.0
here s csn (t ∷ earlier) later h = here s csn earlier later h.1

-- of CSNs that rise strictly, those up to one of them are it and those before it
pub upto-rising : (csn : CsnValue) (earlier later : List CsnValue) → IsStrictlySortedBy csn_cmp (earlier ++ csn ∷ later)
    → upto (earlier ++ csn ∷ later) csn ≡ length earlier + 1
upto-rising csn [] later rises =
    counted csn csn later (is_upto-itself csn) ∙ ap (λ n. 1 + n) (upto-later csn later (sorted_head csn_cmp csn later rises))
upto-rising csn (s ∷ earlier) later rises =
    let rest = earlier ++ csn ∷ later in
    let before = here s csn earlier later (sorted_head csn_cmp s rest rises) in
    let more = upto-rising csn earlier later (sorted_tail csn_cmp s rest rises) in
    omega (arith, counted s csn rest (is_upto-before s csn before), more)
