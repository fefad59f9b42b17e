-- The CSNs of a directory's writes rise, and each reports how many writes led to its content.
use Rattle.std.proofs.Common.{◌≡◌, ◌<◌, ◌≤◌, ◌+◌, min, ℕ, zero, suc, Bool, true, false, cond, nat_lt, List, [], ◌∷◌, ◌++◌, length, take, get_or, Option, Some, None, refl, ap, sym, ◌∙◌, arith}
use Rattle.std.specs.List.{AllByRecursion}
use Rattle.std.specs.List.Sorted.{IsStrictlySortedBy, IsPartitionedBy, IsPartitionPoint}
use Rattle.std.specs.Ordering.{nat_cmp, ordering_then, is_lt}
use Rattle.std.specs.declared.cmp.Ordering.TheVariants.{Less}
use Rattle.std.proofs.lemmas.Bool.{ltb-true}
use Rattle.std.proofs.lemmas.List.{length-map}
use Rattle.std.proofs.lemmas.List.Sums.{count_by-le-length}
use Rattle.std.proofs.lemmas.Map.Keys.{sorted_head, sorted_tail}
use Rattle.csn_cookie.specs.Csn.{CsnValue, start, csn_cmp, is_before, is_upto, upto, greatest_micros}
use Rattle.csn_cookie.specs.CsnMaker.{next_csn, csn_from, greatest_count}
use Rattle.csn_cookie.proofs.OrderLemmas.{csn_cmp_total, csn_cmp-before, is_upto-itself, is_upto-before, upto-cons, upto-rising}
use Rattle.csn_cookie.proofs.UptoLemmas.{is_upto_then}
use Rattle.entry_tree.specs.declared.op.Write.{Write}
use Rattle.directory_writes.specs.Directory.{last_csn, csns, CsnsRise}
use Rattle.directory_writes.proofs.Keyed.{less_cmp, same_cmp}

abbrev Above : CsnValue → List CsnValue → Type 0
Above first later = AllByRecursion (λ s. csn_cmp first s ≡ Less) later

-- ---- CSNs that rise, and one more

above-all : (first next : CsnValue) (later : List CsnValue) → csn_cmp first next ≡ Less → Above next later → Above first later
above-all first next [] less each = tt
above-all first next (s ∷ later) less each = (csn_cmp_total.trans first next s less each.0, above-all first next later less each.1)

rises-push_from : (first : CsnValue) (writes : List Write) (w : Write) → is_before (last_csn first writes) w.csn ≡ true
    → IsStrictlySortedBy csn_cmp (first ∷ csns writes) → IsStrictlySortedBy csn_cmp (first ∷ csns (writes ++ w ∷ []))
unfolding IsStrictlySortedBy
rises-push_from first [] w before rise = ((csn_cmp-before first w.csn before, tt), (tt, tt))
rises-push_from first (next ∷ writes) w before rise =
    let later = rises-push_from next.csn writes w before rise.1 in
    ((rise.0.0, above-all first next.csn (csns (writes ++ w ∷ [])) rise.0.0 later.0), later)

-- CSNs of writes ascend with a later one at the end
pub rises-push : (sid : ℕ) (writes : List Write) (w : Write) → is_before (last_csn (start sid) writes) w.csn ≡ true
    → CsnsRise sid writes → CsnsRise sid (writes ++ w ∷ [])
rises-push sid writes w before rise = rises-push_from (start sid) writes w before rise

-- the CSNs ascend where there is no write
pub rises-none : (sid : ℕ) → CsnsRise sid []
unfolding IsStrictlySortedBy
rises-none sid = (tt, tt)

-- the last CSN is that of the last write
pub last_csn-push : (first : CsnValue) (writes : List Write) (write : Write) → last_csn first (writes ++ write ∷ []) ≡ write.csn
last_csn-push first [] write = refl
last_csn-push first (next ∷ writes) write = last_csn-push next.csn writes write

-- ---- how many CSNs are not above the last of a prefix

among : (first : CsnValue) (writes : List Write) (low : CsnValue) → csn_cmp low first ≡ Less → Above low (csns writes) → (count : ℕ)
    → csn_cmp low (last_csn first (take count writes)) ≡ Less
among first writes low less each zero = less
among first [] low less each (suc count) = less
among first (w ∷ writes) low less each (suc count) = among w.csn writes low each.0 each.1 count

upto_first : (first : CsnValue) (writes : List Write) → IsStrictlySortedBy csn_cmp (first ∷ csns writes) → (count : ℕ) → count ≤ length writes
    → upto (first ∷ csns writes) (last_csn first (take count writes)) ≡ count + 1
upto_first first writes rise zero few = upto-rising first [] (csns writes) rise
upto_first first [] rise (suc count) few = absurd (omega (arith, few))
upto_first first (w ∷ writes) rise (suc count) few =
    let last = last_csn w.csn (take count writes) in
    let above = sorted_head csn_cmp first (csns (w ∷ writes)) rise in
    let less : csn_cmp first last ≡ Less = among w.csn writes first above.0 above.1 count in
    let rest : upto (csns (w ∷ writes)) last ≡ count + 1 = upto_first w.csn writes (sorted_tail csn_cmp first (csns (w ∷ writes)) rise) count (omega (arith, few)) in
    upto-cons first last (csns (w ∷ writes))
    ∙ ap (λ b. cond b 1 0 + upto (csns (w ∷ writes)) last) (is_upto-before first last less)
    ∙ ap (λ n. 1 + n) rest
    ∙ omega arith

not_above : (first : CsnValue) (writes : List Write) → IsStrictlySortedBy csn_cmp (first ∷ csns writes) → (count : ℕ) → is_upto first (last_csn first (take count writes)) ≡ true
not_above first writes rise zero = is_upto-itself first
not_above first [] rise (suc count) = is_upto-itself first
not_above first (w ∷ writes) rise (suc count) =
    let above = sorted_head csn_cmp first (csns (w ∷ writes)) rise in
    is_upto-before first (last_csn w.csn (take count writes)) (among w.csn writes first above.0 above.1 count)

-- the CSN of write `count`, or the one before all, is not below those of the first `count` writes alone
pub upto_csn : (sid : ℕ) (writes : List Write) → CsnsRise sid writes → (count : ℕ) → count ≤ length writes
    → upto (csns writes) (last_csn (start sid) (take count writes)) ≡ count
upto_csn sid writes rise count few =
    let last = last_csn (start sid) (take count writes) in
    let with_first : upto (start sid ∷ csns writes) last ≡ count + 1 = upto_first (start sid) writes rise count few in
    let first : upto (start sid ∷ csns writes) last ≡ 1 + upto (csns writes) last =
    upto-cons (start sid) last (csns writes) ∙ ap (λ b. cond b 1 0 + upto (csns writes) last) (not_above (start sid) writes rise count) in
    omega (arith, with_first, first)

-- ---- how many writes have a CSN that is not above one

above_at : (first : CsnValue) (writes : List Write) → Above first (csns writes) → (j : ℕ) (d : Write) → j < length writes → csn_cmp first (get_or writes j d).csn ≡ Less
above_at first [] each j d low = absurd (omega (arith, low))
above_at first (w ∷ writes) each zero d low = each.0
above_at first (w ∷ writes) each (suc j) d low = above_at first writes each.1 j d (omega (arith, low))

-- where CSNs rise, those that are not above one come before all others
pub upto_parted : (csn first : CsnValue) (writes : List Write) → IsStrictlySortedBy csn_cmp (first ∷ csns writes) → IsPartitionedBy (λ (write : Write). is_upto write.csn csn) writes
upto_parted csn first [] rise i j d order low h = absurd (omega (arith, low))
upto_parted csn first (w ∷ writes) rise zero zero d order low h = h
upto_parted csn first (w ∷ writes) rise zero (suc j) d order low h =
    let rest = sorted_tail csn_cmp first (csns (w ∷ writes)) rise in
    let less : csn_cmp w.csn (get_or writes j d).csn ≡ Less = above_at w.csn writes (sorted_head csn_cmp w.csn (csns writes) rest) j d (omega (arith, low)) in
    is_upto_then w.csn (get_or writes j d).csn csn (is_upto-before w.csn (get_or writes j d).csn less) h
upto_parted csn first (w ∷ writes) rise (suc i) zero d order low h = absurd (omega (arith, order))
upto_parted csn first (w ∷ writes) rise (suc i) (suc j) d order low h =
    upto_parted csn w.csn writes (sorted_tail csn_cmp first (csns (w ∷ writes)) rise) i j d (omega (arith, order)) (omega (arith, low)) h

-- where the writes before a place alone have a CSN that is not above one, they are as many as such CSNs
pub upto_at : (csn : CsnValue) (writes : List Write) (i : ℕ) → i ≤ length writes
    → IsPartitionPoint (λ (write : Write). is_upto write.csn csn ≡ true) (λ (write : Write). is_upto write.csn csn ≡ false) writes i → i ≡ upto (csns writes) csn
upto_at csn [] i low point = let none : i ≡ 0 = omega (arith, low) in none
upto_at csn (w ∷ writes) zero low point =
    let far : is_upto w.csn csn ≡ false = point.1 zero w (omega arith) (omega arith) in
    let rest : 0 ≡ upto (csns writes) csn =
    upto_at csn writes zero (omega arith) ((λ k d above below. absurd (omega (arith, below))), (λ k d above below. point.1 (suc k) d (omega arith) (omega (arith, below)))) in
    let all : upto (csns (w ∷ writes)) csn ≡ upto (csns writes) csn = upto-cons w.csn csn (csns writes) ∙ ap (λ b. cond b 1 0 + upto (csns writes) csn) far ∙ omega arith in
    omega (arith, all, rest)
upto_at csn (w ∷ writes) (suc i) low point =
    let near : is_upto w.csn csn ≡ true = point.0 zero w (omega arith) (omega arith) in
    let rest : i ≡ upto (csns writes) csn =
    upto_at csn writes i (omega (arith, low))
    ((λ k d above below. point.0 (suc k) d (omega arith) (omega (arith, below))), (λ k d above below. point.1 (suc k) d (omega (arith, above)) (omega (arith, below)))) in
    let all : upto (csns (w ∷ writes)) csn ≡ 1 + upto (csns writes) csn = upto-cons w.csn csn (csns writes) ∙ ap (λ b. cond b 1 0 + upto (csns writes) csn) near in
    omega (arith, all, rest)

-- ---- the CSNs that are drawn rise

later_time : (last : CsnValue) (micros count : ℕ) → last.micros < micros → is_before last (csn_from last.sid micros count) ≡ true
later_time last micros count less =
    ap (λ o. is_lt (ordering_then o (ordering_then (nat_cmp last.count count) (ordering_then (nat_cmp last.sid last.sid) (nat_cmp last.part 0))))) (less_cmp last.micros micros less)

later_count : (last : CsnValue) (count : ℕ) → last.count < count → is_before last (csn_from last.sid last.micros count) ≡ true
later_count last count less =
    ap (λ o. is_lt (ordering_then o (ordering_then (nat_cmp last.count count) (ordering_then (nat_cmp last.sid last.sid) (nat_cmp last.part 0))))) (same_cmp last.micros last.micros refl)
    ∙ ap (λ o. is_lt (ordering_then o (ordering_then (nat_cmp last.sid last.sid) (nat_cmp last.part 0)))) (less_cmp last.count count less)

-- a CSN that is drawn is later than the last one
pub next_rises : (now : ℕ) (last csn : CsnValue) → next_csn now last ≡ Some csn → is_before last csn ≡ true
next_rises now last csn is =
    by (nat_lt last.micros (min now greatest_micros)) refl (nat_lt last.count greatest_count) (nat_lt last.micros greatest_micros) is
  where
    spent : Option CsnValue
    spent = None

    drawn : (next : CsnValue) → is_before last next ≡ true → Some next ≡ Some csn → is_before last csn ≡ true
    drawn next before same = let is : next ≡ csn = cc in ap (is_before last) (sym is) ∙ before

    by : (a : Bool) → nat_lt last.micros (min now greatest_micros) ≡ a → (b c : Bool)
        → cond a (Some (csn_from last.sid (min now greatest_micros) 0))
        (cond b (Some (csn_from last.sid last.micros (last.count + 1))) (cond c (Some (csn_from last.sid (last.micros + 1) 0)) spent)) ≡ Some csn
        → is_before last csn ≡ true
    by true less b c h = drawn (csn_from last.sid (min now greatest_micros) 0) (later_time last (min now greatest_micros) 0 (ltb-true last.micros (min now greatest_micros) less)) h
    by false less true c h = drawn (csn_from last.sid last.micros (last.count + 1)) (later_count last (last.count + 1) (omega arith)) h
    by false less false true h = drawn (csn_from last.sid (last.micros + 1) 0) (later_time last (last.micros + 1) 0 (omega arith)) h
    by false less false false h = let never : ⊥ = cc in absurd never

-- not more CSNs are up to one than there are writes
pub upto_low : (writes : List Write) (csn : CsnValue) → upto (csns writes) csn ≤ length writes
upto_low writes csn = omega (arith, count_by-le-length (λ one. is_upto one csn) (csns writes), length-map writes (λ (w : Write). w.csn))
