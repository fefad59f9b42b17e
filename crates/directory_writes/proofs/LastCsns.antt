-- The last CSN of the first writes is not above that of all.
use Rattle.std.proofs.Common.{◌≡◌, ℕ, zero, suc, true, List, [], ◌∷◌, take}
use Rattle.std.specs.List.Sorted.{IsStrictlySortedBy}
use Rattle.std.proofs.lemmas.Map.Keys.{sorted_head, sorted_tail}
use Rattle.csn_cookie.specs.Csn.{CsnValue, csn_cmp, is_upto}
use Rattle.csn_cookie.proofs.OrderLemmas.{is_upto-itself, is_upto-before}
use Rattle.csn_cookie.proofs.UptoLemmas.{is_upto_then}
use Rattle.entry_tree.specs.declared.op.Write.{Write}
use Rattle.directory_writes.specs.Directory.{last_csn, csns}

-- ---- the last of a prefix, and the last of all

last_not_below : (first : CsnValue) (writes : List Write) → IsStrictlySortedBy csn_cmp (first ∷ csns writes) → is_upto first (last_csn first writes) ≡ true
last_not_below first [] rise = is_upto-itself first
last_not_below first (w ∷ writes) rise =
    let above = sorted_head csn_cmp first (csns (w ∷ writes)) rise in
    is_upto_then first w.csn (last_csn w.csn writes) (is_upto-before first w.csn above.0) (last_not_below w.csn writes (sorted_tail csn_cmp first (csns (w ∷ writes)) rise))

-- the last CSN of the first n writes is not above that of all, where CSNs rise
pub prefix_upto : (first : CsnValue) (writes : List Write) → IsStrictlySortedBy csn_cmp (first ∷ csns writes) → (count : ℕ) → is_upto (last_csn first (take count writes)) (last_csn first writes) ≡ true
prefix_upto first writes rise zero = last_not_below first writes rise
prefix_upto first [] rise (suc count) = is_upto-itself first
prefix_upto first (w ∷ writes) rise (suc count) = prefix_upto w.csn writes (sorted_tail csn_cmp first (csns (w ∷ writes)) rise) count
