-- The messages of a link by their numbers.
use Rattle.std.proofs.Common.{◌≡◌, ◌≤◌, ◌+◌, ◌-◌, ℕ, List, [], ◌∷◌, ◌++◌, Some, None, length, drop, cond, refl, ap, sym, ◌∙◌, arith}
use Rattle.std.specs.List.{slice_get}
use Rattle.std.specs.Map.{values_of, remove_entry}
use Rattle.std.specs.BTreeMap.{insert_entry, is_at}
use Rattle.std.specs.Ordering.{nat_cmp, match_ordering}
use Rattle.std.proofs.lemmas.List.Sums.{sum_by-cons, sum_by_push}
use Rattle.directory_writes.proofs.Keyed.{more_cmp, is_at-same}
use Rattle.cascade_nodes.specs.Link.{AreBelow, link_size, most_link}

abbrev Numbered : Type 0
Numbered = List (ℕ × List ℕ)

-- what has a number above all others goes to the end
at_end : (es : Numbered) (next : ℕ) (message : List ℕ) → AreBelow next es → insert_entry nat_cmp es next message ≡ es ++ (next, message) ∷ []
at_end [] next message below = refl
at_end (e ∷ es) next message below =
    ap (λ o. match_ordering o ((next, message) ∷ e ∷ es) ((e.0, message) ∷ es) (e ∷ insert_entry nat_cmp es next message)) (more_cmp next e.0 below.0)
    ∙ ap (λ xs. e ∷ xs) (at_end es next message below.1)

values_push : (es : Numbered) (next : ℕ) (message : List ℕ) → values_of (es ++ (next, message) ∷ []) ≡ values_of es ++ message ∷ []
values_push [] next message = refl
values_push (e ∷ es) next message = ap (λ xs. e.1 ∷ xs) (values_push es next message)

-- a message with the next number stands after the others
pub with_last : (es new : Numbered) (next : ℕ) (message : List ℕ) → AreBelow next es → new ≡ insert_entry nat_cmp es next message → values_of new ≡ values_of es ++ message ∷ []
with_last es new next message below is = ap values_of (is ∙ at_end es next message below) ∙ values_push es next message

below_push : (es : Numbered) (next : ℕ) (message : List ℕ) → AreBelow next es → AreBelow (next + 1) (es ++ (next, message) ∷ [])
below_push [] next message below = (omega arith, tt)
below_push (e ∷ es) next message below = (omega (arith, below.0), below_push es next message below.1)

-- and the number after it is above all
pub last_below : (es new : Numbered) (next : ℕ) (message : List ℕ) → AreBelow next es → new ≡ insert_entry nat_cmp es next message → AreBelow (next + 1) new
last_below es new next message below is = rw (is ∙ at_end es next message below) (below_push es next message below)

-- so the numbers and the size are those of the messages still
pub with_last_holds : (es new : Numbered) (next bytes : ℕ) (message octets : List ℕ) → AreBelow next es → bytes ≡ link_size (values_of es) → new ≡ insert_entry nat_cmp es next message → octets ≡ message → bytes + length octets ≤ most_link
    → AreBelow (next + 1) new × ((bytes + length octets ≡ link_size (values_of new)) × (bytes + length octets ≤ most_link))
with_last_holds es new next bytes message octets below size is same small =
    let whole : bytes + length octets ≡ link_size (values_of new) =
    ap (λ b. b + length octets) size ∙ ap (λ (m : List ℕ). link_size (values_of es) + length m) same ∙ sym (sum_by_push length (values_of es) message) ∙ sym (ap link_size (with_last es new next message below is)) in
    (last_below es new next message below is, (whole, small))

-- ---- the first message

-- it stands before the others
pub first_stands : (es : Numbered) (number : ℕ) (message octets : List ℕ) → Some (number, message) ≡ slice_get es 0 → octets ≡ message → values_of es ≡ octets ∷ drop 1 (values_of es)
first_stands [] number message octets first same = cc
first_stands (e ∷ es) number message octets first same =
    let own : (number, message) ≡ e = cc in
    ap (λ (m : List ℕ). m ∷ values_of es) (sym (same ∙ ap (λ x. x.1) own))

-- without it these are left
first_popped : (es new : Numbered) (number : ℕ) (message : List ℕ) → Some (number, message) ≡ slice_get es 0 → new ≡ remove_entry (is_at (nat_cmp number)) es → values_of es ≡ message ∷ values_of new
first_popped [] new number message first is = cc
first_popped (e ∷ es) new number message first is =
    let own : (number, message) ≡ e = cc in
    let one : number ≡ e.0 = ap (λ x. x.0) own in
    let rest : new ≡ es = is ∙ ap (λ b. cond b es (e ∷ remove_entry (is_at (nat_cmp number)) es)) (is_at-same number e.0 one) in
    λ i. (sym (ap (λ x. x.1) own)) i ∷ values_of (sym rest i)

-- a link without the pair of its least number is a link without its first message
pub first_dropped : (es new : Numbered) (number : ℕ) (message : List ℕ) → Some (number, message) ≡ slice_get es 0 → new ≡ remove_entry (is_at (nat_cmp number)) es → values_of new ≡ drop 1 (values_of es)
first_dropped es new number message first is = sym (ap (λ (link : List (List ℕ)). drop 1 link) (first_popped es new number message first is))

-- where there is none, none is left
pub none_there : (es : Numbered) → None ≡ slice_get es 0 → values_of es ≡ []
none_there [] none = refl
none_there (e ∷ es) none = cc

-- an empty link stays empty
pub none_dropped : (es : Numbered) → None ≡ slice_get es 0 → values_of es ≡ drop 1 (values_of es)
none_dropped [] none = refl
none_dropped (e ∷ es) none = cc

-- the numbers that are left are below the next one still
rest_below : (es new : Numbered) (next number : ℕ) (message : List ℕ) → AreBelow next es → Some (number, message) ≡ slice_get es 0 → new ≡ remove_entry (is_at (nat_cmp number)) es → AreBelow next new
rest_below [] new next number message below first is = cc
rest_below (e ∷ es) new next number message below first is =
    let same : (number, message) ≡ e = cc in
    let one : number ≡ e.0 = ap (λ x. x.0) same in
    rw (is ∙ ap (λ b. cond b es (e ∷ remove_entry (is_at (nat_cmp number)) es)) (is_at-same number e.0 one)) below.1

-- its size is counted beside that of what is left
pub first_size : (es new : Numbered) (number : ℕ) (message octets : List ℕ) → Some (number, message) ≡ slice_get es 0 → octets ≡ message → new ≡ remove_entry (is_at (nat_cmp number)) es
    → link_size (values_of es) ≡ length octets + link_size (values_of new)
first_size es new number message octets first same is =
    ap link_size (first_popped es new number message first is)
    ∙ sum_by-cons length message (values_of new)
    ∙ ap (λ (m : List ℕ). length m + link_size (values_of new)) (sym same)

-- so the numbers and the size are those of what is left
pub first_dropped_holds : (es new : Numbered) (next bytes number : ℕ) (message octets : List ℕ) → AreBelow next es → bytes ≡ link_size (values_of es) → bytes ≤ most_link
    → Some (number, message) ≡ slice_get es 0 → octets ≡ message → new ≡ remove_entry (is_at (nat_cmp number)) es
    → AreBelow next new × ((bytes - length octets ≡ link_size (values_of new)) × (bytes - length octets ≤ most_link))
first_dropped_holds es new next bytes number message octets below size small first same is =
    let whole = first_size es new number message octets first same is in
    (rest_below es new next number message below first is, (omega (arith, size, whole), omega (arith, small)))
