-- The place of an entry, as a binary search finds it.
use Rattle.std.proofs.Common.{◌≡◌, ◌<◌, ◌≤◌, ℕ, zero, suc, true, nat_lt, List, [], ◌∷◌, length, get_or, set, subst, arith}
use Rattle.std.specs.Cmp.{ranks}
use Rattle.std.specs.List.{HoldsAt, insert}
use Rattle.std.specs.List.Sorted.{IsNonDecreasingBy, IsPartitionPoint}
use Rattle.std.specs.Ordering.{nat_cmp, MatchOrdering, ordering_index}
use Rattle.std.specs.declared.cmp.Ordering.TheVariants.{Less, Equal, Greater}
use Rattle.std.proofs.lemmas.Bool.{and_parts, ltb-true}
use Rattle.std.proofs.lemmas.Bool.Decides.{nat_tests}
use Rattle.std.proofs.lemmas.List.Sums.{AllPass-from_list_all}
use Rattle.entry_writes.specs.declared.entry.Entry.{Entry}
use Rattle.entry_writes.specs.State.{ascends, put}
use Rattle.entry_writes.proofs.Identities.{above}
use Rattle.entry_tree.proofs.Putting.{set_puts, insert_puts}

-- what the order of two numbers reports
pub less_where : (a b : ℕ) → nat_cmp a b ≡ Less → a < b
less_where a b is = subst (λ o. MatchOrdering o (a < b) (a ≡ b) (b < a)) is (ranks a b)

-- numbers that are ordered as equal are equal
pub same_where : (a b : ℕ) → nat_cmp a b ≡ Equal → a ≡ b
same_where a b is = subst (λ o. MatchOrdering o (a < b) (a ≡ b) (b < a)) is (ranks a b)

-- what is compared as greater is greater
pub more_where : (a b : ℕ) → nat_cmp a b ≡ Greater → b < a
more_where a b is = subst (λ o. MatchOrdering o (a < b) (a ≡ b) (b < a)) is (ranks a b)

rises : (es : List Entry) → ascends es ≡ true → (i j : ℕ) (d : Entry) → i ≤ j → j < length es → (get_or es i d).uuid ≤ (get_or es j d).uuid
rises [] asc i j d up low = absurd (omega arith)
rises (x ∷ es) asc zero zero d up low = omega arith
rises (x ∷ es) asc zero (suc j) d up low =
    let p = and_parts (above x.uuid es) (ascends es) asc in
    let far : nat_lt x.uuid (get_or es j d).uuid ≡ true = AllPass-from_list_all (λ (y : Entry). nat_lt x.uuid y.uuid) es p.0 j d (omega arith) in
    let below : x.uuid < (get_or es j d).uuid = ltb-true x.uuid (get_or es j d).uuid far in
    omega arith
rises (x ∷ es) asc (suc i) zero d up low = absurd (omega arith)
rises (x ∷ es) asc (suc i) (suc j) d up low = rises es (and_parts (above x.uuid es) (ascends es) asc).1 i j d (omega arith) (omega arith)

index_rises : (a b u : ℕ) → a ≤ b → ordering_index (nat_cmp a u) ≤ ordering_index (nat_cmp b u)
index_rises a b u le = grind (arith, nat_tests)

-- setting an entry at the place that a search finds is a put
pub set_found : (e : Entry) (es : List Entry) (place : ℕ) → ascends es ≡ true → place < length es → HoldsAt (λ (y : Entry). nat_cmp y.uuid e.uuid ≡ Equal) es place
    → set es place e ≡ put e es
set_found e es place asc low at = set_puts e es place asc low (same_where (get_or es place e).uuid e.uuid (at e))

-- inserting an entry at the place that a search gives is a put
pub insert_found : (e : Entry) (es : List Entry) (place : ℕ) → ascends es ≡ true → place ≤ length es
    → (IsNonDecreasingBy (λ (y : Entry). ordering_index (nat_cmp y.uuid e.uuid)) es → IsPartitionPoint (λ (y : Entry). nat_cmp y.uuid e.uuid ≡ Less) (λ (y : Entry). nat_cmp y.uuid e.uuid ≡ Greater) es place)
    → insert es place e ≡ put e es
insert_found e es place asc low found =
    let parted = found (λ i j d up less. index_rises (get_or es i d).uuid (get_or es j d).uuid e.uuid (rises es asc i j d up less)) in
    insert_puts e es place asc low (λ k less. less_where (get_or es k e).uuid e.uuid (parted.0 k e (omega arith) less))
    (λ k from less. more_where (get_or es k e).uuid e.uuid (parted.1 k e from less))
