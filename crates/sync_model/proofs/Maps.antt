-- What is at one identity after a change of a list by identities.
use Rattle.std.proofs.Common.{◌≡◌, ℕ, Bool, cond, nat_eq, List, [], ◌∷◌, ◌++◌, refl, arith, Some, None, Option}
use Rattle.std.specs.Prelude.{not, ◌||◌, ◌&&◌, filter}
use Rattle.std.proofs.lemmas.Bool.Decides.{nat_tests}
use Rattle.std.specs.BTreeSet.{insert_key}
use Rattle.std.specs.Ordering.{nat_cmp}
use Rattle.entry_tree.specs.declared.entry.Entry.{Entry}
use Rattle.entry_tree.specs.State.{entry_at, is_identified}
use Rattle.entry_tree.specs.Touched.{joined}
use Rattle.entry_tree.proofs.Rising.{among-insert}
use Rattle.sync_model.specs.Stream.{among}
use Rattle.sync_model.specs.Copy.{Stage, slot, staged, all_dropped}

-- what is staged of an identity after one more change
pub slot-staged : (stage : Stage) (v : ℕ) (change : Option Entry) (u : ℕ) → slot (staged v change stage) u ≡ cond (nat_eq u v) (Some change) (slot stage u)
slot-staged [] v change u = refl
slot-staged (s ∷ stage) v change u = grind (arith, nat_tests, slot-staged stage v change u)

-- an identity is in a union where it is in one of its parts
pub among-joined : (ys xs : List ℕ) (u : ℕ) → among u (joined xs ys) ≡ (among u xs || among u ys)
among-joined [] xs u = grind (arith, nat_tests)
among-joined (y ∷ ys) xs u = grind (arith, nat_tests, among-joined ys (insert_key nat_cmp xs y) u, among-insert u xs y)

-- an identity is in two lists together where it is in one of them
pub among-append : (u : ℕ) (xs ys : List ℕ) → among u (xs ++ ys) ≡ (among u xs || among u ys)
among-append u [] ys = refl
among-append u (x ∷ xs) ys = grind (arith, nat_tests, among-append u xs ys)

-- those that pass a test on identities
pub among-filter : (test : ℕ → Bool) (xs : List ℕ) (u : ℕ) → among u (filter test xs) ≡ (among u xs && test u)
among-filter test [] u = refl
among-filter test (x ∷ xs) u = grind (arith, nat_tests, among-filter test xs u)

-- each identity but one stays
pub entry_at-dropped : (entries : List Entry) (v u : ℕ) → entry_at (filter (λ entry. not (is_identified v entry)) entries) u ≡ cond (nat_eq u v) None (entry_at entries u)
entry_at-dropped [] v u = grind (arith, nat_tests)
entry_at-dropped (e ∷ entries) v u = grind (arith, nat_tests, entry_at-dropped entries v u)

-- what is staged of an identity after some are dropped
pub slot-all_dropped : (us : List ℕ) (stage : Stage) (u : ℕ) → slot (all_dropped stage us) u ≡ cond (among u us) (Some None) (slot stage u)
slot-all_dropped [] stage u = refl
slot-all_dropped (v ∷ us) stage u = grind (arith, nat_tests, slot-all_dropped us (staged v None stage) u, slot-staged stage v None u)
