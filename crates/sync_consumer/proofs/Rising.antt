-- Numbers in ascending order.
use Rattle.std.proofs.Common.{◌≡◌, ℕ, true, List, ◌∷◌}
use Rattle.std.proofs.lemmas.Bool.{and_parts}
use Rattle.entry_tree.proofs.Rising.{below_all}
use Rattle.entry_tree.specs.Touched.{rises}

-- ascending numbers ascend without the first
pub tail_rises : (n : ℕ) (ns : List ℕ) → rises (n ∷ ns) ≡ true → rises ns ≡ true
tail_rises n ns up = (and_parts (below_all n ns) (rises ns) up).1

-- the first of ascending numbers is below the others
pub head_below : (n : ℕ) (ns : List ℕ) → rises (n ∷ ns) ≡ true → below_all n ns ≡ true
head_below n ns up = (and_parts (below_all n ns) (rises ns) up).0
