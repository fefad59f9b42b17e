-- Names that are equal.
use Rattle.std.proofs.Common.{◌≡◌, true, false, ℕ, List, refl, sym, subst, ◌∙◌, inl, inr}
use Rattle.std.proofs.lemmas.Bool.{cases_Bool}
use Rattle.std.proofs.lemmas.Slice.Eq.{bytes_eq-Decides}
use Rattle.std.specs.Str.{bytes_eq}
use Rattle.cascade_nodes.specs.declared.node.ConsumerNode.{ConsumerNode}
use Rattle.entry_tree.proofs.NameKeys.{same_bytes}

-- each name is compared as equal to itself
pub itself : (name : List ℕ) → bytes_eq name name ≡ true
itself name = (bytes_eq-Decides name name).1 refl

-- the comparison of names goes both ways
pub other_way : (a b : List ℕ) → bytes_eq a b ≡ false → bytes_eq b a ≡ false
other_way a b miss =
    elim (cases_Bool (bytes_eq b a)) [
      | inl hit ↦ let bad : bytes_eq a b ≡ true = subst (λ x. bytes_eq x b ≡ true) (same_bytes b a hit) (itself b) in let worse : false ≡ true = sym miss ∙ bad in cc
      | inr so ↦ so
    ]

-- a consumer node with another source
abbrev pub pointed_at : List ℕ → ConsumerNode → ConsumerNode
pointed_at source consumer_node = record consumer_node { source = source }
