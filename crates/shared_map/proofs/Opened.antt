-- Nodes that are opened: their pairs are those of their node.
use Rattle.std.proofs.Common.{◌≡◌, ap, ◌∙◌, subst, Ordering, List, [], ◌∷◌, ◌++◌, drop, refl, true≢false, is_some}
use Rattle.std.specs.Prelude.{Option, None, Some, Result, Ok, Err, IfOk, slice_get}
use Rattle.std.specs.List.Sorted.{IsStrictlySortedBy}
use Rattle.std.specs.Map.{keys_of}
use Rattle.std.specs.Option.{option_map, option_or}
use Rattle.shared_map.specs.declared.nodes.Nodes.{Nodes}
use Rattle.shared_map.specs.declared.nodes.Node.{Node}
use Rattle.shared_map.specs.Nodes.{pair_of, pairs, pairs_of}
use Rattle.shared_map.proofs.Keys.{ascends_before, ascends_after}

module _ {K V : Type 0} (cmp : K → K → Ordering) (nodes : Nodes K V) (node : Node K V)
    (opened : pairs nodes ≡ pairs_of node)
    (ascends : IsStrictlySortedBy cmp (keys_of (pairs nodes))) where
  -- the keys of a node ascend
  pub ascends-opened : IsStrictlySortedBy cmp (keys_of (pairs_of node))
  ascends-opened = subst (λ es. IsStrictlySortedBy cmp (keys_of es)) opened ascends

  -- so do those of its lower nodes
  pub ascends-lower : IsStrictlySortedBy cmp (keys_of (pairs node.lower))
  ascends-lower =
      ascends_before cmp (pairs node.lower) (pair_of node.pair ∷ pairs node.higher) ascends-opened

  -- so do those of its higher nodes
  pub ascends-higher : IsStrictlySortedBy cmp (keys_of (pairs node.higher))
  ascends-higher =
      ascends_after cmp (pairs node.lower) (pair_of node.pair) (pairs node.higher) ascends-opened

-- what a value is seen as, if there is one, may be written otherwise
pub IfOk-same : {T E A : Type 0} (r : Result T E) (seen : T → A) (x y : A)
    → IfOk r (λ made. seen made ≡ x) → x ≡ y → IfOk r (λ made. seen made ≡ y)
IfOk-same (Ok made) seen x y h e = h ∙ e
IfOk-same (Err fault) seen x y h e = tt

-- what two facts say of a value together, if there is one
pub IfOk-both : {T E : Type 0} (r : Result T E) (P Q R : T → Type 0)
    → ((made : T) → P made → Q made → R made) → IfOk r P → IfOk r Q → IfOk r R
IfOk-both (Ok made) P Q R more p q = more made p q
IfOk-both (Err fault) P Q R more p q = tt

-- one or the other, seen by a function
pub option_map-or : {A B : Type 0} (f : A → B) (o p : Option A)
    → option_map f (option_or o p) ≡ option_or (option_map f o) (option_map f p)
option_map-or f None p = refl
option_map-or f (Some x) p = refl

-- the first is one of those before, if there are any
pub drop-first : {A : Type 0} (before : List A) (x : A) (after rest : List A)
    → drop 1 ((before ++ x ∷ after) ++ rest) ≡ drop 1 (before ++ x ∷ after) ++ rest
drop-first [] x after rest = refl
drop-first (first ∷ before) x after rest = refl

-- a list without a first element is empty
pub nothing-first : {A : Type 0} (es : List A) → slice_get es 0 ≡ None → es ≡ []
nothing-first [] none = refl
nothing-first (x ∷ es) none = absurd (true≢false (ap is_some none))
