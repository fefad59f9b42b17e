-- Facts of each element of a list.
use Rattle.std.proofs.Common.{◌≡◌, ℕ, zero, suc, List, [], ◌∷◌, ◌++◌, map, take, drop, Option, Some, None, IfSome, refl}
use Rattle.turn_cell.specs.Journals.{Every}

module _ {X : Type 0} where
  -- what holds of each element holds of each of the first
  pub every-take : (P : X → Type 0) (n : ℕ) (xs : List X) → Every P xs → Every P (take n xs)
  every-take P zero xs all = tt
  every-take P (suc n) [] all = tt
  every-take P (suc n) (x ∷ xs) all = (all.0, every-take P n xs all.1)

  -- and of each of the others
  pub every-drop : (P : X → Type 0) (n : ℕ) (xs : List X) → Every P xs → Every P (drop n xs)
  every-drop P zero xs all = all
  every-drop P (suc n) [] all = tt
  every-drop P (suc n) (x ∷ xs) all = every-drop P n xs all.1

  -- what holds of each in two lists holds of each in both together
  pub every-append : (P : X → Type 0) (xs ys : List X) → Every P xs → Every P ys → Every P (xs ++ ys)
  every-append P [] ys all more = more
  every-append P (x ∷ xs) ys all more = (all.0, every-append P xs ys all.1 more)

  -- the other way round: of both parts
  pub every-left : (P : X → Type 0) (xs ys : List X) → Every P (xs ++ ys) → Every P xs
  every-left P [] ys all = tt
  every-left P (x ∷ xs) ys all = (all.0, every-left P xs ys all.1)

  -- what holds of each holds of one at any place
  pub every-at : (P : X → Type 0) (xs ys : List X) (x : X) → Every P (xs ++ x ∷ ys) → P x
  every-at P [] ys x all = all.0
  every-at P (y ∷ xs) ys x all = every-at P xs ys x all.1

  -- what follows from what holds of each holds of each
  pub every-weaker : (P Q : X → Type 0) (xs : List X) → ((x : X) → P x → Q x) → Every P xs → Every Q xs
  every-weaker P Q [] step all = tt
  every-weaker P Q (x ∷ xs) step all = (step x all.0, every-weaker P Q xs step all.1)

  -- so does what follows from two things that hold of each
  pub every-both : (P Q R : X → Type 0) (xs : List X) → ((x : X) → P x → Q x → R x)
      → Every P xs → Every Q xs → Every R xs
  every-both P Q R [] step all also = tt
  every-both P Q R (x ∷ xs) step all also =
      (step x all.0 also.0, every-both P Q R xs step all.1 also.1)

  -- what follows of what there is holds of it
  pub if_some-weaker : (o : Option X) (P Q : X → Type 0) → IfSome o P
      → ((x : X) → o ≡ Some x → P x → Q x) → IfSome o Q
  if_some-weaker None P Q is step = tt
  if_some-weaker (Some x) P Q is step = step x refl is

-- what holds of each image holds of each element's image
pub every-map : {X Y : Type 0} (P : Y → Type 0) (f : X → Y) (xs : List X)
    → Every P (map f xs) → Every (λ x. P (f x)) xs
every-map P f [] all = tt
every-map P f (x ∷ xs) all = (all.0, every-map P f xs all.1)
