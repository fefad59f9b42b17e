-- Laws of lists that the library does not state.
use Rattle.std.proofs.Common.{◌≡◌, ℕ, ◌+◌, ◌<◌, Bool, true, false, cond, ◌||◌, List, [], ◌∷◌, ◌++◌, length, map, take, get_or, Option, Some, None, ap, sym, append-nil, ◌∙◌, refl}
use Rattle.std.specs.List.{list_any, filter, filter_map, flat_map, cons_option}
use Rattle.std.specs.Option.{option_or}
use Rattle.std.proofs.lemmas.List.{take_more}
use Rattle.std.proofs.lemmas.List.Elements.{filter-append, filter_map-append}
use Rattle.std.proofs.lemmas.Grind.{flat_map-append}

-- what may be missing, in either order
pub option_or-assoc : {A : Type 0} (a b c : Option A) → option_or (option_or a b) c ≡ option_or a (option_or b c)
option_or-assoc None b c = refl
option_or-assoc (Some x) b c = refl

-- a test of some image is a test of some element
pub list_any_map : {X Y : Type 0} (p : Y → Bool) (f : X → Y) (xs : List X) → list_any p (map f xs) ≡ list_any (λ x. p (f x)) xs
list_any_map p f [] = refl
list_any_map p f (x ∷ xs) = ap (λ b. p (f x) || b) (list_any_map p f xs)

filter_map_more : {X Y : Type 0} (h : X → Option Y) (xs : List X) (i : ℕ) (x : X) → i < length xs → x ≡ get_or xs i x
    → filter_map h (take (i + 1) xs) ≡ filter_map h (take i xs) ++ filter_map h (x ∷ [])
filter_map_more h xs i x low at =
    ap (filter_map h) (take_more xs i x low) ∙ filter_map-append h (take i xs) (get_or xs i x ∷ [])
    ∙ ap (λ y. filter_map h (take i xs) ++ filter_map h (y ∷ [])) (sym at)

-- the next element gives one more, or none
pub filter_map_some : {X Y : Type 0} (h : X → Option Y) (xs : List X) (i : ℕ) (x : X) (y : Y) → i < length xs → x ≡ get_or xs i x → h x ≡ Some y
    → filter_map h (take (i + 1) xs) ≡ filter_map h (take i xs) ++ y ∷ []
filter_map_some h xs i x y low at gives =
    filter_map_more h xs i x low at ∙ ap (λ o. filter_map h (take i xs) ++ cons_option o []) gives

-- an element that is mapped to nothing adds nothing
pub filter_map_none : {X Y : Type 0} (h : X → Option Y) (xs : List X) (i : ℕ) (x : X) → i < length xs → x ≡ get_or xs i x → h x ≡ None
    → filter_map h (take (i + 1) xs) ≡ filter_map h (take i xs)
filter_map_none h xs i x low at gives =
    filter_map_more h xs i x low at ∙ ap (λ o. filter_map h (take i xs) ++ cons_option o []) gives ∙ append-nil (filter_map h (take i xs))

flat_map_filter_more : {X Y : Type 0} (f : X → List Y) (p : X → Bool) (xs : List X) (i : ℕ) (x : X) → i < length xs → x ≡ get_or xs i x
    → flat_map f (filter p (take (i + 1) xs)) ≡ flat_map f (filter p (take i xs)) ++ flat_map f (filter p (x ∷ []))
flat_map_filter_more f p xs i x low at =
    ap (λ ys. flat_map f (filter p ys)) (take_more xs i x low) ∙ ap (flat_map f) (filter-append p (take i xs) (get_or xs i x ∷ []))
    ∙ flat_map-append f (filter p (take i xs)) (filter p (get_or xs i x ∷ []))
    ∙ ap (λ y. flat_map f (filter p (take i xs)) ++ flat_map f (filter p (y ∷ []))) (sym at)

-- the next element passes, or does not
pub flat_map_filter_passes : {X Y : Type 0} (f : X → List Y) (p : X → Bool) (xs : List X) (i : ℕ) (x : X) → i < length xs → x ≡ get_or xs i x → p x ≡ true
    → flat_map f (filter p (take (i + 1) xs)) ≡ flat_map f (filter p (take i xs)) ++ f x
flat_map_filter_passes f p xs i x low at passes =
    flat_map_filter_more f p xs i x low at
    ∙ ap (λ b. flat_map f (filter p (take i xs)) ++ flat_map f (cond b (x ∷ []) [])) passes
    ∙ ap (λ ys. flat_map f (filter p (take i xs)) ++ ys) (append-nil (f x))

-- an element that fails the test adds nothing
pub flat_map_filter_fails : {X Y : Type 0} (f : X → List Y) (p : X → Bool) (xs : List X) (i : ℕ) (x : X) → i < length xs → x ≡ get_or xs i x → p x ≡ false
    → flat_map f (filter p (take (i + 1) xs)) ≡ flat_map f (filter p (take i xs))
flat_map_filter_fails f p xs i x low at fails =
    flat_map_filter_more f p xs i x low at
    ∙ ap (λ b. flat_map f (filter p (take i xs)) ++ flat_map f (cond b (x ∷ []) [])) fails
    ∙ append-nil (flat_map f (filter p (take i xs)))
