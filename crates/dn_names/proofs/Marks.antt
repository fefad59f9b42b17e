-- Lists around a mark.
use Rattle.std.proofs.Common.{◌≡◌, ◌⊎◌, suc, ◌+◌, ◌-◌, Bool, true, false, List, [], ◌∷◌, ◌++◌, length, take, drop, refl, sym, ◌∙◌, ap, arith, length-append, append_assoc, inl, inr}
use Rattle.std.specs.List.{list_any, position_or_len, prefix_len, suffix_len, before_first, after_first, slice_split}
use Rattle.std.proofs.lemmas.List.{take_at, drop_at}
use Rattle.std.proofs.lemmas.List.Folds.{list_any-append}
use Rattle.std.proofs.lemmas.Bool.{or_parts, or_right}
use Rattle.dn_names.proofs.Cuts.{slice_split-some, trailing-no}

place_of_mark : {X : Type 0} (p : X → Bool) (prefix : List X) (mark : X) (back : List X) → list_any p prefix ≡ false → p mark ≡ true → position_or_len p (prefix ++ mark ∷ back) ≡ length prefix
place_of_mark p [] mark back none is = rw is refl
place_of_mark p (x ∷ xs) mark back none is =
    let parts = or_parts (p x) (list_any p xs) none in
    let later : 1 + position_or_len p (xs ++ mark ∷ back) ≡ suc (length xs) = omega (arith, place_of_mark p xs mark back parts.1 is) in
    rw parts.0 later

-- the part before the first mark
pub before_mark : {X : Type 0} (p : X → Bool) (prefix : List X) (mark : X) (back : List X) → list_any p prefix ≡ false → p mark ≡ true → before_first p (prefix ++ mark ∷ back) ≡ prefix
before_mark p prefix mark back none is = take_at prefix (mark ∷ back) (position_or_len p (prefix ++ mark ∷ back)) (sym (place_of_mark p prefix mark back none is))

-- the part after the first mark
pub after_mark : {X : Type 0} (p : X → Bool) (prefix : List X) (mark : X) (back : List X) → list_any p prefix ≡ false → p mark ≡ true → after_first p (prefix ++ mark ∷ back) ≡ back
after_mark p prefix mark back none is =
    let long : length (prefix ++ mark ∷ []) ≡ position_or_len p (prefix ++ mark ∷ back) + 1 = omega (arith, place_of_mark p prefix mark back none is, length-append prefix (mark ∷ [])) in
    ap (drop (position_or_len p (prefix ++ mark ∷ back) + 1)) (sym (append_assoc prefix (mark ∷ []) back)) ∙ drop_at (prefix ++ mark ∷ []) back (position_or_len p (prefix ++ mark ∷ back) + 1) long

-- a list with a mark has an item that passes
pub has_mark : {X : Type 0} (p : X → Bool) (prefix : List X) (mark : X) (back : List X) → p mark ≡ true → list_any p (prefix ++ mark ∷ back) ≡ true
has_mark p prefix mark back is = list_any-append p prefix (mark ∷ back) ∙ rw is (or_right (list_any p prefix) true refl)

-- a list is split at its first mark
pub split_at_mark : {X : Type 0} (p : X → Bool) (prefix : List X) (mark : X) (back : List X) → list_any p prefix ≡ false → p mark ≡ true → slice_split p (prefix ++ mark ∷ back) ≡ prefix ∷ slice_split p back
split_at_mark p prefix mark back none is =
    slice_split-some p mark (prefix ++ mark ∷ back) (has_mark p prefix mark back is)
    ∙ rw (before_mark p prefix mark back none is, after_mark p prefix mark back none is) refl

-- nothing stands at the ends that the test passes
abbrev pub BeginsOtherwise : {X : Type 0} → (X → Bool) → List X → Type 0
BeginsOtherwise p [] = Unit {0}
BeginsOtherwise p (x ∷ xs) = p x ≡ false

-- the last item of a list, if any, does not pass
abbrev pub EndsOtherwise : {X : Type 0} → (X → Bool) → List X → Type 0
EndsOtherwise {X} p xs = (xs ≡ []) ⊎ ((prefix : List X) × (last : X) × (xs ≡ prefix ++ last ∷ []) × (p last ≡ false))

-- no item passes at the start of a list whose first one does not
pub none_leading : {X : Type 0} (p : X → Bool) (xs : List X) → BeginsOtherwise p xs → prefix_len p xs ≡ 0
none_leading p [] begins = refl
none_leading p (x ∷ xs) begins = rw begins refl

-- a list whose first item does not pass stays without those at its start
pub kept_prefix : {X : Type 0} (p : X → Bool) (xs : List X) → BeginsOtherwise p xs → drop (prefix_len p xs) xs ≡ xs
kept_prefix p xs begins = rw (none_leading p xs begins) refl

-- a list whose last item does not pass stays without those at its end
pub kept_back : {X : Type 0} (p : X → Bool) (xs : List X) → EndsOtherwise p xs → take (length xs - suffix_len p xs) xs ≡ xs
kept_back p xs (inl none) = rw none refl
kept_back p xs (inr ends) = rw ends.2 (trailing-no p ends.0 ends.1 ends.3)

-- where no item passes the first does not
pub otherwise_from_none : {X : Type 0} (p : X → Bool) (xs : List X) → list_any p xs ≡ false → BeginsOtherwise p xs
otherwise_from_none p [] none = tt
otherwise_from_none p (x ∷ xs) none = (or_parts (p x) (list_any p xs) none).0

-- where no item passes the last does not
pub ends_from_none : {X : Type 0} (p : X → Bool) (xs : List X) → list_any p xs ≡ false → EndsOtherwise p xs
ends_from_none p [] none = inl refl
ends_from_none p (x ∷ xs) none =
    let parts = or_parts (p x) (list_any p xs) none in
    inr (elim (ends_from_none p xs parts.1) [
      | inl empty ↦ ([], x, ap (λ rest. x ∷ rest) empty, parts.0)
      | inr ends ↦ (x ∷ ends.0, ends.1, ap (λ rest. x ∷ rest) ends.2, ends.3)
    ])
