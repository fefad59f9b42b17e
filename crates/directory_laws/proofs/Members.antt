-- Entries of a list.
use Rattle.std.proofs.Common.{◌≡◌, ◌<◌, ℕ, Bool, true, false, cond, nat_lt, List, [], ◌∷◌, ◌++◌, map, Some, refl, sym, ap, ◌∙◌, ◌⊎◌, inl, inr, subst, arith}
use Rattle.std.specs.List.{filter, find, list_any}
use Rattle.std.proofs.lemmas.Bool.{both_ways, and_parts, or_cases, or_left, or_right, ltb-true}
use Rattle.dn_names.proofs.SortedLists.{In}
use Rattle.entry_tree.specs.declared.entry.Entry.{Entry}
use Rattle.entry_tree.specs.State.{ascends}
use Rattle.entry_tree.proofs.Identities.{above}

module _ {X : Type 0} where
  -- where some item passes a test one of the list does
  pub in_any : (test : X → Bool) (xs : List X) → list_any test xs ≡ true → (x : X) × In x xs × (test x ≡ true)
  in_any test [] any = absurd (cc)
  in_any test (x ∷ xs) any =
      elim (or_cases (test x) (list_any test xs) any) [
        | inl here ↦ (x, inl refl, here)
        | inr rest ↦ let found = in_any test xs rest in (found.0, inr found.1, found.2)
      ]

  -- an item of the list that passes a test is enough
  pub any_in : (test : X → Bool) (xs : List X) (x : X) → In x xs → test x ≡ true → list_any test xs ≡ true
  any_in test [] x member passes = absurd member
  any_in test (y ∷ xs) x (inl here) passes = or_left (test y) (list_any test xs) (ap test (sym here) ∙ passes)
  any_in test (y ∷ xs) x (inr rest) passes = or_right (test y) (list_any test xs) (any_in test xs x rest passes)

  -- an item that is found is in the list and passes the test
  pub in_found : (test : X → Bool) (xs : List X) (x : X) → find test xs ≡ Some x → In x xs × (test x ≡ true)
  in_found test [] x found = absurd (cc)
  in_found test (y ∷ xs) x found = by (in_found test xs x) (test y) refl found
    where
      by : (find test xs ≡ Some x → In x xs × (test x ≡ true)) → (b : Bool) → test y ≡ b → cond b (Some y) (find test xs) ≡ Some x → In x (y ∷ xs) × (test x ≡ true)
      by later true passes is = let same : y ≡ x = cc in (inl (sym same), ap test (sym same) ∙ passes)
      by later false fails is = let rest = later is in (inr rest.0, rest.1)

  -- an item of the list that passes a test is among those that do
  pub in_filter : (test : X → Bool) (xs : List X) (x : X) → In x xs → test x ≡ true → In x (filter test xs)
  in_filter test [] x member passes = absurd member
  in_filter test (y ∷ xs) x member passes = by (λ rest. in_filter test xs x rest passes) (test y) refl member
    where
      by : (In x xs → In x (filter test xs)) → (b : Bool) → test y ≡ b → In x (y ∷ xs) → In x (cond b (y ∷ filter test xs) (filter test xs))
      by later true is (inl here) = inl here
      by later true is (inr rest) = inr (later rest)
      by later false is (inl here) = absurd (both_ways (test x) (ap test here ∙ is) passes)
      by later false is (inr rest) = later rest

  -- an item among those that pass a test is in the list and passes it
  pub filter_in : (test : X → Bool) (xs : List X) (x : X) → In x (filter test xs) → In x xs × (test x ≡ true)
  filter_in test [] x member = absurd member
  filter_in test (y ∷ xs) x member = by (filter_in test xs x) (test y) refl member
    where
      by : (In x (filter test xs) → In x xs × (test x ≡ true)) → (b : Bool) → test y ≡ b → In x (cond b (y ∷ filter test xs) (filter test xs)) → In x (y ∷ xs) × (test x ≡ true)
      by later true passes (inl here) = (inl here, ap test here ∙ passes)
      by later true passes (inr rest) = let parts = later rest in (inr parts.0, parts.1)
      by later false fails rest = let parts = later rest in (inr parts.0, parts.1)

  -- the image of an item is among the images
  pub in_map : {Y : Type 0} (f : X → Y) (xs : List X) (x : X) → In x xs → In (f x) (map f xs)
  in_map f [] x member = absurd member
  in_map f (y ∷ xs) x (inl here) = inl (ap f here)
  in_map f (y ∷ xs) x (inr rest) = inr (in_map f xs x rest)

  -- an item among the images is that of some item
  pub map_in : {Y : Type 0} (f : X → Y) (xs : List X) (y : Y) → In y (map f xs) → (x : X) × In x xs × (y ≡ f x)
  map_in f [] y member = absurd member
  map_in f (x ∷ xs) y (inl here) = (x, inl refl, here)
  map_in f (x ∷ xs) y (inr rest) = let found = map_in f xs y rest in (found.0, inr found.1, found.2)

  -- an item of the first list is in both together
  pub in_append_left : (xs ys : List X) (x : X) → In x xs → In x (xs ++ ys)
  in_append_left [] ys x member = absurd member
  in_append_left (y ∷ xs) ys x (inl here) = inl here
  in_append_left (y ∷ xs) ys x (inr rest) = inr (in_append_left xs ys x rest)

  -- an item of the second list is in both together
  pub in_append_right : (xs ys : List X) (x : X) → In x ys → In x (xs ++ ys)
  in_append_right [] ys x member = member
  in_append_right (y ∷ xs) ys x member = inr (in_append_right xs ys x member)

  -- an item of two lists together is in one of them
  pub append_in : (xs ys : List X) (x : X) → In x (xs ++ ys) → In x xs ⊎ In x ys
  append_in [] ys x member = inr member
  append_in (y ∷ xs) ys x (inl here) = inl (inl here)
  append_in (y ∷ xs) ys x (inr rest) = elim (append_in xs ys x rest) [ inl prefix ↦ inl (inr prefix) | inr back ↦ inr back ]

-- ---- identities

-- each entry of a list is above an identity that all of them are above
pub above_in : (u : ℕ) (es : List Entry) (e : Entry) → above u es ≡ true → In e es → u < e.uuid
above_in u [] e later member = absurd member
above_in u (x ∷ es) e later (inl here) = subst (λ (y : Entry). u < y.uuid) (sym here) (ltb-true u x.uuid (and_parts (nat_lt u x.uuid) (above u es) later).0)
above_in u (x ∷ es) e later (inr rest) = above_in u es e (and_parts (nat_lt u x.uuid) (above u es) later).1 rest

-- one identity, one entry
pub only_one : (es : List Entry) (a b : Entry) → ascends es ≡ true → In a es → In b es → a.uuid ≡ b.uuid → a ≡ b
only_one [] a b asc in_a in_b same = absurd in_a
only_one (x ∷ es) a b asc (inl here) (inl there) same = here ∙ sym there
only_one (x ∷ es) a b asc (inl here) (inr there) same =
    let far : x.uuid < b.uuid = above_in x.uuid es b (and_parts (above x.uuid es) (ascends es) asc).0 there in
    let at : a.uuid ≡ x.uuid = ap (λ (y : Entry). y.uuid) here in
    absurd (omega (arith, far, at, same))
only_one (x ∷ es) a b asc (inr here) (inl there) same =
    let far : x.uuid < a.uuid = above_in x.uuid es a (and_parts (above x.uuid es) (ascends es) asc).0 here in
    let at : b.uuid ≡ x.uuid = ap (λ (y : Entry). y.uuid) there in
    absurd (omega (arith, far, at, same))
only_one (x ∷ es) a b asc (inr here) (inr there) same = only_one es a b (and_parts (above x.uuid es) (ascends es) asc).1 here there same
