-- The places and the notes of a pass's entries, over two parts of a journal.
use Rattle.std.proofs.Common.{◌≡◌, ◌≢◌, ℕ, suc, ◌+◌, ◌==◌, if◌then◌else◌, true, false, List, [], ◌∷◌, ◌++◌, length, refl, ap, ◌∙◌, arith, append-nil}
use Rattle.std.proofs.lemmas.Bool.Decides.{nat_tests}
use Rattle.turn_cell.specs.declared.table.PassView.{PassView}
use Rattle.turn_cell.specs.Journals.{Every, places_from, places, notes_of, next_places}
use Rattle.turn_cell.specs.Rule.{HasSeen, IsOther}
use Rattle.turn_cell.specs.Passes.{mine, Continues}
use Rattle.turn_cell.proofs.Each.{every-weaker}

module _ {N : Type 0} (number : ℕ) where
  abbrev from : ℕ → List (N × ℕ) → List ℕ
  from = places_from number

  places-append : (place : ℕ) (xs ys : List (N × ℕ))
      → from place (xs ++ ys) ≡ from place xs ++ from (place + length xs) ys
  places-append place [] ys = let same : place ≡ place + 0 = omega arith in ap (λ n. from n ys) same
  places-append place (x ∷ xs) ys =
      let next : suc place + length xs ≡ place + suc (length xs) = omega arith in
      let rest : from (suc place) (xs ++ ys) ≡ from (suc place) xs ++ from (place + suc (length xs)) ys =
      places-append (suc place) xs ys ∙ ap (λ n. from (suc place) xs ++ from n ys) next in
      elim (number == x.1) as (λ is.
      (if is then place ∷ from (suc place) (xs ++ ys) else from (suc place) (xs ++ ys))
      ≡ (if is then place ∷ from (suc place) xs else from (suc place) xs) ++ from (place + suc (length xs)) ys)
      [ true ↦ ap (λ more. place ∷ more) rest | false ↦ rest ]

  places-none : (place : ℕ) (xs : List (N × ℕ)) → Every (λ entry. entry.1 ≢ number) xs → from place xs ≡ []
  places-none place [] others = refl
  places-none place (x ∷ xs) others =
      let other = others.0 in
      let isnt : (number == x.1) ≡ false = grind (arith, nat_tests) in
      rw isnt (places-none (suc place) xs others.1)

  places-own : (place : ℕ) (xs : List (N × ℕ)) → Every (λ entry. entry.1 ≡ number) xs
      → from place xs ≡ next_places place (length xs)
  places-own place [] own = refl
  places-own place (x ∷ xs) own =
      let is = own.0 in
      let is_own : (number == x.1) ≡ true = grind (arith, nat_tests) in
      rw is_own (ap (λ more. place ∷ more) (places-own (suc place) xs own.1))

  notes-append : (xs ys : List (N × ℕ)) → notes_of number (xs ++ ys) ≡ notes_of number xs ++ notes_of number ys
  notes-append [] ys = refl
  notes-append (x ∷ xs) ys =
      let rest = notes-append xs ys in
      elim (number == x.1) as (λ is.
      (if is then x.0 ∷ notes_of number (xs ++ ys) else notes_of number (xs ++ ys))
      ≡ (if is then x.0 ∷ notes_of number xs else notes_of number xs) ++ notes_of number ys)
      [ true ↦ ap (λ more. x.0 ∷ more) rest | false ↦ rest ]

  notes-none : (xs : List (N × ℕ)) → Every (λ entry. entry.1 ≢ number) xs → notes_of number xs ≡ []
  notes-none [] others = refl
  notes-none (x ∷ xs) others =
      let other = others.0 in
      let isnt : (number == x.1) ≡ false = grind (arith, nat_tests) in
      rw isnt (notes-none xs others.1)

-- A journal that goes on from what a pass has seen continues it.
pub continues : {N X : Type 0} (journal : List (N × ℕ)) (share : List X) (pass : PassView N X)
    → HasSeen journal share pass → Continues journal share pass
continues journal share pass has =
    let number = pass.number in
    let apart : Every (λ entry. entry.1 ≢ number) has.later =
    every-weaker (IsOther pass) (λ entry. entry.1 ≢ number) has.later (λ entry other. other.0) has.others in record {
      later = has.later;
      begins = has.goes_on;
      others = has.others;
      own = ap (places number) has.goes_on
          ∙ (places-append number 0 pass.seen has.later
          ∙ (ap (λ more. mine pass ++ more) (places-none number (0 + length pass.seen) has.later apart)
          ∙ append-nil (mine pass)));
      notes = ap (notes_of number) has.goes_on
          ∙ (notes-append number pass.seen has.later
          ∙ (ap (λ more. notes_of number pass.seen ++ more) (notes-none number has.later apart)
          ∙ append-nil (notes_of number pass.seen)));
      same = has.same;
    }

-- The places of a pass's entries after a turn are those before it and then those of the new ones.
pub places-grown : {N : Type 0} (number : ℕ) (before after added : List (N × ℕ))
    → after ≡ before ++ added → Every (λ entry. entry.1 ≡ number) added
    → places number after ≡ places number before ++ next_places (length before) (length added)
places-grown number before after added grew own =
    let start : 0 + length before ≡ length before = omega arith in
    ap (places number) grew
    ∙ (places-append number 0 before added
    ∙ ap (λ more. places number before ++ more)
    (places-own number (0 + length before) added own ∙ ap (λ n. next_places n (length added)) start))
