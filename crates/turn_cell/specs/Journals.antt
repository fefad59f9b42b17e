-- Journals, which are lists of entries: each is a note with the number of the pass whose turn added
-- it.
use Rattle.std.specs.Prelude.{◌≡◌, ◌≤◌, ℕ, zero, suc, ◌==◌, if◌then◌else◌, List, [], ◌∷◌, ◌++◌}

-- P holds of each element
abbrev pub Every : {X : Type 0} → (X → Type 0) → List X → Type 0
Every P [] = Unit {0}
Every P (x ∷ xs) = P x × Every P xs

-- ---- the entries of one pass

-- the places of the entries with this number, where the first entry stands at `place`
abbrev pub places_from : {N : Type 0} → ℕ → ℕ → List (N × ℕ) → List ℕ
places_from number place [] = []
places_from number place (entry ∷ entries) =
    if number == entry.1
    then place ∷ places_from number (suc place) entries
    else places_from number (suc place) entries

-- the places of the entries with this number, counted from 0
abbrev pub places : {N : Type 0} → ℕ → List (N × ℕ) → List ℕ
places number journal = places_from number 0 journal

-- what the entries with this number say, in their order
abbrev pub notes_of : {N : Type 0} → ℕ → List (N × ℕ) → List N
notes_of number [] = []
notes_of number (entry ∷ entries) =
    if number == entry.1 then entry.0 ∷ notes_of number entries else notes_of number entries

-- n places, from `place` on
abbrev pub next_places : ℕ → ℕ → List ℕ
next_places place zero = []
next_places place (suc n) = place ∷ next_places (suc place) n

-- ---- numbers

-- one of the numbers that the passes of a cell have
abbrev pub IsNumber : ℕ → ℕ → Type 0
IsNumber seats number = (1 ≤ number) × (number ≤ seats)

-- The later journal is the earlier one and then entries of passes.
pub record HasGrown {N : Type 0} (seats : ℕ) (earlier later : List (N × ℕ)) : Type 0 where
  pub added : List (N × ℕ)
  pub grew : later ≡ earlier ++ added
  pub numbers : Every (λ entry. IsNumber seats entry.1) added
