-- What `strip_prefix` answers, as a cut.
use Rattle.std.proofs.Common.{◌≡◌, ◌≢◌, eq-eqb, eqb-true, ◌==◌, ℕ, Option, Some, None, List, [], ◌∷◌, ◌++◌, refl, ap, sym, ◌∙◌, inl, inr}
use Rattle.std.proofs.lemmas.Bool.{cases_Bool}
use Rattle.std.specs.Borrow.{Bor}
use Rattle.std.specs.Option.{MatchOption}
use Rattle.ldif_text.specs.Field.{shown}
use Rattle.cascade_script.specs.Words.{stripped}

-- without a prefix that is there, the rest
pub stripped_prefix : (prefix rest : List ℕ) → stripped prefix (prefix ++ rest) ≡ Some rest
stripped_prefix [] rest = refl
stripped_prefix (p ∷ prefix) rest = rw (eq-eqb p p refl) (stripped_prefix prefix rest)

-- nothing where it is not there
pub none_stripped : (prefix bytes : List ℕ) → ((rest : List ℕ) → bytes ≢ prefix ++ rest) → None ≡ stripped prefix bytes
none_stripped [] bytes h = absurd (h bytes refl)
none_stripped (p ∷ prefix) [] h = refl
none_stripped (p ∷ prefix) (b ∷ bytes) h =
    elim (cases_Bool (b == p)) [
      | inl hit ↦ let s : b ≡ p = eqb-true b p hit in rw hit (none_stripped prefix bytes (λ rest e. h rest (ap (λ l. b ∷ l) e ∙ ap (λ x. x ∷ prefix ++ rest) s)))
      | inr miss ↦ rw miss refl
    ]

-- what `strip_prefix` answers
pub stripped-from_cases : (prefix bytes : List ℕ) (r : Option (Bor (List ℕ))) → MatchOption r ((rest : List ℕ) → bytes ≢ prefix ++ rest) (λ x. bytes ≡ prefix ++ x.now) → shown r ≡ stripped prefix bytes
stripped-from_cases prefix bytes None h = none_stripped prefix bytes h
stripped-from_cases prefix bytes (Some x) h = sym (ap (stripped prefix) h ∙ stripped_prefix prefix x.now)
