-- The bytes up to the last mark.
use Rattle.std.proofs.Common.{◌≡◌, ◌≢◌, get_or, eq-eqb, ◌+◌, ◌<◌, ℕ, true, false, ◌==◌, List, [], ◌∷◌, ◌++◌, length, take, refl, ap, sym, ◌∙◌, arith}
use Rattle.std.proofs.lemmas.Bool.Decides.{nat_tests}
use Rattle.std.proofs.lemmas.List.{take_more}
use Rattle.std.proofs.lemmas.List.Folds.{list_any-append}
use Rattle.std.proofs.Math.Bool.{or-false, or-true}
use Rattle.std.specs.List.{list_any}
use Rattle.std.specs.Prelude.{if◌then◌else◌}
use Rattle.cascade_script.specs.Lines.{up_to_last}

-- one more byte that is the mark, and one that is not
pub up_to_last-mark : (mark b : ℕ) (bs : List ℕ) → (b == mark) ≡ true → up_to_last mark (bs ++ b ∷ []) ≡ bs ++ b ∷ []
up_to_last-mark mark b [] hit = rw hit refl
up_to_last-mark mark b (x ∷ bs) hit =
    let there : list_any (λ c. c == mark) ((x ∷ bs) ++ b ∷ []) ≡ true = list_any-append (λ c. c == mark) (x ∷ bs) (b ∷ []) ∙ rw hit (or-true _) in
    rw there (ap (λ l. x ∷ l) (up_to_last-mark mark b bs hit))

-- another byte at the end changes nothing
pub up_to_last-other : (mark b : ℕ) (bs : List ℕ) → (b == mark) ≡ false → up_to_last mark (bs ++ b ∷ []) ≡ up_to_last mark bs
up_to_last-other mark b [] miss = rw miss refl
up_to_last-other mark b (x ∷ bs) miss =
    let same : list_any (λ c. c == mark) ((x ∷ bs) ++ b ∷ []) ≡ list_any (λ c. c == mark) (x ∷ bs) = list_any-append (λ c. c == mark) (x ∷ bs) (b ∷ []) ∙ rw miss (or-false _) in
    rw same (ap (λ l. if list_any (λ c. c == mark) (x ∷ bs) then x ∷ l else []) (up_to_last-other mark b bs miss))

-- the bytes up to the last mark of one byte more
pub up_to_last-more : (mark : ℕ) (bytes : List ℕ) (i : ℕ) → i < length bytes → get_or bytes i 0 ≡ mark → take (i + 1) bytes ≡ up_to_last mark (take (i + 1) bytes)
up_to_last-more mark bytes i l is =
    let more = take_more bytes i 0 l in
    more ∙ sym (up_to_last-mark mark (get_or bytes i 0) (take i bytes) (eq-eqb _ _ is)) ∙ ap (up_to_last mark) (sym more)

-- nor does it, one byte after another
pub up_to_last-same : (mark : ℕ) (bytes first_part : List ℕ) (i : ℕ) → i < length bytes → get_or bytes i 0 ≢ mark → first_part ≡ up_to_last mark (take i bytes) → first_part ≡ up_to_last mark (take (i + 1) bytes)
up_to_last-same mark bytes first_part i l not so_far =
    let other : (get_or bytes i 0 == mark) ≡ false = grind (arith, nat_tests) in
    so_far ∙ sym (up_to_last-other mark (get_or bytes i 0) (take i bytes) other) ∙ ap (up_to_last mark) (sym (take_more bytes i 0 l))
