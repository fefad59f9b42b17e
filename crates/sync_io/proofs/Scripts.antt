-- Lists of steps, as a source plays them.
use Rattle.std.proofs.Common.{◌≡◌, ℕ, true, List, [], ◌∷◌, ◌++◌, Some, filter, take, drop, min, length, refl, ap, sym, ◌∙◌, append_assoc, take-append-drop}
use Rattle.std.specs.List.{list_all, list_any}
use Rattle.sync_io.specs.declared.source.Piece.{Piece}
use Rattle.sync_io.specs.declared.faulty_source.Step.{Step}
use Rattle.sync_io.specs.declared.faulty_source.Step.TheVariants.{Give, Quiet, Fail}
use Rattle.sync_io.specs.Source.{GivesNext}
use Rattle.sync_io.specs.FaultySource.{ArePlayable, Plays, bytes_of, is_played, is_quiet, with_gift}

-- what is left once the steps that no read plays are taken out
all-played : (steps : List Step) → list_all is_played (filter is_played steps) ≡ true
all-played [] = refl
all-played (Give [] ∷ steps) = all-played steps
all-played (Give (byte ∷ bytes) ∷ steps) = all-played steps
all-played (Quiet ∷ steps) = all-played steps
all-played (Fail ∷ steps) = all-played steps

any-quiet : (steps : List Step) → list_any is_quiet (filter is_played steps) ≡ list_any is_quiet steps
any-quiet [] = refl
any-quiet (Give [] ∷ steps) = any-quiet steps
any-quiet (Give (byte ∷ bytes) ∷ steps) = any-quiet steps
any-quiet (Quiet ∷ steps) = refl
any-quiet (Fail ∷ steps) = any-quiet steps

-- steps that can be played are left, and are quiet where one of all is
pub ArePlayable-filter : (steps : List Step) → ArePlayable (filter is_played steps) (list_any is_quiet steps)
ArePlayable-filter steps = record {
  played = all-played steps;
  quiet = λ any. rw (← any-quiet steps) any;
}

-- what is left of a gift stands before the bytes of the other steps
pub bytes_of-with_gift : (gift : List ℕ) (steps : List Step) → bytes_of (with_gift gift steps) ≡ gift ++ bytes_of steps
bytes_of-with_gift [] steps = refl
bytes_of-with_gift (byte ∷ bytes) steps = refl

-- what a read gives is the next of all that the steps give
pub Plays-GivesNext : (old new : List Step) (piece : Piece) (buffer : List ℕ)
    → Plays old new piece buffer → GivesNext (Some (bytes_of old)) (Some (bytes_of new)) piece buffer
Plays-GivesNext [] new piece buffer (reworded, left) = rw (reworded, left) refl
Plays-GivesNext (Give bytes ∷ steps) new piece buffer (reworded, prefix, left) = rw (reworded, left)
    (let count = min (length bytes) (length buffer) in
    ap (λ gift. gift ++ bytes_of steps) (sym (take-append-drop count bytes))
    ∙ append_assoc (take count bytes) (drop count bytes) (bytes_of steps)
    ∙ ap (λ gift. gift ++ (drop count bytes ++ bytes_of steps)) (sym prefix)
    ∙ ap (λ rest. take count buffer ++ rest) (sym (bytes_of-with_gift (drop count bytes) steps)))
Plays-GivesNext (Quiet ∷ steps) new piece buffer (reworded, left) = rw (reworded, left) refl
Plays-GivesNext (Fail ∷ steps) new piece buffer (reworded, left) = rw (reworded, left) refl
