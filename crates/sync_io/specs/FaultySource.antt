-- What a source that plays a list of steps does.
use Rattle.std.specs.Prelude.{◌≡◌, ◌⊎◌, ℕ, Bool, true, false, IsTrue, List, [], ◌∷◌, length, min, take, drop, flat_map}
use Rattle.std.specs.List.{list_all, list_any}
use Rattle.sync_io.specs.Faults.{one_more}
use Rattle.sync_io.specs.declared.source.Piece.{Piece}
use Rattle.sync_io.specs.declared.source.Piece.TheVariants.{Got, End, Failed}
use Rattle.sync_io.specs.declared.source.Piece.TheVariants as pieces
use Rattle.sync_io.specs.declared.faulty_source.Step.{Step}
use Rattle.sync_io.specs.declared.faulty_source.Step.TheVariants.{Give, Quiet, Fail}

-- the steps that are left, whether the source waits, and how many reads have failed
pub record StepsLeft : Type 0 where
  pub steps : List Step
  pub waits : Bool
  pub faults : ℕ

-- a step at which no byte has come yet
abbrev pub is_quiet : Step → Bool
is_quiet (Give bytes) = false
is_quiet Quiet = true
is_quiet Fail = false

-- every step but a gift of no bytes
abbrev pub is_played : Step → Bool
is_played (Give []) = false
is_played (Give (byte ∷ bytes)) = true
is_played Quiet = true
is_played Fail = true

-- a read plays each of the steps, and one of them is `Quiet` only where the source waits
pub record ArePlayable (steps : List Step) (waits : Bool) : Type 0 where
  pub played : IsTrue (list_all is_played steps)
  pub quiet : IsTrue (list_any is_quiet steps) → IsTrue waits

-- the steps that are left where these bytes are left of a gift
abbrev pub with_gift : List ℕ → List Step → List Step
with_gift [] steps = steps
with_gift (byte ∷ bytes) steps = Give (byte ∷ bytes) ∷ steps

-- the bytes that a step gives
abbrev pub gift_of : Step → List ℕ
gift_of (Give bytes) = bytes
gift_of Quiet = []
gift_of Fail = []

-- all that the steps give
abbrev pub bytes_of : List Step → List ℕ
bytes_of steps = flat_map gift_of steps

-- a read plays the first step: of a gift it gives what the buffer has room for, and leaves the rest
abbrev pub Plays : List Step → List Step → Piece → List ℕ → Type 0
Plays [] new piece buffer = (piece ≡ End) × (new ≡ [])
Plays (Give bytes ∷ steps) new piece buffer =
    let count = min (length bytes) (length buffer) in
    (piece ≡ Got count) × (take count buffer ≡ take count bytes)
    × (new ≡ with_gift (drop count bytes) steps)
Plays (Quiet ∷ steps) new piece buffer = (piece ≡ pieces.Quiet) × (new ≡ steps)
Plays (Fail ∷ steps) new piece buffer = (piece ≡ Failed) × (new ≡ steps)

-- a read plays the first step, or it fails and leaves them all
abbrev pub PlaysOrFails : List Step → List Step → Piece → List ℕ → Type 0
PlaysOrFails old new piece buffer = Plays old new piece buffer ⊎ ((piece ≡ Failed) × (new ≡ old))

-- how many reads have failed after one that gave this
abbrev pub faults_after : Piece → ℕ → ℕ
faults_after (Got count) faults = faults
faults_after pieces.Quiet faults = faults
faults_after End faults = faults
faults_after Failed faults = one_more faults
