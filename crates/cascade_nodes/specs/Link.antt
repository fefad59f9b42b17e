-- What a link may hold.
use Rattle.std.specs.Prelude.{◌≡◌, ⊤, ℕ, ◌<◌, List, [], ◌∷◌, length, sum_by}
use Rattle.cascade_script.specs.declared.fault.Cause.{Cause}
use Rattle.cascade_script.specs.declared.fault.Cause.TheVariants.{LimitReached, NoMemory}

-- the most bytes of a link
abbrev pub most_link : ℕ
most_link = 67108864

-- the bytes of all its messages
abbrev pub link_size : List (List ℕ) → ℕ
link_size link = sum_by length link

-- why a message does not go into a link that would hold n bytes then: they are too many; out
-- of memory says nothing
abbrev pub RefusesLink : ℕ → Cause → Type 0
RefusesLink size NoMemory = Unit {0}
RefusesLink size cause = (cause ≡ LimitReached most_link) × (most_link < size)

-- each number is below this one
abbrev pub AreBelow : ℕ → List (ℕ × List ℕ) → Type 0
AreBelow next [] = ⊤
AreBelow next (message ∷ messages) = (message.0 < next) × AreBelow next messages
