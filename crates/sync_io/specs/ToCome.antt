-- What is still to come, in order.
use Rattle.std.specs.Prelude.{◌≡◌, List, [], ◌∷◌, take}

-- this is the first of what is to come
abbrev pub IsNextToCome : {T : Type 0} → T → List T → Type 0
IsNextToCome item to_come = take 1 to_come ≡ item ∷ []
