-- Keys of values whose text has one form only.
use Rattle.std.specs.Prelude.{ℕ, Bool, if◌then◌else◌, List, Option, Some, None}

-- the value is its own key, where it is of its syntax
abbrev pub own_key : Bool → List ℕ → Option (List ℕ)
own_key is_of_syntax value = if is_of_syntax then Some value else None
