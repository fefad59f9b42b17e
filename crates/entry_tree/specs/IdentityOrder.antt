-- Identities in ascending order, from one on.
use Rattle.std.specs.Prelude.{ℕ, nat_lt, List, filter, Option, Some, None}

-- those above this one, or all of them
abbrev pub above : Option ℕ → List ℕ → List ℕ
above None uuids = uuids
above (Some after) uuids = filter (nat_lt after) uuids
