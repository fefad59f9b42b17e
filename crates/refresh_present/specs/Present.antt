-- The decisions of a present phase (RFC 4533, section 3.3).
use Rattle.std.specs.Prelude.{ℕ, Bool, true, not, nat_lt, List, Option, Some, None, if◌then◌else◌}
use Rattle.std.specs.List.{filter_map}
use Rattle.refresh_present.specs.declared.item.Item.{Item}
use Rattle.refresh_present.specs.declared.decision.Decision.{Decision}
use Rattle.refresh_present.specs.declared.decision.Decision.TheVariants.{Send, Present}

-- a client that has the content after a write has the entry as it is, but where a later one
-- touched it; a client that has none has no entry
abbrev pub is_new_to_client : Option ℕ → Item → Bool
is_new_to_client None item = true
is_new_to_client (Some after) item = nat_lt after item.touched

-- what is selected is sent, or named as present where the client has it
abbrev pub decided : Option ℕ → Item → Option Decision
decided after item =
    if not item.selected then None
    else if is_new_to_client after item then Some (Send item.uuid)
    else Some (Present item.uuid)

-- one after the other
abbrev pub planned : Option ℕ → List Item → List Decision
planned after items = filter_map (decided after) items
