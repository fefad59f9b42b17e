-- The decisions of a delete phase (RFC 4533, section 3.3.2).
use Rattle.std.specs.Prelude.{ℕ, Bool, not, nat_lt, List, filter, Option, Some, None, if◌then◌else◌}
use Rattle.std.specs.List.{filter_map}
use Rattle.refresh_present.specs.declared.item.Item.{Item}
use Rattle.refresh_present.specs.declared.decision.Decision.{Decision}
use Rattle.refresh_present.specs.declared.decision.Decision.TheVariants.{Send, Delete}

abbrev pub is_touched_after : ℕ → Item → Bool
is_touched_after after item = nat_lt after item.touched

abbrev pub touched_after : ℕ → List Item → List Item
touched_after after items = filter (is_touched_after after) items

-- what was touched is sent, or named as deleted where it is not in the content
abbrev pub decided : ℕ → Item → Option Decision
decided after item =
    if not (is_touched_after after item) then None
    else if item.selected then Some (Send item.uuid)
    else Some (Delete item.uuid)

-- one after the other
abbrev pub planned : ℕ → List Item → List Decision
planned after items = filter_map (decided after) items
