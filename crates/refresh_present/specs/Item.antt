-- What is known of entries when they are decided.
use Rattle.std.specs.Prelude.{ℕ, List, map, filter}
use Rattle.refresh_present.specs.declared.item.Item.{Item}

abbrev pub identities : List Item → List ℕ
identities items = map (λ item. item.uuid) items

-- those in the content that is asked for
abbrev pub selected_of : List Item → List Item
selected_of items = filter (λ item. item.selected) items
