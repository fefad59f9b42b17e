-- Entries that can be served, and that a selection of them can be too.
use Rattle.std.specs.Prelude.{List, All}
use Rattle.std.proofs.lemmas.List.Elements.{All-filter}
use Rattle.entry_tree.specs.Selection.{Search, select, is_selected}
use Rattle.entry_tree.specs.declared.entry.Entry.{Entry}
use Rattle.sync_model.specs.Law.{IsWithinLimits}
use Rattle.sync_model.proofs.Limits.{within_filter}
use Rattle.sync_wire.specs.CanBeSent.{CanBeSent}

-- entries that a provider can serve: each can be sent, and all are within the limits of a directory
pub record CanBeServed (entries : List Entry) : Type 0 where
  pub sent : All CanBeSent entries
  pub within : IsWithinLimits entries

-- what is selected of entries that can be served can be served
abbrev pub SelectedCanBeServed : Type 0
SelectedCanBeServed = (search : Search) (entries : List Entry) → CanBeServed entries → CanBeServed (select search entries)

-- what is selected of entries that can be served can be too
pub selected_can_be_served : SelectedCanBeServed
selected_can_be_served search entries good = record {
  sent = All-filter (is_selected search) CanBeSent entries good.sent;
  within = within_filter (is_selected search) entries good.within;
}
