-- What a command asks for, with its filter seen as a tree.
use Rattle.std.specs.Prelude.{ℕ, Bool, List}
use Rattle.dn_names.specs.Names.{TypeAndValue}
use Rattle.entry_tree.specs.Selection.{Search, search_of}
use Rattle.schema_rules.specs.declared.raw.Change.{Change}
use Rattle.cascade_script.specs.declared.event.Command.{Command}
use Rattle.cascade_script.specs.declared.event.Command.TheVariants as command

pub data Order : Type 0 where
  Provider : List ℕ → List (List TypeAndValue) → Order
  Consumer : List ℕ → List ℕ → Search → Bool → Order
  Replica : List ℕ → List ℕ → Search → Bool → Order
  Clock : ℕ → Order
  Write : List ℕ → Change → Order
  OpenOnce : List ℕ → Order
  OpenStay : List ℕ → Order
  Send : List ℕ → ℕ → Order
  Take : List ℕ → ℕ → Order
  Cut : List ℕ → Order
  Settle : List ℕ → Order
  Lose : List ℕ → Order
  Cookie : List ℕ → List ℕ → Order
  Repoint : List ℕ → List ℕ → Order
  Respec : List ℕ → Search → Order
  Log : List ℕ → ℕ → Order
  Queue : List ℕ → ℕ → Order
  Show : List ℕ → Order

abbrev pub order_of : Command → Order
order_of (command.Provider name suffix) = Provider name suffix
order_of (command.Consumer name source spec reload) = Consumer name source (search_of spec) reload
order_of (command.Replica name source spec reload) = Replica name source (search_of spec) reload
order_of (command.Clock time) = Clock time
order_of (command.Write name change) = Write name change
order_of (command.OpenOnce name) = OpenOnce name
order_of (command.OpenStay name) = OpenStay name
order_of (command.Send name count) = Send name count
order_of (command.Take name count) = Take name count
order_of (command.Cut name) = Cut name
order_of (command.Settle name) = Settle name
order_of (command.Lose name) = Lose name
order_of (command.Cookie name text) = Cookie name text
order_of (command.Repoint name source) = Repoint name source
order_of (command.Respec name spec) = Respec name (search_of spec)
order_of (command.Log name limit) = Log name limit
order_of (command.Queue name limit) = Queue name limit
order_of (command.Show name) = Show name
