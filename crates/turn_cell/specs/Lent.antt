-- What a turn becomes through the borrow of its value.
use Rattle.turn_cell.specs.declared.turn.TurnAt.{TurnAt}

-- the turn with this value
abbrev pub with_value : {D C N X : Type 0} → TurnAt D C N X → D → TurnAt D C N X
with_value turn value = record turn { value = value }
