-- A turn: what it found, and what it has now.
use Rattle.std.specs.Prelude.{◌≡◌, ℕ, ◌+◌, ◌<◌, ◌^◌, List, [], ◌∷◌, length, None}
use Rattle.atomic_table.specs.Seated.{TableId}
use Rattle.turn_cell.specs.declared.turn.TurnAt.{TurnAt}
use Rattle.turn_cell.specs.Rule.{first_pass, ticket_of, in_turn, times, Grows}
use Rattle.turn_cell.specs.Steps.{SeatState}

module _ {D C N X : Type 0} where
  -- the value as it is now
  abbrev pub value_of : TurnAt D C N X → D
  value_of turn = turn.value

  -- the value as `enter` found it
  abbrev pub found_of : TurnAt D C N X → D
  found_of turn = turn.found.value

  -- the number of the pass
  abbrev pub number_of : TurnAt D C N X → ℕ
  number_of turn = turn.number

  -- how many passes its cell has
  abbrev pub passes_of : TurnAt D C N X → ℕ
  passes_of turn = (first_pass turn.seat.me.0.passes).seats

-- It is a turn at this cell. What its value is now does not matter.
pub record IsTurn {D C N X : Type 0} (journal : D → List (N × ℕ)) (cell : TableId)
    (turn : TurnAt D C N X) : Type 0 where
  pub table : turn.seat.table_id ≡ cell
  pub seat : turn.seat.me
      ≡ (
        in_turn (first_pass turn.seat.me.0.passes ∷ []) (ticket_of turn.seat.me.0.ticket)
            turn.found.value,
        (0, None) ∷ [],
      )
  pub number : (first_pass turn.seat.me.0.passes).number ≡ turn.number
  pub before : length (journal turn.found.value) ≡ turn.before

-- The turn of this seat may end with this value, which has this number of entries more
-- than the one that it found.
pub record MayEnd {D N X : Type 0} (journal : D → List (N × ℕ)) (share : D → ℕ → List X)
    (value : D) (added : ℕ) (seat : SeatState D N X) : Type 0 where
  pub found : D
  pub number : ℕ
  pub in_turn_with : seat
      ≡ (in_turn seat.0.passes (ticket_of seat.0.ticket) found, (0, None) ∷ [])
  pub own : 0 < times number seat.0.passes
  pub grows : Grows journal share number found value
  pub more : length (journal value) ≡ length (journal found) + added
  pub few : length (journal value) < 2 ^ 64
