-- What each kind of step leaves its seat with.
use Rattle.std.specs.Prelude.{◌≡◌, ◌≢◌, ℕ, ◌%◌, ◌^◌, List, [], ◌∷◌, ◌++◌, map, take, drop, length, Option, Some, None}
use Rattle.atomic_table.specs.Table.{Me, Step}
use Rattle.turn_cell.specs.declared.table.PassView.{PassView}
use Rattle.turn_cell.specs.declared.table.SeatView.{SeatView}
use Rattle.turn_cell.specs.Journals.{Every}
use Rattle.turn_cell.specs.Rule.{idle, waiting, in_turn, ticket_of, HasSeen, HaveSeen}

-- a seat as a step finds and leaves it: its view, and the slots that are out with it
abbrev pub SeatState : Type 0 → Type 0 → Type 0 → Type 0
SeatState D N X = Me (Option D) (SeatView D N X)

module _ {N X : Type 0} where
  -- the first of these passes has seen this journal, the others what they had seen
  abbrev pub first_shown : List (N × ℕ) → List (PassView N X) → List (PassView N X)
  first_shown journal [] = []
  first_shown journal (pass ∷ passes) = record {
    number = pass.number;
    seats = pass.seats;
    seen = journal;
    share = pass.share;
  } ∷ passes

module _ {D N X : Type 0} where
  -- ---- splitting and joining seats

  -- the first pass of a seat, which a new seat gets
  abbrev pub dealt : SeatView D N X → SeatView D N X
  dealt view = idle (take 1 view.passes)

  -- a seat without its first pass
  abbrev pub undealt : SeatView D N X → SeatView D N X
  undealt view = record {
    passes = drop 1 view.passes;
    ticket = view.ticket;
    taken = view.taken;
  }

  -- a seat with the passes of another one
  abbrev pub joined : SeatView D N X → SeatView D N X → SeatView D N X
  joined view other = record {
    passes = view.passes ++ other.passes;
    ticket = view.ticket;
    taken = view.taken;
  }

  -- a seat that was joined into another one
  abbrev pub spent : SeatView D N X
  spent = idle []

  -- ---- steps on a word

  -- a ticket is drawn, of which the word had the last 64 bits
  abbrev pub Draws : Step (Option D) → SeatState D N X → ℕ → SeatState D N X → Type 0
  Draws step seat found after =
      (ticket : ℕ) × (found ≡ ticket % 2 ^ 64) × (after ≡ (waiting seat.0.passes ticket, seat.1))

  -- the turn is over
  abbrev pub Raises : Step (Option D) → SeatState D N X → ℕ → SeatState D N X → Type 0
  Raises step seat found after = after ≡ (idle seat.0.passes, [])

  -- The first pass of a seat has seen the journal, whose length is read. It goes on from what each
  -- of the seat's passes had seen.
  pub record IsShown (before : SeatState D N X) (found : ℕ) (after : SeatState D N X)
      : Type 0 where
    pub journal : List (N × ℕ)
    pub count : found ≡ length journal
    pub seat : after ≡ (idle (first_shown journal before.0.passes), before.1)
    pub seen : Every (λ pass. HasSeen journal pass.share pass) before.0.passes

  -- the length of the journal is read
  abbrev pub Meets : Step (Option D) → SeatState D N X → ℕ → SeatState D N X → Type 0
  Meets step seat found after = IsShown seat found after

module _ {D N X : Type 0} (journal : D → List (N × ℕ)) (share : D → ℕ → List X) where
  -- a seat in turn, whose slot has the value
  pub record IsServed (passes : List (PassView N X)) (ticket : ℕ)
      (after : SeatState D N X) : Type 0 where
    pub value : D
    pub seat : after ≡ (in_turn passes ticket value, (0, Some value) ∷ [])
    pub seen : HaveSeen journal share value passes

  -- the seat's ticket is served, or nothing has changed
  abbrev pub Serves : Step (Option D) → SeatState D N X → ℕ → SeatState D N X → Type 0
  Serves step seat found after =
      (ticket : ℕ) → seat.0.ticket ≡ Some ticket
      → (found ≡ ticket % 2 ^ 64 → IsServed seat.0.passes ticket after)
      × (found ≢ ticket % 2 ^ 64 → after ≡ seat)

  -- what a pass has seen that has seen all of the value
  abbrev pub updated : D → PassView N X → PassView N X
  updated value pass = record {
    number = pass.number;
    seats = pass.seats;
    seen = journal value;
    share = share value pass.number;
  }

  -- a seat in turn, once the entries of its value are counted
  abbrev pub counted : D → SeatView D N X → SeatView D N X
  counted value view = record {
    passes = map (updated value) view.passes;
    ticket = view.ticket;
    taken = Some value;
  }

  -- the new entries of the value in the slot are counted
  abbrev pub Counts : Step (Option D) → SeatState D N X → ℕ → SeatState D N X → Type 0
  Counts step seat found after =
      (value : D) → seat.1 ≡ (0, Some value) ∷ [] → after ≡ (counted value seat.0, seat.1)

  -- ---- a whole turn

  -- a seat in turn has taken the value out of the slot
  pub record HasTaken (before : SeatView D N X) (value : D)
      (after : SeatState D N X) : Type 0 where
    pub seat : after ≡ (in_turn before.passes (ticket_of before.ticket) value, (0, None) ∷ [])
    pub seen : HaveSeen journal share value before.passes

-- ---- two passes that meet

-- Two seats of one pass each. The first one was shown the journal, whose length is read; it goes on
-- from what each of them had seen.
pub record HaveMet {D N X : Type 0} (pass other : PassView N X) (found : ℕ)
    (mine theirs : SeatState D N X) : Type 0 where
  pub journal : List (N × ℕ)
  pub count : found ≡ length journal
  pub mine_is : mine ≡ (idle (first_shown journal (pass ∷ [])), [])
  pub theirs_is : theirs ≡ (idle (other ∷ []), [])
  pub seen : HasSeen journal pass.share pass
  pub seen_beside : HasSeen journal other.share other
