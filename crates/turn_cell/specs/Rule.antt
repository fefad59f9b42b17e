-- What the table of a cell keeps between any two steps.
--
-- Word 0 counts the tickets that were drawn and word 1 is the ticket that is served, both modulo
-- 2^64; word 2 is the length of the journal. The one slot has the value. The view of a seat is the
-- passes that it stands for with what they have seen, its ticket, and in a turn the value.
use Rattle.std.specs.Prelude.{◌≡◌, ◌≢◌, ◌⊎◌, ℕ, zero, suc, ◌+◌, ◌%◌, ◌^◌, ◌<◌, ◌≤◌, ◌==◌, if◌then◌else◌, List, [], ◌∷◌, ◌++◌, length, Option, Some, None, IfSome}
use mathlib.Core.Option.{none, some}
use mathlib.Core.Option as maybe
use lib.ListN.{get_elem?}
use Rattle.atomic_table.specs.Table.{State}
use Rattle.turn_cell.specs.declared.table.PassView.{PassView}
use Rattle.turn_cell.specs.declared.table.SeatView.{SeatView}
use Rattle.turn_cell.specs.Journals.{Every, IsNumber, HasGrown}

-- ---- views

-- one of the passes of a cell that has taken no turn, which has seen the journal and its share
abbrev pub new_pass : {N X : Type 0} → ℕ → List (N × ℕ) → (ℕ → List X) → ℕ → PassView N X
new_pass seats journal share number = record {
  number = number;
  seats = seats;
  seen = journal;
  share = share number;
}

-- n such passes, with the numbers from `number` on
abbrev pub new_passes :
    {N X : Type 0} → ℕ → List (N × ℕ) → (ℕ → List X) → ℕ → ℕ → List (PassView N X)
new_passes seats journal share number zero = []
new_passes seats journal share number (suc n) =
    new_pass seats journal share number ∷ new_passes seats journal share (suc number) n

module _ {N X : Type 0} where
  -- the first of these passes, or one with the number 0
  abbrev pub first_pass : List (PassView N X) → PassView N X
  first_pass [] = new_pass 0 [] (λ number. []) 0
  first_pass (pass ∷ passes) = pass

-- the ticket, or 0
abbrev pub ticket_of : Option ℕ → ℕ
ticket_of None = 0
ticket_of (Some ticket) = ticket

module _ {D N X : Type 0} where
  -- a seat without a ticket
  abbrev pub idle : List (PassView N X) → SeatView D N X
  idle passes = record { passes = passes; ticket = None; taken = None }

  -- a seat with a ticket
  abbrev pub waiting : List (PassView N X) → ℕ → SeatView D N X
  waiting passes ticket = record { passes = passes; ticket = Some ticket; taken = None }

  -- a seat whose ticket is served: the value is out with it
  abbrev pub in_turn : List (PassView N X) → ℕ → D → SeatView D N X
  in_turn passes ticket value = record {
    passes = passes;
    ticket = Some ticket;
    taken = Some value;
  }

  -- the seat that a table is made with, which stands for all the passes
  abbrev pub dealer : List (N × ℕ) → (ℕ → List X) → ℕ → SeatView D N X
  dealer journal share seats = idle (new_passes seats journal share 1 seats)

-- ---- sums over views

-- the sum of f over these views
abbrev pub total : {V : Type 0} → (V → ℕ) → List V → ℕ
total f [] = 0
total f (view ∷ views) = f view + total f views

-- how many of these passes have this number
abbrev pub times : {N X : Type 0} → ℕ → List (PassView N X) → ℕ
times number [] = 0
times number (pass ∷ passes) = (if number == pass.number then 1 else 0) + times number passes

-- 1 for any ticket
abbrev pub tickets : Option ℕ → ℕ
tickets None = 0
tickets (Some ticket) = 1

-- 1 for this ticket
abbrev pub tickets_at : ℕ → Option ℕ → ℕ
tickets_at this None = 0
tickets_at this (Some ticket) = if this == ticket then 1 else 0

-- ---- the rule

-- an entry of another pass of the cell
abbrev pub IsOther : {N X : Type 0} → PassView N X → N × ℕ → Type 0
IsOther pass entry = (entry.1 ≢ pass.number) × IsNumber pass.seats entry.1

-- The journal goes on from what the pass has seen by entries of other passes, and its share is the
-- one that it has seen.
pub record HasSeen {N X : Type 0} (journal : List (N × ℕ)) (share : List X) (pass : PassView N X)
    : Type 0 where
  pub later : List (N × ℕ)
  pub goes_on : journal ≡ pass.seen ++ later
  pub others : Every (IsOther pass) later
  pub same : share ≡ pass.share

-- one of the passes of a cell with this number of them
abbrev pub IsOneOf : {N X : Type 0} → ℕ → PassView N X → Type 0
IsOneOf seats pass = IsNumber seats pass.number × (pass.seats ≡ seats)

module _ {D N X : Type 0} where
  -- Each pass is with one seat, and no two have one number. The tickets from `served` up to before
  -- `drawn` are out, each with one seat.
  pub record AreDealt (seats served drawn : ℕ) (views : List (SeatView D N X)) : Type 0 where
    pub passes : total (λ view. length view.passes) views ≡ seats
    pub once : (number : ℕ) → total (λ view. times number view.passes) views ≤ 1
    pub out : served + total (λ view. tickets view.ticket) views ≡ drawn
    pub apart : (ticket : ℕ) → total (λ view. tickets_at ticket view.ticket) views ≤ 1

module _ {D N X : Type 0} (journal : D → List (N × ℕ)) (share : D → ℕ → List X) where
  -- each of the passes has seen its entries of the value's journal and its share
  abbrev pub HaveSeen : D → List (PassView N X) → Type 0
  HaveSeen value passes =
      Every (λ pass. HasSeen (journal value) (share value pass.number) pass) passes

  -- what the view of a seat says is so
  pub record Fits (seats served drawn : ℕ) (value : D) (homes : List (maybe.Option (Option D)))
      (view : SeatView D N X) : Type 0 where
    pub seen : HaveSeen value view.passes
    pub numbers : Every (IsOneOf seats) view.passes
    pub ticket : IfSome view.ticket (λ ticket.
        (served ≤ ticket) × (ticket < drawn) × (0 < length view.passes))
    pub taken : IfSome view.taken (λ taken.
        (taken ≡ value) × (view.ticket ≡ Some served) × (homes ≡ none ∷ []))

  -- the value is in its slot, or the slot is out with a seat in turn
  abbrev pub IsPlaced : D → List (maybe.Option (Option D)) → List (SeatView D N X) → Type 0
  IsPlaced value homes views =
      (homes ≡ some (Some value) ∷ [])
      ⊎ ((homes ≡ none ∷ [])
      × ((seat : ℕ) × (view : SeatView D N X)
      × (get_elem? views seat ≡ some view) × (view.taken ≡ Some value)))

  -- The rule of a table that was made with this journal for that many passes.
  pub record TakesTurns (opened : List (N × ℕ)) (seats : ℕ)
      (state : State (Option D) (SeatView D N X)) : Type 0 where
    pub value : D
    pub served : ℕ
    pub drawn : ℕ
    pub words : state.words
        ≡ (drawn % 2 ^ 64) ∷ (served % 2 ^ 64) ∷ length (journal value) ∷ []
    pub few : seats ≤ 1024
    pub grown : HasGrown seats opened (journal value)
    pub dealt : AreDealt seats served drawn state.views
    pub placed : IsPlaced value state.homes state.views
    pub each : (seat : ℕ) (view : SeatView D N X) → get_elem? state.views seat ≡ some view
        → Fits seats served drawn value state.homes view

  -- In a turn of the pass with this number the journal has gained entries of that number alone, and
  -- the shares of all other numbers have stayed.
  pub record Grows (number : ℕ) (before after : D) : Type 0 where
    pub added : List (N × ℕ)
    pub entries : journal after ≡ journal before ++ added
    pub own : Every (λ entry. entry.1 ≡ number) added
    pub others : (other : ℕ) → other ≢ number → share after other ≡ share before other
