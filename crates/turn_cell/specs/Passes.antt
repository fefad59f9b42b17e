-- What a pass has seen of its cell, and what that says of the cell's value.
use Rattle.std.specs.Prelude.{◌≡◌, ℕ, suc, List, [], ◌∷◌, ◌++◌}
use Rattle.atomic_table.specs.Seated.{TableId}
use Rattle.turn_cell.specs.declared.table.PassView.{PassView}
use Rattle.turn_cell.specs.declared.cell.TurnCell.{TurnCell}
use Rattle.turn_cell.specs.declared.pass.Pass.{Pass}
use Rattle.turn_cell.specs.Journals.{Every, places, notes_of}
use Rattle.turn_cell.specs.Rule.{first_pass, new_pass, IsOther}

-- ---- cells

-- which cell it is
abbrev pub cell_id : {D N X : Type 0} → TurnCell D N X → TableId
cell_id cell = cell.table.shared.table_id

-- how many passes it has
abbrev pub seats_of : {D N X : Type 0} → TurnCell D N X → ℕ
seats_of cell = cell.seats

-- the value that it was made with
abbrev pub opened_with : {D N X : Type 0} → TurnCell D N X → D
opened_with cell = cell.table.shared.key.value.value

-- ---- passes

-- the cell that a pass is of
abbrev pub cell_of : {D N X : Type 0} {g : _} → Pass D N X g → TableId
cell_of pass = pass.seat.table_id

-- the number of a pass, the journal that it has seen, and its share
abbrev pub view_of : {D N X : Type 0} {g : _} → Pass D N X g → PassView N X
view_of pass = first_pass pass.seat.me.0.passes

-- the places of a pass's own entries in what it has seen
abbrev pub mine : {N X : Type 0} → PassView N X → List ℕ
mine pass = places pass.number pass.seen

-- passes of this cell that have taken no turn, with the numbers from `number` on
abbrev pub AreNew : {D N X : Type 0} {g : _} → TableId → ℕ → List (N × ℕ) → (ℕ → List X) → ℕ
    → List (Pass D N X g) → Type 0
AreNew cell seats journal share number [] = Unit {0}
AreNew cell seats journal share number (pass ∷ passes) =
    (cell_of pass ≡ cell)
    × (view_of pass ≡ new_pass seats journal share number)
    × AreNew cell seats journal share (suc number) passes

-- The journal goes on from what the pass has seen by entries of other passes of the cell. So it has
-- the pass's number at the places of the pass's own entries alone. The share is the one that the
-- pass has seen.
pub record Continues {N X : Type 0} (journal : List (N × ℕ)) (share : List X)
    (pass : PassView N X) : Type 0 where
  pub later : List (N × ℕ)
  pub begins : journal ≡ pass.seen ++ later
  pub others : Every (IsOther pass) later
  pub own : places pass.number journal ≡ mine pass
  pub notes : notes_of pass.number journal ≡ notes_of pass.number pass.seen
  pub same : share ≡ pass.share
