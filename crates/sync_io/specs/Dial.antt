-- What a dialler was asked, what came of it, and what is still to come.
use Rattle.std.specs.Prelude.{ℕ, ◌+◌, Bool, if◌then◌else◌, List, [], ◌∷◌, ◌++◌, drop}

-- the addresses at which links were asked for, each with whether a link came; how many links came;
-- the links that were hung up, in order; and the links that are still to come, in order, each as it
-- is when it comes
pub record Dialled (L : Type 0) : Type 0 where
  pub asked : List (List ℕ × Bool)
  pub came : ℕ
  pub hung_up : List L
  pub to_come : List L

module _ {L : Type 0} where
  -- once more a link was asked for; where one came, it was the first of those to come
  abbrev pub dials : List ℕ → Bool → Dialled L → Dialled L
  dials address came dialled = record dialled {
    asked = dialled.asked ++ (address, came) ∷ [];
    came = if came then dialled.came + 1 else dialled.came;
    to_come = if came then drop 1 dialled.to_come else dialled.to_come;
  }

  -- once more a link was hung up
  abbrev pub hangs_up : L → Dialled L → Dialled L
  hangs_up link dialled = record dialled { hung_up = dialled.hung_up ++ link ∷ [] }
