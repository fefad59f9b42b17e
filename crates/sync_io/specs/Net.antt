-- What a net was asked, what came of it, and what is still to come.
use Rattle.std.specs.Prelude.{ℕ, ◌+◌, Bool, if◌then◌else◌, Option, List, [], ◌∷◌, ◌++◌, drop}
use Rattle.sync_io.specs.Dial.{Dialled}

-- the addresses at which it listened; how many links were accepted, and those that were released;
-- how many callers it gave, those that were retired and those that were let go, each in order; and
-- what is still to come, in order: links to accept, each as it is when it is accepted, and callers,
-- each as what a new one reports, where L and M are the links of the net and of its callers
pub record Served (L C M : Type 0) : Type 0 where
  pub asked : List (List ℕ)
  pub accepted : ℕ
  pub released : List L
  pub callers : ℕ
  pub retired : List C
  pub gone : List C
  pub links_to_come : List L
  pub callers_to_come : List (Option (Dialled M))

module _ {L C M : Type 0} where
  abbrev pub listens : List ℕ → Served L C M → Served L C M
  listens address served = record served { asked = served.asked ++ address ∷ [] }

  -- once more a link was asked for; where one came, it was the first of those to come
  abbrev pub accepts : Bool → Served L C M → Served L C M
  accepts came served = record served {
    accepted = if came then served.accepted + 1 else served.accepted;
    links_to_come = if came then drop 1 served.links_to_come else served.links_to_come;
  }

  abbrev pub releases : L → Served L C M → Served L C M
  releases link served = record served { released = served.released ++ link ∷ [] }

  -- once more a caller was asked for; where one came, it was the first of those to come
  abbrev pub calls : Bool → Served L C M → Served L C M
  calls came served = record served {
    callers = if came then served.callers + 1 else served.callers;
    callers_to_come = if came then drop 1 served.callers_to_come else served.callers_to_come;
  }

  abbrev pub retires : C → Served L C M → Served L C M
  retires caller served = record served { retired = served.retired ++ caller ∷ [] }

  abbrev pub lets_go : C → Served L C M → Served L C M
  lets_go caller served = record served { gone = served.gone ++ caller ∷ [] }
