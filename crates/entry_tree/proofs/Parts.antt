-- The parts of a tree.
use Rattle.std.proofs.Common.{◌≡◌, ℕ, List, [], sym, refl, subst, arith}
use Rattle.std.specs.Prelude.{slice_index}
use Rattle.entry_writes.specs.declared.entry.Entry.{Entry}
use Rattle.entry_tree.specs.NameIndex.{Names, IsTree}
use Rattle.entry_tree.proofs.NameChanges.{index_none}

-- a tree without entries
none : (strays : List ℕ) → ((kind : ℕ) → slice_index strays kind ≡ 0) → IsTree [] [] 0 strays
none strays zeros = record {
  keyed = refl;
  directory = record { ascends = refl; weighed = refl; few = omega arith; light = omega arith };
  index = index_none;
  counted = λ kind low. zeros kind;
}

-- without entries, names and strays they are those of a tree
pub tree_none : (entries : List (ℕ × Entry)) (names : Names) (strays : List ℕ) → entries ≡ [] → names ≡ [] → ((kind : ℕ) → slice_index strays kind ≡ 0) → IsTree entries names 0 strays
tree_none entries names strays no_entries no_names zeros =
    subst (λ es. IsTree es names 0 strays) (sym no_entries) (subst (λ ns. IsTree [] ns 0 strays) (sym no_names) (none strays zeros))

-- the same parts
pub tree_same : (entries other : List (ℕ × Entry)) (names more : Names) (weight : ℕ) (strays : List ℕ) → other ≡ entries → more ≡ names → IsTree entries names weight strays → IsTree other more weight strays
tree_same entries other names more weight strays same_entries same_names tree =
    subst (λ es. IsTree es more weight strays) (sym same_entries) (subst (λ ns. IsTree entries ns weight strays) (sym same_names) tree)
