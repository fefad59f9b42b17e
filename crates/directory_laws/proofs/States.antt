-- Each state of a directory is within the limits.
use Rattle.std.proofs.Common.{◌≡◌, ◌≤◌, ◌<◌, ◌+◌, ◌^◌, ℕ, suc, true, inl, inr, List, [], ◌∷◌, length, take, Option, Some, None, ap, refl, ◌∙◌, arith}
use Rattle.std.specs.Prelude.{option_map}
use Rattle.std.specs.Option.{option_or}
use Rattle.std.proofs.lemmas.Bool.{and_parts}
use Rattle.std.proofs.lemmas.List.{length-take}
use Rattle.dn_names.specs.Names.{TypeAndValue}
use Rattle.dn_names.proofs.EqualNames.{AreEqual, AreEqual-same_name}
use Rattle.dn_names.proofs.SortedLists.{In}
use Rattle.entry_tree.specs.declared.entry.Entry.{Entry}
use Rattle.entry_tree.specs.declared.op.Write.{Write}
use Rattle.entry_tree.specs.Effects.{effect}
use Rattle.entry_tree.specs.History.{identity, state_from, state_of}
use Rattle.entry_tree.specs.State.{ascends, is_named, entry_named}
use Rattle.entry_tree.proofs.Identities.{above}
use Rattle.sync_model.specs.Law.{IsWithinLimits}
use Rattle.sync_model.specs.Within.{same_named}
use Rattle.directory_laws.specs.Accepted.{IsAcceptedFromClient, WereAccepted}
use Rattle.directory_laws.proofs.Histories.{AllAccepted, accepted-take}
use Rattle.directory_laws.proofs.Members.{in_found, above_in}
use Rattle.directory_laws.proofs.Numbers.{IsNumbered, IsNumbered-later, IsNumbered-next, IsNumbered-new, each_effect}
use Rattle.directory_laws.proofs.Sizes.{IsSmall, small-effect}
use Rattle.directory_laws.proofs.TreeWrites.{tree-effect}
use Rattle.directory_laws.proofs.Trees.{IsTree, IsTree-nil}

-- ---- number and weight

small-state_from : (writes : List Write) (suffix : List (List TypeAndValue)) (history : ℕ) (entries : List Entry) (before : ℕ) → IsSmall entries → AllAccepted suffix history entries before writes
    → IsSmall (state_from history entries before writes)
unfolding state_from
small-state_from [] suffix history entries before small accepted = small
small-state_from (write ∷ writes) suffix history entries before small accepted =
    let uuid = identity history (before + 1) in
    let first : IsAcceptedFromClient suffix entries write = accepted 0 write (omega arith) in
    small-state_from writes suffix history (effect entries write.op uuid write.csn) (before + 1) (small-effect write.op suffix entries uuid write.csn small first.formed first.free)
    (λ number other low. accepted (suc number) other (omega arith))

-- each state has few and light entries
pub small-state_of : (suffix : List (List TypeAndValue)) (history : ℕ) (writes : List Write) (number : ℕ) → WereAccepted suffix history writes → IsSmall (state_of history writes number)
small-state_of suffix history writes number accepted =
    small-state_from (take number writes) suffix history [] 0 (record { ascends = refl; weighed = refl; few = omega arith; light = omega arith }) (accepted-take suffix history writes number accepted)

-- ---- names

abbrev AreNumbered : ℕ → ℕ → List Entry → Type 0
AreNumbered history before entries = (e : Entry) → In e entries → IsNumbered history before e.uuid

tree-state_from : (writes : List Write) (suffix : List (List TypeAndValue)) (history : ℕ) (entries : List Entry) (before : ℕ) → IsTree suffix entries → AreNumbered history before entries
    → AllAccepted suffix history entries before writes → before + length writes ≤ 2 ^ 62 → IsTree suffix (state_from history entries before writes)
unfolding state_from
tree-state_from [] suffix history entries before tree numbered accepted few = tree
tree-state_from (write ∷ writes) suffix history entries before tree numbered accepted few =
    let uuid = identity history (before + 1) in
    let first : IsAcceptedFromClient suffix entries write = accepted 0 write (omega arith) in
    tree-state_from writes suffix history (effect entries write.op uuid write.csn) (before + 1)
    (tree-effect write.op suffix entries uuid write.csn first.formed first.free (λ other member. IsNumbered-new history before other.uuid (numbered other member) (omega (arith, few))) tree)
    (each_effect (IsNumbered history (before + 1)) write.op entries uuid write.csn first.formed (IsNumbered-next history before)
    (λ e member. IsNumbered-later history before e.uuid (numbered e member)))
    (λ number other low. accepted (suc number) other (omega arith)) (omega (arith, few))

-- each entry but the suffix's has its parent, and one name is one identity
pub tree-state_of : (suffix : List (List TypeAndValue)) (history : ℕ) (writes : List Write) (number : ℕ) → WereAccepted suffix history writes → length writes ≤ 2 ^ 62
    → IsTree suffix (state_of history writes number)
tree-state_of suffix history writes number accepted few =
    tree-state_from (take number writes) suffix history [] 0 (IsTree-nil suffix) (λ e member. absurd member) (accepted-take suffix history writes number accepted)
    (omega (arith, few, length-take number writes))

-- entries of which no two of one name have two identities
same_named-none : (entries : List Entry) → ascends entries ≡ true → ((a b : Entry) → In a entries → In b entries → AreEqual a.dn b.dn → a.uuid ≡ b.uuid) → same_named entries ≡ None
same_named-none [] asc apart = refl
same_named-none (e ∷ entries) asc apart =
    let parts = and_parts (above e.uuid entries) (ascends entries) asc in
    let rest = same_named-none entries parts.1 (λ a b in_a in_b equal. apart a b (inr in_a) (inr in_b) equal) in
    ap (λ found. option_or (option_map (λ (other : Entry). (e.uuid, other.uuid)) found) (same_named entries)) (by parts.0 (entry_named entries e.dn) refl) ∙ rest
  where
    by : above e.uuid entries ≡ true → (found : Option Entry) → entry_named entries e.dn ≡ found → entry_named entries e.dn ≡ None
    by later None is = is
    by later (Some x) is =
        let found = in_found (is_named e.dn) entries x is in
        let far : e.uuid < x.uuid = above_in e.uuid entries x later found.0 in
        let same : x.uuid ≡ e.uuid = apart x e (inr found.0) (inl refl) (AreEqual-same_name x.dn e.dn found.1) in
        absurd (omega (arith, far, same))

-- each state keeps within the limits
pub IsWithinLimits-state_of : (suffix : List (List TypeAndValue)) (history : ℕ) (writes : List Write) → WereAccepted suffix history writes → length writes ≤ 2 ^ 62 → (number : ℕ)
    → IsWithinLimits (state_of history writes number)
IsWithinLimits-state_of suffix history writes accepted few number =
    let small = small-state_of suffix history writes number accepted in
    let tree = tree-state_of suffix history writes number accepted few in
    record {
      few = small.few;
      light = small.light;
      unique_names = same_named-none (state_of history writes number) tree.ascends tree.unique_names;
    }
