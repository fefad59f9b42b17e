-- What entries weigh after changes, by what these take away and bring.
use Rattle.std.proofs.Common.{◌≡◌, ◌<◌, ◌≤◌, ◌+◌, ℕ, true, List, length, take, get_or, Option, ap, sym, ◌∙◌, subst, arith}
use Rattle.std.specs.List.{sum_by}
use Rattle.std.proofs.lemmas.List.Sums.{sum_by_more, sum_by_more_le}
use Rattle.schema_rules.specs.Attributes.{weight_of}
use Rattle.entry_writes.specs.declared.entry.Entry.{Entry}
use Rattle.entry_writes.specs.declared.touched.EntryChange.{EntryChange}
use Rattle.entry_writes.specs.State.{ascends, found_weight, put, total_weight, most_entries, most_weight, IsDirectory}
use Rattle.entry_writes.specs.Touched.{touched, with_changes, weight_before, weight_after, CanBeMade}
use Rattle.entry_tree.proofs.Putting.{put_directory, total_put}
use Rattle.entry_tree.proofs.Totals.{adds_touched}

-- ---- a directory and what it weighs

-- a directory weighs what its entries do
pub directory_total : (es : List Entry) (weight : ℕ) → IsDirectory es weight → IsDirectory es (total_weight es)
directory_total es weight h = subst (IsDirectory es) h.weighed h

-- a directory with one entry more
pub directory_put : (e : Entry) (es : List Entry) (weight : ℕ) → IsDirectory es weight → length es < most_entries → total_weight es + weight_of e.attrs ≤ most_weight
    → IsDirectory (put e es) (total_weight (put e es))
directory_put e es weight h few light =
    let was = h.weighed in
    let total = total_put e es h.ascends in
    put_directory e es weight (total_weight (put e es)) h few light (omega (arith, was, total))

-- ---- what changes take away and bring

-- what those so far and the next take, or bring
pub side_more : (side : EntryChange → Option Entry) (changes : List EntryChange) (i : ℕ) (change : EntryChange) → i < length changes → change ≡ get_or changes i change
    → sum_by (λ c. found_weight (side c)) (take (i + 1) changes) ≡ sum_by (λ c. found_weight (side c)) (take i changes) + found_weight (side change)
side_more side changes i change low at =
    sum_by_more (λ c. found_weight (side c)) changes i change low
    ∙ ap (λ c. sum_by (λ x. found_weight (side x)) (take i changes) + found_weight (side c)) (sym at)

-- is no more than all take, or bring
pub side_more_le : (side : EntryChange → Option Entry) (changes : List EntryChange) (i : ℕ) (change : EntryChange) → i < length changes → change ≡ get_or changes i change
    → sum_by (λ c. found_weight (side c)) (take i changes) + found_weight (side change) ≤ sum_by (λ c. found_weight (side c)) changes
side_more_le side changes i change low at =
    subst (λ c. sum_by (λ x. found_weight (side x)) (take i changes) + found_weight (side c) ≤ sum_by (λ x. found_weight (side x)) changes) (sym at)
    (sum_by_more_le (λ c. found_weight (side c)) changes i change low)

-- the weights of both states, by the changes between them
pub record Weighs (old new : List Entry) (changes : List EntryChange) : Type 0 where
  pub before : weight_before changes ≤ total_weight old
  pub after : weight_after changes ≤ total_weight new
  pub both : total_weight new + weight_before changes ≡ total_weight old + weight_after changes

-- what differs between entries takes away and brings the difference of their weights
pub weighs_touched : (old new : List Entry) → ascends old ≡ true → ascends new ≡ true → Weighs old new (touched old new)
weighs_touched old new asc up =
    let adds = adds_touched (λ (e : Entry). weight_of e.attrs) old new asc up in
    record { before = adds.before; after = adds.after; both = adds.both }

-- changes that can be made weigh what they take away and bring
pub weighs_made : (es : List Entry) (changes : List EntryChange) → ascends es ≡ true → CanBeMade es changes → Weighs es (with_changes es changes) changes
weighs_made es changes asc can =
    subst (λ cs. Weighs es (with_changes es changes) cs) (sym can.exact) (weighs_touched es (with_changes es changes) asc can.directory.ascends)

-- the weight of a directory after changes
pub directory_made : (es : List Entry) (changes : List EntryChange) (was now : ℕ) → IsDirectory es was → CanBeMade es changes → now + weight_before changes ≡ was + weight_after changes
    → IsDirectory (with_changes es changes) now
directory_made es changes was now h can weighed =
    let both = (weighs_made es changes h.ascends can).both in
    let held = h.weighed in
    subst (IsDirectory (with_changes es changes)) (omega (arith, both, held, weighed)) can.directory
