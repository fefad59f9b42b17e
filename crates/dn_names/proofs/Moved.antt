-- The path keys of names that get another suffix.
use Rattle.std.proofs.Common.{◌≡◌, ℕ, ◌-◌, ◌+◌, ◌<◌, ◌≤◌, List, [], ◌∷◌, ◌++◌, zero, suc, length, take, drop, refl, sym, ◌∙◌, ap, arith, length-append}
use Rattle.std.proofs.lemmas.List.{drop_at}
use Rattle.std.proofs.lemmas.List.Elements.{All-append, All-take}
use Rattle.std.specs.Prelude.{true}
use Rattle.dn_names.specs.Names.{TypeAndValue, is_at_or_below, moved_name, parent_of}
use Rattle.dn_names.specs.Paths.{rdn_path, path_key, has_small_numbers, HasPath, IsPathOf, IsPathInParts}
use Rattle.dn_names.proofs.Alike.{Name}
use Rattle.dn_names.proofs.PathKeys.{path_key-append, path_key-from_below}

abbrev counts : List TypeAndValue → Type 0
counts rdn = has_small_numbers rdn ≡ true

-- the path of a name is no shorter than that of one which it is at or below
pub suffix_within : (name from : Name) → is_at_or_below name from ≡ true → length (path_key from) ≤ length (path_key name)
suffix_within name from below =
    let whole = ap (λ (path : List ℕ). length path) (path_key-from_below name from below) in
    omega (arith, whole, length-append (path_key from) (path_key (take (length name - length from) name)))

-- after that of the suffix comes that of the RDNs before it
after_suffix : (name from : Name) → is_at_or_below name from ≡ true → drop (length (path_key from)) (path_key name) ≡ path_key (take (length name - length from) name)
after_suffix name from below =
    ap (drop (length (path_key from))) (path_key-from_below name from below)
    ∙ drop_at (path_key from) (path_key (take (length name - length from) name)) (length (path_key from)) refl

-- the path of a name with another suffix
pub path_moved : (name from to : Name) (path : List ℕ) → HasPath name → HasPath to → is_at_or_below name from ≡ true → path ≡ path_key to ++ drop (length (path_key from)) (path_key name)
    → IsPathOf (moved_name name from to) path
path_moved name from to path has has_to below is =
    let count = length name - length from in
    record {
      is = is ∙ ap (λ more. path_key to ++ more) (after_suffix name from below) ∙ sym (path_key-append (take count name) to);
      numbers = All-append counts (take count name) to (All-take counts count name has.numbers) has_to.numbers;
    }

-- the own RDN of a name adds as much to the path whatever is above it
record IsMoved (rdn : List TypeAndValue) (rest to : Name) (count : ℕ) : Type 0 where
  own : length (path_key (rdn ∷ rest)) ≡ length (path_key rest) + length (rdn_path rdn)
  moved : length (path_key (take count (rdn ∷ rest) ++ to)) ≡ length (path_key (drop 1 (take count (rdn ∷ rest) ++ to))) + length (rdn_path rdn)

is_moved : (rdn : List TypeAndValue) (rest to : Name) (count : ℕ) → 0 < count → IsMoved rdn rest to count
is_moved rdn rest to zero some = absurd (omega arith)
is_moved rdn rest to (suc count) some = record {
  own = length-append (path_key rest) (rdn_path rdn);
  moved = length-append (path_key (take count rest ++ to)) (rdn_path rdn);
}

-- what the own RDN adds is no longer than the path of the name with another suffix
pub own_within : (name from to : Name) → length from < length name → length (path_key name) - length (path_key (parent_of name)) ≤ length (path_key (moved_name name from to))
own_within [] from to longer = absurd (omega arith)
own_within (rdn ∷ rest) from to longer =
    let is = is_moved rdn rest to (length (rdn ∷ rest) - length from) (omega arith) in
    omega (arith, is.own, is.moved)

-- and how much of it is that of the parent
pub moved_in_parts : (name from to : Name) (path : List ℕ) (above : ℕ) → HasPath name → HasPath to → is_at_or_below name from ≡ true → length from < length name
    → path ≡ path_key to ++ drop (length (path_key from)) (path_key name) → above + (length (path_key name) - length (path_key (parent_of name))) ≡ length path
    → IsPathInParts (moved_name name from to) path above
moved_in_parts [] from to path above has has_to below longer is long = absurd (omega arith)
moved_in_parts (rdn ∷ rest) from to path above has has_to below longer is long =
    let whole = path_moved (rdn ∷ rest) from to path has has_to below is in
    let parts = is_moved rdn rest to (length (rdn ∷ rest) - length from) (omega arith) in
    let size = ap (λ (text : List ℕ). length text) whole.is in
    record { path = whole; parent = omega (arith, long, size, parts.own, parts.moved) }
