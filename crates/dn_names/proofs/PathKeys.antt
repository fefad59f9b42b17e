-- What the path keys of names show: the names that are at or below others, and those that are equal.
use Rattle.std.proofs.Common.{◌≡◌, ℕ, ◌-◌, ◌+◌, ◌<◌, ◌≤◌, ◌^◌, true, false, ◌&&◌, nat_eq, nat_le, nat_lt, List, [], ◌∷◌, ◌++◌, length, map, take, drop, refl, sym, ◌∙◌, ap, arith, inl, inr, append_assoc, append-nil, length-append}
use Rattle.std.specs.Prelude.{bytes_eq}
use Rattle.std.specs.List.{AllPass, list_all, starts_with}
use Rattle.std.proofs.lemmas.Bool.{and_parts, and_from, eqb-true, eq-eqb, le-leb, ltb-true, cases_lt}
use Rattle.std.proofs.lemmas.Bool.Decides.{Decides-eqb}
use Rattle.std.proofs.lemmas.List.{length-take, length-drop, take-append-drop, take_at}
use Rattle.std.proofs.lemmas.List.Elements.{All-cons, All-head, All-take, All-drop}
use Rattle.std.proofs.lemmas.Slice.Eq.{starts_is, bytes_eq-Decides}
use Rattle.dn_names.specs.Names.{TypeAndValue, same_name, suffix_of, is_at_or_below, is_child_of, parent_of}
use Rattle.dn_names.specs.Paths.{four_octets, piece_set, rdn_path, path_key, has_short_key, has_small_numbers, HasPath, IsPathOf, IsPathInParts}
use Rattle.dn_names.specs.Sound.{is_rdn}
use Rattle.dn_names.proofs.Alike.{Name, both_or_none}
use Rattle.dn_names.proofs.KeyTexts.{joined}
use Rattle.dn_names.proofs.PathPieces.{rdn_path-apart, some_pieces, stops, pieces-from_same_name, same_name-from_pieces, IsStop}

abbrev passes : List TypeAndValue → Type 0
passes rdn = is_rdn rdn ≡ true

abbrev counts : List TypeAndValue → Type 0
counts rdn = has_small_numbers rdn ≡ true

-- ---- the path of a name in parts

-- the path of the RDNs above comes first
pub path_key-append : (own above : Name) → path_key (own ++ above) ≡ path_key above ++ path_key own
path_key-append [] above = sym (append-nil (path_key above))
path_key-append (rdn ∷ own) above =
    ap (λ path. path ++ rdn_path rdn) (path_key-append own above) ∙ append_assoc (path_key above) (path_key own) (rdn_path rdn)

-- the path of a name is that of a suffix, and what the RDNs before this add
pub path_key-cut : (count : ℕ) (name : Name) → path_key name ≡ path_key (drop count name) ++ path_key (take count name)
path_key-cut count name = ap path_key (sym (take-append-drop count name)) ∙ path_key-append (take count name) (drop count name)

-- ---- a path that is made from the last RDN on

-- the path of the RDNs that are done, with those that are left before them
pub record IsSoFar (rdns left : Name) (path : List ℕ) : Type 0 where
  pub done : Name
  pub cut : rdns ≡ left ++ done
  pub is : path ≡ path_key done
  pub numbers : AllPass has_small_numbers done

-- one RDN more is done
pub so_far-more : (rdns left below : Name) (path more : List ℕ) (rdn : List TypeAndValue) → IsSoFar rdns left path → left ≡ below ++ rdn ∷ [] → more ≡ path ++ rdn_path rdn
    → has_small_numbers rdn ≡ true → IsSoFar rdns below more
so_far-more rdns left below path more rdn far last longer small = record {
  done = rdn ∷ far.done;
  cut = far.cut ∙ ap (λ front. front ++ far.done) last ∙ append_assoc below (rdn ∷ []) far.done;
  is = longer ∙ ap (λ text. text ++ rdn_path rdn) far.is;
  numbers = All-cons counts rdn far.done small far.numbers;
}

-- ---- the path of the parent

-- the path of a name of one RDN more
pub in_parts-more : (rdns above : Name) (own : List TypeAndValue) (path more : List ℕ) (long : ℕ) → rdns ≡ own ∷ above → IsPathOf above path → more ≡ path ++ rdn_path own
    → has_small_numbers own ≡ true → long ≡ length path → IsPathInParts rdns more long
in_parts-more rdns above own path more long parts far longer small is =
    rw parts (record {
      path = record { is = longer ∙ ap (λ text. text ++ rdn_path own) far.is; numbers = All-cons counts own above small far.numbers };
      parent = is ∙ ap length far.is;
    })

-- without RDNs nothing is above
pub in_parts-none : (rdns : Name) → length rdns ≡ 0 → IsPathInParts rdns [] 0
in_parts-none [] none = record { path = record { is = refl; numbers = λ k d within. absurd (omega arith) }; parent = refl }
in_parts-none (rdn ∷ above) none = absurd (omega arith)

-- the path of the parent is no longer
pub parent-within : (rdns : Name) → length (path_key (parent_of rdns)) ≤ length (path_key rdns)
parent-within [] = omega arith
parent-within (rdn ∷ above) = omega (arith, length-append (path_key above) (rdn_path rdn))

-- the path of a name begins with that of its parent
pub parent-begins : (rdns : Name) → take (length (path_key (parent_of rdns))) (path_key rdns) ≡ path_key (parent_of rdns)
parent-begins [] = refl
parent-begins (rdn ∷ above) = take_at (path_key above) (rdn_path rdn) (length (path_key above)) refl

-- ---- parts of a name that has a path

-- so have the names above it
pub HasPath-drop : (count : ℕ) (name : Name) → HasPath name → HasPath (drop count name)
HasPath-drop count name has = record {
  sound = record {
    rdns = All-drop passes count name has.sound.rdns;
    few = omega (arith, length-drop count name, has.sound.few);
  };
  numbers = All-drop counts count name has.numbers;
}

HasPath-take : (count : ℕ) (name : Name) → HasPath name → HasPath (take count name)
HasPath-take count name has = record {
  sound = record {
    rdns = All-take passes count name has.sound.rdns;
    few = omega (arith, length-take count name, has.sound.few);
  };
  numbers = All-take counts count name has.numbers;
}

-- ---- names of one length

rdn_path-same : (one other : List TypeAndValue) → piece_set one ≡ piece_set other → rdn_path one ≡ rdn_path other
rdn_path-same one other same = ap (λ set. four_octets (length set) ++ joined set) same

-- names with the same sets of pieces have one path
path_key-from_sets : (one other : Name) → map piece_set one ≡ map piece_set other → path_key one ≡ path_key other
path_key-from_sets [] [] same = refl
path_key-from_sets [] (q ∷ qs) same = absurd (cc)
path_key-from_sets (r ∷ rs) [] same = absurd (cc)
path_key-from_sets (r ∷ rs) (q ∷ qs) same =
    let first : piece_set r ≡ piece_set q = (cc) in
    let rest : map piece_set rs ≡ map piece_set qs = (cc) in
    ap (λ path. path ++ rdn_path r) (path_key-from_sets rs qs rest) ∙ ap (λ key. path_key qs ++ key) (rdn_path-same r q first)

-- the paths of two names of one length that begin one text report the same sets of pieces, and what follows them is equal
aligned : (one other : Name) (rest more : List ℕ) → HasPath one → HasPath other → length one ≡ length other → path_key one ++ rest ≡ path_key other ++ more
    → (map piece_set one ≡ map piece_set other) × (rest ≡ more)
aligned [] [] rest more has_one has_other long same = (refl, same)
aligned [] (q ∷ qs) rest more has_one has_other long same = absurd (omega arith)
aligned (r ∷ rs) [] rest more has_one has_other long same = absurd (omega arith)
aligned (r ∷ rs) (q ∷ qs) rest more has_one has_other long same =
    let regrouped : path_key rs ++ (rdn_path r ++ rest) ≡ path_key qs ++ (rdn_path q ++ more) =
    sym (append_assoc (path_key rs) (rdn_path r) rest) ∙ same ∙ append_assoc (path_key qs) (rdn_path q) more in
    let above = aligned rs qs (rdn_path r ++ rest) (rdn_path q ++ more) (HasPath-drop 1 (r ∷ rs) has_one) (HasPath-drop 1 (q ∷ qs) has_other) (omega arith) regrouped in
    let own = rdn_path-apart r q rest more
    (All-head passes r rs has_one.sound.rdns) (All-head passes q qs has_other.sound.rdns)
    (All-head counts r rs has_one.numbers) (All-head counts q qs has_other.numbers) above.1 in
    let first : piece_set r ≡ piece_set q = own.0 in
    let later : map piece_set rs ≡ map piece_set qs = above.0 in
    ((cc), own.1)

-- ---- where a path ends

-- a path begins with the number of the pairs of the RDN at the root
record IsBegun (name : Name) : Type 0 where
  count : ℕ
  rest : List ℕ
  some : 0 < count
  small : count < 2 ^ 32
  is : path_key name ≡ four_octets count ++ rest

begun : (name : Name) → HasPath name → 0 < length name → IsBegun name
begun [] has some = absurd (omega arith)
begun (rdn ∷ []) has some = record {
  count = length (piece_set rdn);
  rest = joined (piece_set rdn);
  some = some_pieces rdn (All-head passes rdn [] has.sound.rdns);
  small = ltb-true (length (piece_set rdn)) (2 ^ 32) (and_parts (nat_lt (length (piece_set rdn)) (2 ^ 32)) (list_all has_short_key rdn) (All-head counts rdn [] has.numbers)).0;
  is = refl;
}
begun (rdn ∷ next ∷ above) has some =
    let root = begun (next ∷ above) (HasPath-drop 1 (rdn ∷ next ∷ above) has) (omega arith) in
    record {
      count = root.count;
      rest = root.rest ++ rdn_path rdn;
      some = root.some;
      small = root.small;
      is = ap (λ path. path ++ rdn_path rdn) root.is ∙ append_assoc (four_octets root.count) root.rest (rdn_path rdn);
    }

no_more : (name : Name) (tail rest : List ℕ) → HasPath name → 0 < length name → IsStop tail → tail ≡ path_key name ++ rest → ⊥
no_more name tail rest has some stop same =
    let root = begun name has some in
    stops root.count tail (root.rest ++ rest) root.some root.small stop
    (same ∙ ap (λ path. path ++ rest) root.is ∙ append_assoc (four_octets root.count) root.rest rest)

-- a path that stops begins with the path of no longer name
not_longer : (count : ℕ) (one other : Name) (tail rest : List ℕ) → HasPath one → HasPath other → IsStop tail → count + length one ≡ length other → 0 < count
    → path_key one ++ tail ≡ path_key other ++ rest → ⊥
not_longer count one other tail rest has_one has_other stop long some same =
    let begins : path_key one ++ tail ≡ path_key (drop count other) ++ (path_key (take count other) ++ rest) =
    same ∙ ap (λ path. path ++ rest) (path_key-cut count other) ∙ append_assoc (path_key (drop count other)) (path_key (take count other)) rest in
    let parts = aligned one (drop count other) tail (path_key (take count other) ++ rest) has_one (HasPath-drop count other has_other) (omega (arith, length-drop count other)) begins in
    no_more (take count other) tail rest (HasPath-take count other has_other) (omega (arith, length-take count other)) stop parts.1

-- a path that begins with that of a name that is not longer reports the sets of pieces of this in its suffix
suffix_sets : (count : ℕ) (one other : Name) (tail rest : List ℕ) → HasPath one → HasPath other → count + length other ≡ length one → path_key one ++ tail ≡ path_key other ++ rest
    → map piece_set (drop count one) ≡ map piece_set other
suffix_sets count one other tail rest has_one has_other long same =
    let begins : path_key (drop count one) ++ (path_key (take count one) ++ tail) ≡ path_key other ++ rest =
    sym (append_assoc (path_key (drop count one)) (path_key (take count one)) tail) ∙ ap (λ path. path ++ tail) (sym (path_key-cut count one)) ∙ same in
    (aligned (drop count one) other (path_key (take count one) ++ tail) rest (HasPath-drop count one has_one) has_other (omega (arith, length-drop count one)) begins).0

record Begins (one other : Name) : Type 0 where
  long : length other ≤ length one
  sets : map piece_set (suffix_of (length other) one) ≡ map piece_set other

path_begins : (one other : Name) (tail rest : List ℕ) → HasPath one → HasPath other → IsStop tail → path_key one ++ tail ≡ path_key other ++ rest → Begins one other
path_begins one other tail rest has_one has_other stop same =
    elim (cases_lt (length one) (length other)) [
      | inl longer ↦ absurd (not_longer (length other - length one) one other tail rest has_one has_other stop (omega arith) (omega arith) same)
      | inr within ↦ record { long = within; sets = suffix_sets (length one - length other) one other tail rest has_one has_other (omega arith) same }
    ]

-- ---- names at or below others

-- a name whose path begins with another's is at or below that: a path ends another only at the border of an RDN
pub below-from_path : (one other : Name) (tail rest : List ℕ) → HasPath one → HasPath other → IsStop tail → path_key one ++ tail ≡ path_key other ++ rest
    → is_at_or_below one other ≡ true
below-from_path one other tail rest has_one has_other stop same =
    let found = path_begins one other tail rest has_one has_other stop same in
    and_from (nat_le (length other) (length one)) (same_name (suffix_of (length other) one) other) (le-leb (length other) (length one) found.long)
    (same_name-from_pieces (suffix_of (length other) one) other (HasPath-drop (length one - length other) one has_one).sound has_other.sound found.sets)

-- equal names have one path
pub path_key-from_same : (one other : Name) → same_name one other ≡ true → path_key one ≡ path_key other
path_key-from_same one other same = path_key-from_sets one other (pieces-from_same_name one other same)

-- the path of a name that is at or below another begins with that of the other
pub path_key-from_below : (one other : Name) → is_at_or_below one other ≡ true → path_key one ≡ path_key other ++ path_key (take (length one - length other) one)
path_key-from_below one other below =
    let both = and_parts (nat_le (length other) (length one)) (same_name (suffix_of (length other) one) other) below in
    path_key-cut (length one - length other) one
    ∙ ap (λ path. path ++ path_key (take (length one - length other) one)) (path_key-from_same (suffix_of (length other) one) other both.1)

-- names whose paths stop in one text are equal, and so is what follows the paths
pub same-from_path : (one other : Name) (tail rest : List ℕ) → HasPath one → HasPath other → IsStop tail → IsStop rest → path_key one ++ tail ≡ path_key other ++ rest
    → (same_name one other ≡ true) × (tail ≡ rest)
same-from_path one other tail rest has_one has_other stop_one stop_other same =
    let there = path_begins one other tail rest has_one has_other stop_one same in
    let back = path_begins other one rest tail has_other has_one stop_other (sym same) in
    let parts = aligned one other tail rest has_one has_other (omega (arith, there.long, back.long)) same in
    (same_name-from_pieces one other has_one.sound has_other.sound parts.0, parts.1)

-- ---- as tests

-- a path begins with another exactly where its name is at or below the other's
pub starts_is_below : (one other : Name) → HasPath one → HasPath other → starts_with nat_eq (path_key one) (path_key other) ≡ is_at_or_below one other
starts_is_below one other has_one has_other =
    let starts = starts_is Decides-eqb (path_key one) (path_key other) (starts_with nat_eq (path_key one) (path_key other)) refl in
    both_or_none (starts_with nat_eq (path_key one) (path_key other)) (is_at_or_below one other)
    (λ begins. below-from_path one other [] (drop (length (path_key other)) (path_key one)) has_one has_other (inl refl) (append-nil (path_key one) ∙ starts.0 begins))
    (λ below. starts.1 (path_key (take (length one - length other) one)) (path_key-from_below one other below))

-- two paths are the same exactly where the names are equal
pub equal_is_same : (one other : Name) → HasPath one → HasPath other → bytes_eq (path_key one) (path_key other) ≡ same_name one other
equal_is_same one other has_one has_other =
    both_or_none (bytes_eq (path_key one) (path_key other)) (same_name one other)
    (λ equal. (same-from_path one other [] [] has_one has_other (inl refl) (inl refl) (ap (λ path. path ++ []) ((bytes_eq-Decides (path_key one) (path_key other)).0 equal))).0)
    (λ same. (bytes_eq-Decides (path_key one) (path_key other)).1 (path_key-from_same one other same))

-- the path of the superior is another's exactly where the name is a child of the other
pub parent_is : (one other : Name) → HasPath one → HasPath other → 0 < length one → bytes_eq (path_key (parent_of one)) (path_key other) ≡ is_child_of one other
parent_is [] other has_one has_other some = absurd (omega arith)
parent_is (rdn ∷ above) other has_one has_other some = equal_is_same above other (HasPath-drop 1 (rdn ∷ above) has_one) has_other

-- ---- children

suffix_parent : (rdn : List TypeAndValue) (above other : Name) → length above ≡ length other → suffix_of (length other) (rdn ∷ above) ≡ above
suffix_parent rdn above other long =
    let one : length (rdn ∷ above) - length other ≡ 1 = omega arith in
    ap (λ count. drop count (rdn ∷ above)) one

child_there : (rdn : List TypeAndValue) (above other : Name) → same_name above other ≡ true
    → (nat_eq (length (rdn ∷ above)) (length other + 1) && is_at_or_below (rdn ∷ above) other) ≡ true
child_there rdn above other same =
    let both = and_parts (nat_eq (length above) (length other)) _ same in
    let long : length above ≡ length other = eqb-true (length above) (length other) both.0 in
    and_from (nat_eq (length (rdn ∷ above)) (length other + 1)) (is_at_or_below (rdn ∷ above) other)
    (eq-eqb (length (rdn ∷ above)) (length other + 1) (omega arith))
    (and_from (nat_le (length other) (length (rdn ∷ above))) (same_name (suffix_of (length other) (rdn ∷ above)) other) (le-leb (length other) (length (rdn ∷ above)) (omega arith))
    (ap (λ name. same_name name other) (suffix_parent rdn above other long) ∙ same))

child_back : (rdn : List TypeAndValue) (above other : Name) → (nat_eq (length (rdn ∷ above)) (length other + 1) && is_at_or_below (rdn ∷ above) other) ≡ true
    → same_name above other ≡ true
child_back rdn above other test =
    let both = and_parts (nat_eq (length (rdn ∷ above)) (length other + 1)) (is_at_or_below (rdn ∷ above) other) test in
    let one_more : length (rdn ∷ above) ≡ length other + 1 = eqb-true (length (rdn ∷ above)) (length other + 1) both.0 in
    let below = and_parts (nat_le (length other) (length (rdn ∷ above))) (same_name (suffix_of (length other) (rdn ∷ above)) other) both.1 in
    ap (λ name. same_name name other) (sym (suffix_parent rdn above other (omega arith))) ∙ below.1

-- a child is a name below that has one RDN more
pub child_is : (one other : Name) → is_child_of one other ≡ (nat_eq (length one) (length other + 1) && is_at_or_below one other)
child_is [] other =
    both_or_none false (nat_eq 0 (length other + 1) && is_at_or_below [] other) (λ never. absurd (cc))
    (λ test. absurd (let both = and_parts (nat_eq 0 (length other + 1)) (is_at_or_below [] other) test in
    let long : 0 ≡ length other + 1 = eqb-true 0 (length other + 1) both.0 in omega arith))
child_is (rdn ∷ above) other =
    both_or_none (same_name above other) (nat_eq (length (rdn ∷ above)) (length other + 1) && is_at_or_below (rdn ∷ above) other)
    (child_there rdn above other) (child_back rdn above other)
