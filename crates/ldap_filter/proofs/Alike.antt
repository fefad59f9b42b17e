-- Filters that match have one truth on any attributes.
use Rattle.std.proofs.Common.{◌≡◌, ℕ, true, false, ◌&&◌, Option, Some, None, List, ◌∷◌, refl, ap, ◌∙◌}
use Rattle.std.specs.Option.{option_and_then, option_eq}
use Rattle.std.specs.Str.{bytes_eq, str_eq_ignore_ascii_case}
use Rattle.std.proofs.lemmas.Bool.{and_parts}
use Rattle.std.proofs.lemmas.Slice.Eq.{bytes_eq-Decides, slice_eq-Decides}
use Rattle.ldap_ber.specs.Octets.{lists_eq}
use Rattle.schema_rules.specs.declared.attributes.Attribute.{Attribute}
use Rattle.schema_rules.proofs.Tables.{type_named-alike}
use Rattle.ldap_filter.specs.Matching.{asked_key, asked_type, at_least_test, at_most_test, substrings_test, typed_key}
use Rattle.ldap_filter.specs.Same.{same_item, same_pieces, same_tree, same_trees}
use Rattle.ldap_filter.specs.FilterTree.{FilterTree, Trees, all_of, any_of, negated, equal, substrings, at_least, at_most, present, approx, extensible, no_trees, more_trees}
use Rattle.ldap_filter.specs.Truth.{conjunction, disjunction, equality, opposite, item_truth, presence, truth_on, truths_on}

-- ---- filters

asked_as : (one other : List ℕ) → str_eq_ignore_ascii_case one other ≡ true → asked_type one ≡ asked_type other
asked_as one other same = rw (type_named-alike one other same) refl

maybe_as : (one other : Option (List ℕ)) → option_eq bytes_eq one other ≡ true → one ≡ other
maybe_as None None same = refl
maybe_as None (Some b) same = let never : false ≡ true = same in cc
maybe_as (Some a) None same = let never : false ≡ true = same in cc
maybe_as (Some a) (Some b) same = ap Some ((bytes_eq-Decides a b).0 same)

lists_as : (one other : List (List ℕ)) → lists_eq one other ≡ true → one ≡ other
lists_as one other same = (slice_eq-Decides bytes_eq-Decides one other (lists_eq one other) refl).0 same

record AreItems (n v m w : List ℕ) : Type 0 where
  type : asked_type n ≡ asked_type m
  value : v ≡ w

items_as : (n v m w : List ℕ) → same_item n v m w ≡ true → AreItems n v m w
items_as n v m w same =
    let both = and_parts (str_eq_ignore_ascii_case n m) (bytes_eq v w) same in
    record { type = asked_as n m both.0; value = (bytes_eq-Decides v w).0 both.1 }

asks_as : (n v m w : List ℕ) → same_item n v m w ≡ true → asked_key n v ≡ asked_key m w
asks_as n v m w same =
    let is = items_as n v m w same in
    ap (λ (kind : Option ℕ). option_and_then (typed_key v) kind) is.type ∙ ap (λ (x : List ℕ). asked_key m x) is.value

mutual
  -- one of two filters that match has the truth of the other on any attributes
  pub truth_as : (attributes : List Attribute) (t u : FilterTree) → same_tree t u ≡ true → truth_on attributes t ≡ truth_on attributes u
  truth_as attributes (all_of ts) (all_of us) same = ap conjunction (truths_as attributes ts us same)
  truth_as attributes (all_of ts) (any_of us) same = let never : false ≡ true = same in cc
  truth_as attributes (all_of ts) (negated u) same = let never : false ≡ true = same in cc
  truth_as attributes (all_of ts) (equal m w) same = let never : false ≡ true = same in cc
  truth_as attributes (all_of ts) (substrings m j ks e) same = let never : false ≡ true = same in cc
  truth_as attributes (all_of ts) (at_least m w) same = let never : false ≡ true = same in cc
  truth_as attributes (all_of ts) (at_most m w) same = let never : false ≡ true = same in cc
  truth_as attributes (all_of ts) (present m) same = let never : false ≡ true = same in cc
  truth_as attributes (all_of ts) (approx m w) same = let never : false ≡ true = same in cc
  truth_as attributes (all_of ts) (extensible w) same = let never : false ≡ true = same in cc
  truth_as attributes (any_of ts) (all_of us) same = let never : false ≡ true = same in cc
  truth_as attributes (any_of ts) (any_of us) same = ap disjunction (truths_as attributes ts us same)
  truth_as attributes (any_of ts) (negated u) same = let never : false ≡ true = same in cc
  truth_as attributes (any_of ts) (equal m w) same = let never : false ≡ true = same in cc
  truth_as attributes (any_of ts) (substrings m j ks e) same = let never : false ≡ true = same in cc
  truth_as attributes (any_of ts) (at_least m w) same = let never : false ≡ true = same in cc
  truth_as attributes (any_of ts) (at_most m w) same = let never : false ≡ true = same in cc
  truth_as attributes (any_of ts) (present m) same = let never : false ≡ true = same in cc
  truth_as attributes (any_of ts) (approx m w) same = let never : false ≡ true = same in cc
  truth_as attributes (any_of ts) (extensible w) same = let never : false ≡ true = same in cc
  truth_as attributes (negated t) (all_of us) same = let never : false ≡ true = same in cc
  truth_as attributes (negated t) (any_of us) same = let never : false ≡ true = same in cc
  truth_as attributes (negated t) (negated u) same = ap opposite (truth_as attributes t u same)
  truth_as attributes (negated t) (equal m w) same = let never : false ≡ true = same in cc
  truth_as attributes (negated t) (substrings m j ks e) same = let never : false ≡ true = same in cc
  truth_as attributes (negated t) (at_least m w) same = let never : false ≡ true = same in cc
  truth_as attributes (negated t) (at_most m w) same = let never : false ≡ true = same in cc
  truth_as attributes (negated t) (present m) same = let never : false ≡ true = same in cc
  truth_as attributes (negated t) (approx m w) same = let never : false ≡ true = same in cc
  truth_as attributes (negated t) (extensible w) same = let never : false ≡ true = same in cc
  truth_as attributes (equal n v) (all_of us) same = let never : false ≡ true = same in cc
  truth_as attributes (equal n v) (any_of us) same = let never : false ≡ true = same in cc
  truth_as attributes (equal n v) (negated u) same = let never : false ≡ true = same in cc
  truth_as attributes (equal n v) (equal m w) same = ap (equality attributes) (asks_as n v m w same)
  truth_as attributes (equal n v) (substrings m j ks e) same = let never : false ≡ true = same in cc
  truth_as attributes (equal n v) (at_least m w) same = let never : false ≡ true = same in cc
  truth_as attributes (equal n v) (at_most m w) same = let never : false ≡ true = same in cc
  truth_as attributes (equal n v) (present m) same = let never : false ≡ true = same in cc
  truth_as attributes (equal n v) (approx m w) same = let never : false ≡ true = same in cc
  truth_as attributes (equal n v) (extensible w) same = let never : false ≡ true = same in cc
  truth_as attributes (substrings n i ms l) (all_of us) same = let never : false ≡ true = same in cc
  truth_as attributes (substrings n i ms l) (any_of us) same = let never : false ≡ true = same in cc
  truth_as attributes (substrings n i ms l) (negated u) same = let never : false ≡ true = same in cc
  truth_as attributes (substrings n i ms l) (equal m w) same = let never : false ≡ true = same in cc
  truth_as attributes (substrings n i ms l) (substrings m j ks e) same =
      let p = and_parts (str_eq_ignore_ascii_case n m) (same_pieces i ms l j ks e) same in
      let q = and_parts (option_eq bytes_eq i j) (lists_eq ms ks && option_eq bytes_eq l e) p.1 in
      let r = and_parts (lists_eq ms ks) (option_eq bytes_eq l e) q.1 in
      ap (λ k. item_truth attributes k (λ kind. substrings_test kind i ms l)) (asked_as n m p.0)
      ∙ ap (λ x. item_truth attributes (asked_type m) (λ kind. substrings_test kind x ms l)) (maybe_as i j q.0)
      ∙ ap (λ x. item_truth attributes (asked_type m) (λ kind. substrings_test kind j x l)) (lists_as ms ks r.0)
      ∙ ap (λ x. item_truth attributes (asked_type m) (λ kind. substrings_test kind j ks x)) (maybe_as l e r.1)
  truth_as attributes (substrings n i ms l) (at_least m w) same = let never : false ≡ true = same in cc
  truth_as attributes (substrings n i ms l) (at_most m w) same = let never : false ≡ true = same in cc
  truth_as attributes (substrings n i ms l) (present m) same = let never : false ≡ true = same in cc
  truth_as attributes (substrings n i ms l) (approx m w) same = let never : false ≡ true = same in cc
  truth_as attributes (substrings n i ms l) (extensible w) same = let never : false ≡ true = same in cc
  truth_as attributes (at_least n v) (all_of us) same = let never : false ≡ true = same in cc
  truth_as attributes (at_least n v) (any_of us) same = let never : false ≡ true = same in cc
  truth_as attributes (at_least n v) (negated u) same = let never : false ≡ true = same in cc
  truth_as attributes (at_least n v) (equal m w) same = let never : false ≡ true = same in cc
  truth_as attributes (at_least n v) (substrings m j ks e) same = let never : false ≡ true = same in cc
  truth_as attributes (at_least n v) (at_least m w) same =
      let is = items_as n v m w same in
      ap (λ k. item_truth attributes k (λ kind. at_least_test kind v)) is.type ∙ ap (λ x. item_truth attributes (asked_type m) (λ kind. at_least_test kind x)) is.value
  truth_as attributes (at_least n v) (at_most m w) same = let never : false ≡ true = same in cc
  truth_as attributes (at_least n v) (present m) same = let never : false ≡ true = same in cc
  truth_as attributes (at_least n v) (approx m w) same = let never : false ≡ true = same in cc
  truth_as attributes (at_least n v) (extensible w) same = let never : false ≡ true = same in cc
  truth_as attributes (at_most n v) (all_of us) same = let never : false ≡ true = same in cc
  truth_as attributes (at_most n v) (any_of us) same = let never : false ≡ true = same in cc
  truth_as attributes (at_most n v) (negated u) same = let never : false ≡ true = same in cc
  truth_as attributes (at_most n v) (equal m w) same = let never : false ≡ true = same in cc
  truth_as attributes (at_most n v) (substrings m j ks e) same = let never : false ≡ true = same in cc
  truth_as attributes (at_most n v) (at_least m w) same = let never : false ≡ true = same in cc
  truth_as attributes (at_most n v) (at_most m w) same =
      let is = items_as n v m w same in
      ap (λ k. item_truth attributes k (λ kind. at_most_test kind v)) is.type ∙ ap (λ x. item_truth attributes (asked_type m) (λ kind. at_most_test kind x)) is.value
  truth_as attributes (at_most n v) (present m) same = let never : false ≡ true = same in cc
  truth_as attributes (at_most n v) (approx m w) same = let never : false ≡ true = same in cc
  truth_as attributes (at_most n v) (extensible w) same = let never : false ≡ true = same in cc
  truth_as attributes (present n) (all_of us) same = let never : false ≡ true = same in cc
  truth_as attributes (present n) (any_of us) same = let never : false ≡ true = same in cc
  truth_as attributes (present n) (negated u) same = let never : false ≡ true = same in cc
  truth_as attributes (present n) (equal m w) same = let never : false ≡ true = same in cc
  truth_as attributes (present n) (substrings m j ks e) same = let never : false ≡ true = same in cc
  truth_as attributes (present n) (at_least m w) same = let never : false ≡ true = same in cc
  truth_as attributes (present n) (at_most m w) same = let never : false ≡ true = same in cc
  truth_as attributes (present n) (present m) same = ap (presence attributes) (asked_as n m same)
  truth_as attributes (present n) (approx m w) same = let never : false ≡ true = same in cc
  truth_as attributes (present n) (extensible w) same = let never : false ≡ true = same in cc
  truth_as attributes (approx n v) (all_of us) same = let never : false ≡ true = same in cc
  truth_as attributes (approx n v) (any_of us) same = let never : false ≡ true = same in cc
  truth_as attributes (approx n v) (negated u) same = let never : false ≡ true = same in cc
  truth_as attributes (approx n v) (equal m w) same = let never : false ≡ true = same in cc
  truth_as attributes (approx n v) (substrings m j ks e) same = let never : false ≡ true = same in cc
  truth_as attributes (approx n v) (at_least m w) same = let never : false ≡ true = same in cc
  truth_as attributes (approx n v) (at_most m w) same = let never : false ≡ true = same in cc
  truth_as attributes (approx n v) (present m) same = let never : false ≡ true = same in cc
  truth_as attributes (approx n v) (approx m w) same = ap (equality attributes) (asks_as n v m w same)
  truth_as attributes (approx n v) (extensible w) same = let never : false ≡ true = same in cc
  truth_as attributes (extensible v) (all_of us) same = let never : false ≡ true = same in cc
  truth_as attributes (extensible v) (any_of us) same = let never : false ≡ true = same in cc
  truth_as attributes (extensible v) (negated u) same = let never : false ≡ true = same in cc
  truth_as attributes (extensible v) (equal m w) same = let never : false ≡ true = same in cc
  truth_as attributes (extensible v) (substrings m j ks e) same = let never : false ≡ true = same in cc
  truth_as attributes (extensible v) (at_least m w) same = let never : false ≡ true = same in cc
  truth_as attributes (extensible v) (at_most m w) same = let never : false ≡ true = same in cc
  truth_as attributes (extensible v) (present m) same = let never : false ≡ true = same in cc
  truth_as attributes (extensible v) (approx m w) same = let never : false ≡ true = same in cc
  truth_as attributes (extensible v) (extensible w) same = refl

  truths_as : (attributes : List Attribute) (ts us : Trees) → same_trees ts us ≡ true → truths_on attributes ts ≡ truths_on attributes us
  truths_as attributes no_trees no_trees same = refl
  truths_as attributes no_trees (more_trees u us) same = let never : false ≡ true = same in cc
  truths_as attributes (more_trees t ts) no_trees same = let never : false ≡ true = same in cc
  truths_as attributes (more_trees t ts) (more_trees u us) same =
      let both = and_parts (same_tree t u) (same_trees ts us) same in
      ap (λ x. x ∷ truths_on attributes ts) (truth_as attributes t u both.0) ∙ ap (λ xs. truth_on attributes u ∷ xs) (truths_as attributes ts us both.1)
