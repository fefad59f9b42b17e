-- Whether two filters are the same: their structure, the names of types without regard to the case
-- of ASCII letters (RFC 4512, section 2.5), and the bytes of values.
use Rattle.std.specs.Prelude.{ℕ, Bool, true, false, ◌&&◌, List, Option, bytes_eq}
use Rattle.std.specs.Option.{option_eq}
use Rattle.std.specs.Str.{str_eq_ignore_ascii_case}
use Rattle.ldap_ber.specs.Octets.{lists_eq}
use Rattle.ldap_filter.specs.FilterTree.{FilterTree, Trees, all_of, any_of, negated, equal, substrings, at_least, at_most, present, approx, extensible, no_trees, more_trees}

abbrev pub same_name : List ℕ → List ℕ → Bool
same_name one two = str_eq_ignore_ascii_case one two

-- the same type with the same value
abbrev pub same_item : List ℕ → List ℕ → List ℕ → List ℕ → Bool
same_item name value name' value' = same_name name name' && bytes_eq value value'

abbrev pub same_pieces :
    Option (List ℕ) → List (List ℕ) → Option (List ℕ) → Option (List ℕ) → List (List ℕ)
    → Option (List ℕ) → Bool
same_pieces i ms l j ks e = option_eq bytes_eq i j && (lists_eq ms ks && option_eq bytes_eq l e)

abbrev mutual
  pub same_tree : FilterTree → FilterTree → Bool
  same_tree (all_of ts) (all_of us) = same_trees ts us
  same_tree (any_of ts) (any_of us) = same_trees ts us
  same_tree (negated t) (negated u) = same_tree t u
  same_tree (equal n v) (equal m w) = same_item n v m w
  same_tree (substrings n i ms l) (substrings m j ks e) = same_name n m && same_pieces i ms l j ks e
  same_tree (at_least n v) (at_least m w) = same_item n v m w
  same_tree (at_most n v) (at_most m w) = same_item n v m w
  same_tree (present n) (present m) = same_name n m
  same_tree (approx n v) (approx m w) = same_item n v m w
  same_tree (extensible v) (extensible w) = bytes_eq v w
  same_tree _ _ = false

  pub same_trees : Trees → Trees → Bool
  same_trees no_trees no_trees = true
  same_trees (more_trees t ts) (more_trees u us) = same_tree t u && same_trees ts us
  same_trees no_trees (more_trees u us) = false
  same_trees (more_trees t ts) no_trees = false
