-- The truth of a filter on a list of attributes (RFC 4511, section 4.5.1.7).
use Rattle.std.specs.Prelude.{ℕ, Bool, true, false, ◌&&◌, ◌==◌, if◌then◌else◌, List, [], ◌∷◌, Option, Some, None}
use Rattle.std.specs.List.{list_any}
use Rattle.schema_rules.specs.declared.attributes.Attribute.{Attribute}
use Rattle.schema_rules.specs.Attributes.{has_kind}
use Rattle.schema_rules.specs.Keys.{has_key}
use Rattle.ldap_filter.specs.declared.truth.Truth.{Truth}
use Rattle.ldap_filter.specs.declared.truth.Truth.TheVariants.{True, False, Undefined}
use Rattle.ldap_filter.specs.declared.matching.AskedKey.{AskedKey}
use Rattle.ldap_filter.specs.declared.matching.Test.{Test}
use Rattle.ldap_filter.specs.Matching.{asked_key, asked_type, at_least_test, at_most_test, substrings_test, matches}
use Rattle.ldap_filter.specs.FilterTree.{FilterTree, Trees, all_of, any_of, negated, equal, substrings, at_least, at_most, present, approx, extensible, no_trees, more_trees}

abbrev pub is_false : Truth → Bool
is_false True = false
is_false False = true
is_false Undefined = false

abbrev pub is_undefined : Truth → Bool
is_undefined True = false
is_undefined False = false
is_undefined Undefined = true

abbrev pub is_true : Truth → Bool
is_true True = true
is_true False = false
is_true Undefined = false

-- section 4.5.1.7: one False part makes an `and` False; without such, one Undefined part makes it
-- Undefined; without both it is True
abbrev pub conjunction : List Truth → Truth
conjunction parts =
    if list_any is_false parts then False
    else if list_any is_undefined parts then Undefined else True

-- one True part makes an `or` True; without such, one Undefined part makes it Undefined; without
-- both it is False
abbrev pub disjunction : List Truth → Truth
disjunction parts =
    if list_any is_true parts then True
    else if list_any is_undefined parts then Undefined else False

-- a `not` exchanges True and False
abbrev pub opposite : Truth → Truth
opposite True = False
opposite False = True
opposite Undefined = Undefined

abbrev pub decided : Bool → Truth
decided true = True
decided false = False

-- some value of the type has the key
abbrev pub has_keyed : List Attribute → ℕ → List ℕ → Bool
has_keyed attributes kind key =
    list_any (λ a. (a.kind == kind) && list_any (has_key kind key) a.values) attributes

-- an equality looks for the key that it asks for; where it asks for none, it is Undefined
abbrev pub equality : List Attribute → Option AskedKey → Truth
equality attributes None = Undefined
equality attributes (Some asked) = decided (has_keyed attributes asked.kind asked.key)

-- some value of the type passes the test
abbrev pub has_match : List Attribute → ℕ → Test → Bool
has_match attributes kind test =
    list_any (λ a. (a.kind == kind) && list_any (matches kind test) a.values) attributes

-- with no test an item is Undefined
abbrev pub tried : List Attribute → ℕ → Option Test → Truth
tried attributes kind None = Undefined
tried attributes kind (Some test) = decided (has_match attributes kind test)

-- an item tests the values of its type; where that is no type that clients give, it is Undefined
abbrev pub item_truth : List Attribute → Option ℕ → (ℕ → Option Test) → Truth
item_truth attributes None test_of = Undefined
item_truth attributes (Some kind) test_of = tried attributes kind (test_of kind)

abbrev pub presence : List Attribute → Option ℕ → Truth
presence attributes None = Undefined
presence attributes (Some kind) = decided (has_kind attributes kind)

abbrev mutual
  pub truth_on : List Attribute → FilterTree → Truth
  truth_on attributes (all_of ts) = conjunction (truths_on attributes ts)
  truth_on attributes (any_of ts) = disjunction (truths_on attributes ts)
  truth_on attributes (negated t) = opposite (truth_on attributes t)
  truth_on attributes (equal name value) = equality attributes (asked_key name value)
  truth_on attributes (substrings name initial middle last) =
      item_truth attributes (asked_type name) (λ kind. substrings_test kind initial middle last)
  truth_on attributes (at_least name value) =
      item_truth attributes (asked_type name) (λ kind. at_least_test kind value)
  truth_on attributes (at_most name value) =
      item_truth attributes (asked_type name) (λ kind. at_most_test kind value)
  truth_on attributes (present name) = presence attributes (asked_type name)
  truth_on attributes (approx name value) = equality attributes (asked_key name value)
  truth_on attributes (extensible body) = Undefined

  pub truths_on : List Attribute → Trees → List Truth
  truths_on attributes no_trees = []
  truths_on attributes (more_trees t ts) = truth_on attributes t ∷ truths_on attributes ts
