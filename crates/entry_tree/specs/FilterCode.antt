-- A code of filters as trees, by which a proof reports values that hold them apart: instructions
-- in the order in which a machine with two stacks, of filters and of lists of filters,
-- builds the tree from them.
use Rattle.std.specs.Prelude.{◌≡◌, ℕ, Option, None, List, [], ◌∷◌, ◌++◌, fold, refl, ◌==◌, if◌then◌else◌}
use Rattle.std.specs.Coded.{Coded, code_by, coded×, coded_ℕ, coded_list, coded_option}
use Rattle.std.proofs.Common.{ap, ◌∙◌}
use Rattle.std.proofs.lemmas.List.Sums.{fold-append}
use Rattle.ldap_filter.specs.FilterTree.{FilterTree, Trees, all_of, any_of, negated, equal, substrings, at_least, at_most, present, approx, extensible, no_trees, more_trees}

abbrev bytes_code : Coded (List ℕ)
bytes_code = coded_list coded_ℕ

-- what a instruction does, and the texts that it holds
abbrev Instruction : Type 0
Instruction = ℕ × (List ℕ × (List ℕ × (Option (List ℕ) × (List (List ℕ) × Option (List ℕ)))))

abbrev instruction : ℕ → List ℕ → List ℕ → Instruction
instruction what name value = (what, (name, (value, (None, ([], None)))))

abbrev Stacks : Type 0
Stacks = List FilterTree × List Trees

abbrev mutual
  instructions_of : FilterTree → List Instruction
  instructions_of (all_of ts) = instructions_of_list ts ++ instruction 0 [] [] ∷ []
  instructions_of (any_of ts) = instructions_of_list ts ++ instruction 1 [] [] ∷ []
  instructions_of (negated t) = instructions_of t ++ instruction 2 [] [] ∷ []
  instructions_of (equal name value) = instruction 3 name value ∷ []
  instructions_of (substrings name initial middle last) =
      (4, (name, ([], (initial, (middle, last))))) ∷ []
  instructions_of (at_least name value) = instruction 5 name value ∷ []
  instructions_of (at_most name value) = instruction 6 name value ∷ []
  instructions_of (present name) = instruction 7 name [] ∷ []
  instructions_of (approx name value) = instruction 8 name value ∷ []
  instructions_of (extensible body) = instruction 9 body [] ∷ []

  instructions_of_list : Trees → List Instruction
  instructions_of_list no_trees = instruction 10 [] [] ∷ []
  instructions_of_list (more_trees t ts) =
      instructions_of t ++ (instructions_of_list ts ++ instruction 11 [] [] ∷ [])

-- a filter or a list of filters on top of its stack
abbrev on_trees : FilterTree → Stacks → Stacks
on_trees t stacks = (t ∷ stacks.0, stacks.1)

abbrev on_lists : Trees → Stacks → Stacks
on_lists ts stacks = (stacks.0, ts ∷ stacks.1)

-- what is built of the list on top
abbrev of_list : (Trees → FilterTree) → Stacks → Stacks
of_list built (trees, []) = (trees, [])
of_list built (trees, ts ∷ lists) = (built ts ∷ trees, lists)

-- what is built of the filter on top
abbrev of_tree : (FilterTree → FilterTree) → Stacks → Stacks
of_tree built ([], lists) = ([], lists)
of_tree built (t ∷ trees, lists) = (built t ∷ trees, lists)

-- the filter on top before the list on top
abbrev of_both : Stacks → Stacks
of_both ([], lists) = ([], lists)
of_both (t ∷ trees, []) = (t ∷ trees, [])
of_both (t ∷ trees, ts ∷ lists) = (trees, more_trees t ts ∷ lists)

abbrev act :
    ℕ → List ℕ → List ℕ → Option (List ℕ) → List (List ℕ) → Option (List ℕ) → Stacks → Stacks
act what name value initial middle last stacks =
    if what == 0 then of_list all_of stacks
    else if what == 1 then of_list any_of stacks
    else if what == 2 then of_tree negated stacks
    else if what == 3 then on_trees (equal name value) stacks
    else if what == 4 then on_trees (substrings name initial middle last) stacks
    else if what == 5 then on_trees (at_least name value) stacks
    else if what == 6 then on_trees (at_most name value) stacks
    else if what == 7 then on_trees (present name) stacks
    else if what == 8 then on_trees (approx name value) stacks
    else if what == 9 then on_trees (extensible name) stacks
    else if what == 10 then on_lists no_trees stacks
    else of_both stacks

abbrev act_by : Stacks → Instruction → Stacks
act_by stacks s = act s.0 s.1.0 s.1.1.0 s.1.1.1.0 s.1.1.1.1.0 s.1.1.1.1.1 stacks

abbrev built_by : Stacks → List Instruction → Stacks
built_by stacks instructions = fold act_by stacks instructions

abbrev top : List FilterTree → FilterTree
top [] = present []
top (t ∷ trees) = t

abbrev tree_by : List Instruction → FilterTree
tree_by instructions = top (built_by ([], []) instructions).0

mutual
  built_again :
      (t : FilterTree) (stacks : Stacks) → built_by stacks (instructions_of t) ≡ on_trees t stacks
  built_again (all_of ts) stacks =
      fold-append act_by stacks (instructions_of_list ts) _
      ∙ ap (λ s. built_by s (instruction 0 [] [] ∷ [])) (list_built_again ts stacks)
  built_again (any_of ts) stacks =
      fold-append act_by stacks (instructions_of_list ts) _
      ∙ ap (λ s. built_by s (instruction 1 [] [] ∷ [])) (list_built_again ts stacks)
  built_again (negated t) stacks =
      fold-append act_by stacks (instructions_of t) _
      ∙ ap (λ s. built_by s (instruction 2 [] [] ∷ [])) (built_again t stacks)
  built_again (equal name value) stacks = refl
  built_again (substrings name initial middle last) stacks = refl
  built_again (at_least name value) stacks = refl
  built_again (at_most name value) stacks = refl
  built_again (present name) stacks = refl
  built_again (approx name value) stacks = refl
  built_again (extensible body) stacks = refl

  list_built_again :
      (ts : Trees) (stacks : Stacks)
      → built_by stacks (instructions_of_list ts) ≡ on_lists ts stacks
  list_built_again no_trees stacks = refl
  list_built_again (more_trees t ts) stacks =
      fold-append act_by stacks (instructions_of t) _
      ∙ ap (λ s. built_by s (instructions_of_list ts ++ instruction 11 [] [] ∷ []))
      (built_again t stacks)
      ∙ fold-append act_by (on_trees t stacks) (instructions_of_list ts) _
      ∙ ap (λ s. built_by s (instruction 11 [] [] ∷ [])) (list_built_again ts (on_trees t stacks))

pub same_tree_again : (t : FilterTree) → tree_by (instructions_of t) ≡ t
same_tree_again t = ap (λ (s : Stacks). top s.0) (built_again t ([], []))

abbrev pub tree_code : Coded FilterTree
tree_code =
    code_by (List Instruction)
    (coded_list (coded× coded_ℕ
    (coded× bytes_code
    (coded× bytes_code
    (coded× (coded_option bytes_code)
    (coded× (coded_list bytes_code) (coded_option bytes_code)))))))
    instructions_of tree_by same_tree_again
