-- What passes a test still does in what is left of a list.
use Rattle.std.proofs.Common.{◌≡◌, Bool, true, List}
use Rattle.std.specs.List.{filter, list_all}
use Rattle.std.proofs.lemmas.List.Elements.{All-filter}
use Rattle.std.proofs.lemmas.List.Sums.{AllPass-from_list_all, list_all-from_AllPass}

-- what holds of all items holds of some of them
pub list_all-filter : {X : Type 0} (test p : X → Bool) (xs : List X) → list_all test xs ≡ true → list_all test (filter p xs) ≡ true
list_all-filter test p xs all =
    list_all-from_AllPass test (filter p xs) (All-filter p (λ x. test x ≡ true) xs (AllPass-from_list_all test xs all))
