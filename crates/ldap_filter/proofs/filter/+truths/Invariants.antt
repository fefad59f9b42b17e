use Rattle.std.proofs.Common.{◌≡◌, false, drop}
use Rattle.ldap_filter.specs.Truth.{is_false, is_true}
use Rattle.ldap_filter.proofs.Truths.{both, either, all_on, any_on}
use Rattle.ldap_filter.proofs.filter.+truths.Given as goal

-- no part so far is False, and those that are left decide
abbrev pub invariant-FilterList::conjunction_on-loop-part : goal.invariant-FilterList::conjunction_on-loop-part
invariant-FilterList::conjunction_on-loop-part l = record {
  going : is_false l.all ≡ false;
  rest : both l.all (all_on l.attrs (drop l.part-index l.part-items)) ≡ all_on l.attrs l.part-items;
}

-- no part so far is True, and those that are left decide
abbrev pub invariant-FilterList::disjunction_on-loop-part : goal.invariant-FilterList::disjunction_on-loop-part
invariant-FilterList::disjunction_on-loop-part l = record {
  going : is_true l.any ≡ false;
  rest : either l.any (any_on l.attrs (drop l.part-index l.part-items)) ≡ any_on l.attrs l.part-items;
}
