use Rattle.std.proofs.Common.{◌≡◌, ◌++◌, map, drop}
use Rattle.ldap_filter.specs.FilterTree.{tree_of, trees}
use Rattle.ldap_filter.specs.Writing.{texts_of, have_texts, are_sound}
use Rattle.ldap_filter.proofs.filter.+writing.Given as goal

-- the texts of the parts that are left are still to come
abbrev pub invariant-FilterList::put_each-loop-part : goal.invariant-FilterList::put_each-loop-part
invariant-FilterList::put_each-loop-part l = record {
  text : l.text.items ++ texts_of (trees (map tree_of (drop l.part-index l.part-items)))
      ≡ l.initial.text.items ++ texts_of (trees (map tree_of l.part-items));
  known : have_texts (trees (map tree_of (drop l.part-index l.part-items))) ≡ have_texts (trees (map tree_of l.part-items));
  sound : are_sound (trees (map tree_of (drop l.part-index l.part-items))) ≡ are_sound (trees (map tree_of l.part-items));
}
