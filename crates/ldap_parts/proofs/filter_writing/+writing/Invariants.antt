use Rattle.std.proofs.Common.{◌≡◌, map, drop}
use Rattle.ldap_ber.specs.Writer.{after_bytes}
use Rattle.ldap_filter.specs.FilterTree.{tree_of, trees}
use Rattle.ldap_parts.specs.Filters.{filters_octets, all_have_piece}
use Rattle.ldap_parts.proofs.filter_writing.+writing.Given as goal

-- with the filters that are still to come, all of them are written, and each has what it has to have
abbrev pub invariant-put_each-loop-filter : goal.invariant-put_each-loop-filter
invariant-put_each-loop-filter l = record {
  octets : after_bytes l.writer (filters_octets (trees (map tree_of (drop l.filter-index l.filters)))) ≡ after_bytes l.initial.writer (filters_octets (trees (map tree_of l.filters)));
  pieces : all_have_piece (trees (map tree_of (drop l.filter-index l.filters))) ≡ all_have_piece (trees (map tree_of l.filters));
}
