use Rattle.std.proofs.Common.{◌≡◌, ◌+◌, ◌*◌, length, map}
use Rattle.ldap_ber.specs.Reading.{many_at}
use Rattle.ldap_ber.proofs.ManyLemmas.{with_prefix}
use Rattle.ldap_filter.specs.FilterTree.{tree_of, parts_of}
use Rattle.ldap_parts.specs.Filters.{filter_in}
use Rattle.ldap_parts.proofs.filter_reading.+filters.Given as goal

abbrev pub decreases-filter_of : goal.decreases-filter_of
decreases-filter_of l = 3 * l.levels

abbrev pub decreases-filters_in : goal.decreases-filters_in
decreases-filters_in l = 3 * l.levels + 1

abbrev pub decreases-negated_of : goal.decreases-negated_of
decreases-negated_of l = 3 * l.levels + 1

abbrev pub decreases-list_of : goal.decreases-list_of
decreases-list_of l = 3 * l.levels + 2

-- the filters so far and those that are left are all of them
abbrev pub invariant-filters_in-loop-alloc : goal.invariant-filters_in-loop-alloc
invariant-filters_in-loop-alloc l = with_prefix (map tree_of (parts_of l.filters)) (many_at (filter_in l.levels) l.reader.stop l.reader.left) ≡ many_at (filter_in l.levels) l.initial.reader.stop l.initial.reader.left

abbrev pub decreases-filters_in-loop-alloc : goal.decreases-filters_in-loop-alloc
decreases-filters_in-loop-alloc l = length l.reader.left
