use Rattle.std.proofs.Common.{◌≡◌, ◌+◌, ◌-◌, ◌*◌, ◌≤◌, length, map}
use Rattle.ldap_filter.specs.Grammar.{begins_with}
use Rattle.ldap_filter.specs.Reading.{many_in, filter_in}
use Rattle.ldap_filter.specs.FilterTree.{tree_of}
use Rattle.ldap_filter.proofs.Many.{with_prefix}
use Rattle.ldap_filter.proofs.reading.+filters.Given as goal

abbrev pub decreases-filter_in : goal.decreases-filter_in
decreases-filter_in l = 5 * l.levels

abbrev pub decreases-filters : goal.decreases-filters
decreases-filters l = 5 * l.levels + 2

abbrev pub decreases-component : goal.decreases-component
decreases-component l = 5 * l.levels + 3

abbrev pub decreases-enclosed : goal.decreases-enclosed
decreases-enclosed l = 5 * l.levels + 4

-- the filters so far stand before those that are still to be read
abbrev pub invariant-filters-loop-alloc : goal.invariant-filters-loop-alloc
invariant-filters-loop-alloc l = record {
  stop : l.cursor.stop ≡ l.initial.cursor.stop;
  room : length l.cursor.left + length l.items.items ≤ length l.initial.cursor.left;
  read : with_prefix (map tree_of l.items.items) (many_in (begins_with 40) (filter_in l.levels) (length l.initial.cursor.left - length l.items.items) l.cursor.stop l.cursor.left)
      ≡ many_in (begins_with 40) (filter_in l.levels) (length l.initial.cursor.left) l.initial.cursor.stop l.initial.cursor.left;
}

abbrev pub decreases-filters-loop-alloc : goal.decreases-filters-loop-alloc
decreases-filters-loop-alloc l = length l.cursor.left
