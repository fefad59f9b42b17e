use Rattle.std.proofs.Common.{◌≡◌, ◌+◌, ◌-◌, ◌≤◌, length}
use Rattle.ldap_filter.specs.Grammar.{begins_with}
use Rattle.ldap_filter.specs.Reading.{many_in, starred_at}
use Rattle.ldap_filter.proofs.Many.{with_prefix}
use Rattle.ldap_filter.proofs.reading.starred_values.Given as goal

-- the values so far stand before those that are still to be read
abbrev pub invariant-loop-alloc : goal.invariant-loop-alloc
invariant-loop-alloc l = record {
  stop : l.cursor.stop ≡ l.initial.cursor.stop;
  room : length l.cursor.left + length l.values.items ≤ length l.initial.cursor.left;
  read : with_prefix l.values.items (many_in (begins_with 42) starred_at (length l.initial.cursor.left - length l.values.items) l.cursor.stop l.cursor.left)
      ≡ many_in (begins_with 42) starred_at (length l.initial.cursor.left) l.initial.cursor.stop l.initial.cursor.left;
}

abbrev pub decreases-loop-alloc : goal.decreases-loop-alloc
decreases-loop-alloc l = length l.cursor.left
