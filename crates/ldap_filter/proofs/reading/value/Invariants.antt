use Rattle.std.proofs.Common.{◌≡◌, ◌+◌, ◌-◌, ◌≤◌, length}
use Rattle.ldap_filter.specs.Reading.{many_in, value_goes_on, value_byte_at}
use Rattle.ldap_filter.proofs.Many.{with_prefix}
use Rattle.ldap_filter.proofs.reading.value.Given as goal

-- the bytes so far stand before those that are still to be read
abbrev pub invariant-loop-bytes : goal.invariant-loop-bytes
invariant-loop-bytes l = record {
  stop : l.cursor.stop ≡ l.initial.cursor.stop;
  room : length l.cursor.left + length l.bytes.items ≤ length l.initial.cursor.left;
  read : with_prefix l.bytes.items (many_in value_goes_on value_byte_at (length l.initial.cursor.left - length l.bytes.items) l.cursor.stop l.cursor.left)
      ≡ many_in value_goes_on value_byte_at (length l.initial.cursor.left) l.initial.cursor.stop l.initial.cursor.left;
}

abbrev pub decreases-loop-bytes : goal.decreases-loop-bytes
decreases-loop-bytes l = length l.cursor.left
