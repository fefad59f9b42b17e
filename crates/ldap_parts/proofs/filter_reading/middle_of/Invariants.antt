use Rattle.std.proofs.Common.{◌≡◌, length}
use Rattle.ldap_parts.specs.Components.{octet_string_at}
use Rattle.ldap_parts.specs.Filters.{while_at}
use Rattle.ldap_parts.proofs.WhileLemmas.{and_prefix}
use Rattle.ldap_parts.proofs.filter_reading.middle_of.Given as goal

-- the pieces so far and those that come next are all of them
abbrev pub invariant-loop-alloc : goal.invariant-loop-alloc
invariant-loop-alloc l = record {
  pieces : and_prefix l.pieces (while_at 129 (octet_string_at 129) l.reader.stop l.reader.left) ≡ while_at 129 (octet_string_at 129) l.initial.reader.stop l.initial.reader.left;
  stop : l.reader.stop ≡ l.initial.reader.stop;
}

abbrev pub decreases-loop-alloc : goal.decreases-loop-alloc
decreases-loop-alloc l = length l.reader.left
