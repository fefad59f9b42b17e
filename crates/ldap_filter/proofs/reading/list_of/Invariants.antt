use Rattle.std.proofs.Common.{◌≡◌}
use Rattle.ldap_filter.proofs.reading.list_of.Given as goal

-- the strings so far are in the list
abbrev pub invariant-loop-item : goal.invariant-loop-item
invariant-loop-item l = l.list ≡ l.yielded
