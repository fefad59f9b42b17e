use Rattle.std.proofs.Common.{◌≡◌, length}
use Rattle.ldap_ber.specs.Reading.{many_at}
use Rattle.ldap_ber.proofs.ManyLemmas.{with_prefix}
use Rattle.ldap_parts.specs.Components.{octet_string_at, strings_from_first}
use Rattle.ldap_parts.proofs.lists.strings_after.Given as goal

-- the strings so far and those that are left are all of them
abbrev pub invariant-loop-ahead : goal.invariant-loop-ahead
invariant-loop-ahead l = with_prefix l.strings.items (many_at (octet_string_at 4) l.ahead.stop l.ahead.left) ≡ strings_from_first l.fn.first l.initial.ahead.stop l.initial.ahead.left

abbrev pub decreases-loop-ahead : goal.decreases-loop-ahead
decreases-loop-ahead l = length l.ahead.left
