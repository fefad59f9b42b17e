use Rattle.std.proofs.Common.{◌≡◌, ◌+◌, ◌≤◌, length}
use Rattle.ldap_ber.specs.Reading.{count_at}
use Rattle.ldap_ber.proofs.CountLemmas.{counted_on}
use Rattle.ldap_ber.proofs.reader.Reader.count.Given as goal

-- the elements so far and those that are left are all of them, and each has an octet at least
abbrev pub invariant-loop-ahead : goal.invariant-loop-ahead
invariant-loop-ahead l =
    (counted_on l.count (count_at l.ahead.stop l.ahead.left) ≡ count_at l.initial.ahead.stop l.initial.ahead.left)
    × (l.count + length l.ahead.left ≤ length l.initial.ahead.left)

abbrev pub decreases-loop-ahead : goal.decreases-loop-ahead
decreases-loop-ahead l = length l.ahead.left
