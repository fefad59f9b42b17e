use Rattle.std.proofs.Common.{◌≡◌, length}
use Rattle.ldap_ber.specs.Reading.{skip_at}
use Rattle.ldap_ber.proofs.reader.Reader.skip.Given as goal

-- what is still to be passed over decides what comes
abbrev pub invariant-loop-ahead : goal.invariant-loop-ahead
invariant-loop-ahead l = skip_at l.ahead.stop l.ahead.left ≡ skip_at l.initial.ahead.stop l.initial.ahead.left

abbrev pub decreases-loop-ahead : goal.decreases-loop-ahead
decreases-loop-ahead l = length l.ahead.left
