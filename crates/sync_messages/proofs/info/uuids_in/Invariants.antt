use Rattle.std.proofs.Common.{◌≡◌, length}
use Rattle.ldap_ber.specs.Reading.{many_at}
use Rattle.ldap_ber.proofs.ManyLemmas.{with_prefix}
use Rattle.sync_messages.specs.Parts.{uuid_at}
use Rattle.sync_messages.proofs.info.uuids_in.Given as goal

-- the identities so far and those that are left are all of them
abbrev pub invariant-loop-reader : goal.invariant-loop-reader
invariant-loop-reader l = with_prefix l.ids (many_at uuid_at l.reader.stop l.reader.left) ≡ many_at uuid_at l.initial.reader.stop l.initial.reader.left

abbrev pub decreases-loop-reader : goal.decreases-loop-reader
decreases-loop-reader l = length l.reader.left
