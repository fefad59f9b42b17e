use Rattle.std.proofs.Common.{◌≡◌, length}
use Rattle.ldap_ber.specs.Reading.{many_at}
use Rattle.ldap_ber.proofs.ManyLemmas.{with_prefix}
use Rattle.ldap_messages.specs.Modify.{edit_at}
use Rattle.ldap_messages.proofs.modify.edits_in.Given as goal

-- the edits so far and those that are left are all of them
abbrev pub invariant-loop-alloc : goal.invariant-loop-alloc
invariant-loop-alloc l = with_prefix l.edits (many_at edit_at l.reader.stop l.reader.left) ≡ many_at edit_at l.initial.reader.stop l.initial.reader.left

abbrev pub decreases-loop-alloc : goal.decreases-loop-alloc
decreases-loop-alloc l = length l.reader.left
