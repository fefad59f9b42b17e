use Rattle.std.proofs.Common.{◌≡◌, take}
use Rattle.sync_wire.proofs.sending.list_of.Given as goal

-- the identities so far are in the list
abbrev pub invariant-loop-uuid : goal.invariant-loop-uuid
invariant-loop-uuid l = l.list ≡ take l.uuid-index l.uuids
