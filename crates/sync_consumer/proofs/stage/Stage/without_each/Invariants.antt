use Rattle.std.proofs.Common.{◌≡◌, take}
use Rattle.sync_model.specs.Copy.{all_dropped}
use Rattle.sync_consumer.proofs.stage.Stage.without_each.Given as goal

-- the identities so far have no entry
abbrev pub invariant-loop-uuid : goal.invariant-loop-uuid
invariant-loop-uuid l = l.stage ≡ all_dropped l.self (take l.uuid-index l.uuids)
