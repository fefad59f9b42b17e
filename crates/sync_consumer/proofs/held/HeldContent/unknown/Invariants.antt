use Rattle.std.proofs.Common.{◌≡◌, not, take, None}
use Rattle.std.specs.List.{find}
use Rattle.sync_model.specs.Copy.{is_known}
use Rattle.sync_consumer.proofs.held.HeldContent.unknown.Given as goal

-- the identities so far are known
abbrev pub invariant-loop-uuid : goal.invariant-loop-uuid
invariant-loop-uuid l = find (λ uuid. not (is_known l.self.entries l.stage uuid)) (take l.uuid-index l.uuids) ≡ None
