use Rattle.std.proofs.Common.{◌≡◌, nat_eq, not, take}
use Rattle.std.specs.List.{filter}
use Rattle.entry_tree.proofs.names.others.Given as goal

-- those so far are there, without the one
abbrev pub invariant-loop-id : goal.invariant-loop-id
invariant-loop-id l = l.others.items ≡ filter (λ id. not (nat_eq id l.uuid)) (take l.id-index l.uuids)
