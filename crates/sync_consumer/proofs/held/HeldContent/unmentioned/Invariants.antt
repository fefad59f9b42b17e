use Rattle.std.proofs.Common.{◌≡◌, Bor, map, take}
use Rattle.entry_tree.specs.declared.entry.Entry.{Entry}
use Rattle.sync_model.specs.Copy.{unmentioned}
use Rattle.sync_consumer.proofs.held.HeldContent.unmentioned.Given as goal

-- those of the entries so far that were not spoken of are there
abbrev pub invariant-loop-entry : goal.invariant-loop-entry
invariant-loop-entry l =
    l.uuids.items ≡ unmentioned l.named l.stage (map (λ (e : Bor Entry). e.now) (take l.entry-index l.entry-items))
