use Rattle.std.proofs.Common.{◌≡◌, take}
use Rattle.std.specs.Prelude.{fold}
use Rattle.entry_writes.specs.Touched.{puts_of}
use Rattle.entry_tree.proofs.ByIdentity.{put_in}
use Rattle.entry_tree.proofs.put.put_each.Given as goal

-- what the changes so far leave or make is put in
abbrev pub invariant-loop-change : goal.invariant-loop-change
invariant-loop-change l = l.entries ≡ fold put_in l.initial.entries (puts_of (take l.change-index l.changes))
