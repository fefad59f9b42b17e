use Rattle.std.proofs.Common.{take}
use Rattle.entry_tree.specs.NameIndex.{IsLeast}
use Rattle.entry_tree.proofs.names.least.Given as goal

-- it is the least of those so far
abbrev pub invariant-loop-uuid : goal.invariant-loop-uuid
invariant-loop-uuid l = IsLeast (take l.uuid-index l.uuids) l.least
