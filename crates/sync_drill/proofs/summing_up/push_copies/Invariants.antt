use Rattle.std.proofs.Common.{◌≡◌, ◌++◌, take}
use Rattle.sync_drill.specs.Summing.{copies_text}
use Rattle.sync_drill.proofs.summing_up.push_copies.Given as goal

-- the lines of the copies so far
abbrev pub invariant-loop-copy : goal.invariant-loop-copy
invariant-loop-copy l = record {
  place : l.consumer ≡ l.copy-index;
  text : l.text.items ≡ l.fn.text.items ++ copies_text 0 (take l.copy-index l.copies);
}
