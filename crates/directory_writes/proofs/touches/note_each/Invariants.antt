use Rattle.std.proofs.Common.{◌≡◌, ◌+◌, ◌≤◌, take}
use Rattle.directory_writes.specs.Touches.{noted_each, uuids_of}
use Rattle.directory_writes.proofs.touches.note_each.Given as goal

-- the identities so far are noted, and each took room for one note at most
abbrev pub invariant-loop-entry_change : goal.invariant-loop-entry_change
invariant-loop-entry_change l = record {
  noted : l.log.log ≡ noted_each l.number (uuids_of (take l.entry_change-index l.touched)) l.initial.log.log;
  room : l.initial.log.spare ≤ l.log.spare + l.entry_change-index;
}
