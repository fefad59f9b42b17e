use Rattle.std.proofs.Common.{◌≡◌, take, None, true}
use Rattle.std.specs.List.{filter_map, list_all}
use Rattle.entry_writes.specs.Fault.{first_code}
use Rattle.entry_writes.specs.Reading.{typed, raw_code}
use Rattle.entry_writes.specs.Sound.{is_sound_edit}
use Rattle.entry_writes.proofs.reading.read_edits.Given as goal

-- the edits so far are read, and nothing rejects them
abbrev pub invariant-loop-raw : goal.invariant-loop-raw
invariant-loop-raw l = record {
  read : l.edits ≡ filter_map typed (take l.raw-index l.raw-items);
  none : first_code raw_code (take l.raw-index l.raw-items) ≡ None;
  sound : list_all is_sound_edit l.edits ≡ true;
}
