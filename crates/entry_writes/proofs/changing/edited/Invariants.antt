use Rattle.std.proofs.Common.{◌≡◌, take, None}
use Rattle.entry_writes.specs.Edits.{after_edits, edits_code}
use Rattle.entry_writes.proofs.changing.edited.Given as goal

-- the edits so far are made, and nothing rejects them
abbrev pub invariant-loop-edit : goal.invariant-loop-edit
invariant-loop-edit l = record {
  made : l.after ≡ after_edits l.attrs (take l.edit-index l.edits);
  none : edits_code l.attrs (take l.edit-index l.edits) ≡ None;
}
