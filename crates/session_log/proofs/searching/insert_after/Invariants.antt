use Rattle.std.proofs.Common.{◌≡◌, take}
use Rattle.session_log.specs.Log.{joined, uuids_after}
use Rattle.session_log.proofs.searching.insert_after.Given as goal

-- the identities of the notes so far are in the set
abbrev pub invariant-loop-note : goal.invariant-loop-note
invariant-loop-note l = l.uuids.keys ≡ joined l.fn.uuids.keys (uuids_after l.number (take l.note-index l.notes))
