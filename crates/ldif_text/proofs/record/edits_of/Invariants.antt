use Rattle.std.proofs.Common.{◌≡◌, None, [], drop}
use Rattle.ldif_text.specs.Record.{edits_of}
use Rattle.ldif_text.proofs.record.edits_of.Given as goal

-- the lines so far are read into the edits
abbrev pub invariant-loop-line : goal.invariant-loop-line
invariant-loop-line l = edits_of [] None l.lines ≡ edits_of l.done l.current (drop l.line-index l.lines)
