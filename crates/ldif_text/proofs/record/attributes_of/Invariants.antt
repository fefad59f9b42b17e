use Rattle.std.proofs.Common.{◌≡◌, [], drop}
use Rattle.ldif_text.specs.Record.{attributes_of}
use Rattle.ldif_text.proofs.record.attributes_of.Given as goal

-- the lines so far are read into the attributes
abbrev pub invariant-loop-line : goal.invariant-loop-line
invariant-loop-line l = attributes_of [] l.lines ≡ attributes_of l.attributes.items (drop l.line-index l.lines)
