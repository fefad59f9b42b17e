use Rattle.std.proofs.Common.{arith, drop, ◌+◌}
use Rattle.std.proofs.lemmas.List.{at_drop_more}
use Rattle.ldif_text.specs.Fault.{Refuses}
use Rattle.ldif_text.specs.Record.{edits_of}
use Rattle.ldif_text.proofs.record.edits_of.Goals as goal

pub returns-in_err-current : goal.returns-in_err-current
returns-in_err-current c =
    let lines = c.args.lines.now in
    let i = c.loop-line.line-index in
    let next = at_drop_more (edits_of c.loop-line.done c.loop-line.current) lines i c.line-item.result (omega arith) in
    let shown : Refuses c.in_err-current.field-0.0 (edits_of c.loop-line.done c.loop-line.current (drop i lines)) =
    rw (next, ← c.line-item.is) (c.in_err-current.ensures (drop (i + 1) lines)) in
    let here = rw (← c.loop-line.invariant) at shown in
    grind (arith, here)
