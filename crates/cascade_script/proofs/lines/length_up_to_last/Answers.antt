use Rattle.std.proofs.Common.{◌<◌, length, arith}
use Rattle.cascade_script.proofs.LastMark.{up_to_last-more, up_to_last-same}
use Rattle.cascade_script.proofs.lines.length_up_to_last.Goals as goal
use Rattle.cascade_script.proofs.lines.length_up_to_last.Goals.{then-b-mark, else-b-mark}

pub loop-i-preserved : goal.loop-i-preserved
loop-i-preserved c =
    let bytes = c.args.bytes.now in
    let i = c.loop-i.i in
    let within : i < length bytes = omega arith in
    elim c.if-b-mark.branch [
      | then-b-mark w ↦ record { first_part = rw w.length-is (up_to_last-more c.args.mark bytes i within w.if-b-mark.true); within = omega (arith, w.length-is) }
      | else-b-mark w ↦ record { first_part = rw w.length-is (up_to_last-same c.args.mark bytes _ i within w.if-b-mark.false c.loop-i.invariant.first_part); within = omega (arith, w.length-is, c.loop-i.invariant.within) }
    ]
