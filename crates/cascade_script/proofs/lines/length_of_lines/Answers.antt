use Rattle.std.proofs.Common.{◌≡◌, length, take, arith}
use Rattle.std.specs.Str.Lines.{lines}
use Rattle.cascade_script.proofs.LineCuts.{more_lines}
use Rattle.cascade_script.proofs.lines.length_of_lines.Goals as goal

pub returns-then-at-text-2-clause-lines : goal.returns-then-at-text-2-clause-lines
returns-then-at-text-2-clause-lines c =
    let all : length (lines (take c.loop-count.at c.args.text.now)) ≡ c.args.most = omega arith in
    (more_lines c.args.text.now c.loop-count.at c.args.most c.loop-count.invariant.cut (omega arith) all).0

pub returns-then-at-text-2-clause-more : goal.returns-then-at-text-2-clause-more
returns-then-at-text-2-clause-more c =
    let all : length (lines (take c.loop-count.at c.args.text.now)) ≡ c.args.most = omega arith in
    (more_lines c.args.text.now c.loop-count.at c.args.most c.loop-count.invariant.cut (omega arith) all).1
