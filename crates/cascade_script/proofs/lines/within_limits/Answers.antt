use Rattle.cascade_script.proofs.LineCuts.{all_lines}
use Rattle.cascade_script.proofs.lines.within_limits.Goals as goal

pub returns-in-None-clause-lines : goal.returns-in-None-clause-lines
returns-in-None-clause-lines c =
    all_lines c.split_at.result.0.now _ c.args.text.now c.kept_length-whole.result _ c.split_at.ensures.front c.kept_length-whole.ensures.kept c.in-None.ensures.all

pub returns-in-None-2-clause-lines : goal.returns-in-None-2-clause-lines
returns-in-None-2-clause-lines c =
    all_lines c.split_at.result.0.now _ c.args.text.now c.kept_length-whole.result _ c.split_at.ensures.front c.kept_length-whole.ensures.kept c.in-None.ensures.all
