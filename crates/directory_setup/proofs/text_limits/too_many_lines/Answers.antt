use Rattle.std.proofs.Common.{take, ap, ◌∙◌}
use Rattle.directory_setup.specs.Texts.{line_feeds}
use Rattle.directory_setup.proofs.TextLimits.{few_lines, many_lines}
use Rattle.directory_setup.proofs.text_limits.too_many_lines.Goals as goal

pub returns-then-line_feeds_before-lt-MOST_LINES : goal.returns-then-line_feeds_before-lt-MOST_LINES
returns-then-line_feeds_before-lt-MOST_LINES c =
    few_lines c.args.text.now c.line_feeds_before.result
    (c.line_feeds_before.ensures ∙ ap (λ n. line_feeds (take n c.args.text.now)) c.saturating_sub.ensures) c.if-line_feeds_before-lt-MOST_LINES.true

pub returns : goal.returns
returns c =
    many_lines c.args.text.now c.line_feeds_before.result
    (c.line_feeds_before.ensures ∙ ap (λ n. line_feeds (take n c.args.text.now)) c.saturating_sub.ensures) c.if-line_feeds_before-lt-MOST_LINES.false
