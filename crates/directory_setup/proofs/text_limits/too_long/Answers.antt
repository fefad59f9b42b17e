use Rattle.std.proofs.Common.{◌∙◌}
use Rattle.directory_setup.proofs.TextLimits.{few_bytes, late_bytes, many_bytes}
use Rattle.directory_setup.proofs.text_limits.too_long.Goals as goal

pub returns-then-text-le-MOST_BYTES : goal.returns-then-text-le-MOST_BYTES
returns-then-text-le-MOST_BYTES c = c.too_many_lines-lines.ensures ∙ few_bytes c.args.text.now c.if-text-le-MOST_BYTES.true

pub returns-then-before-ge-MOST_LINES : goal.returns-then-before-ge-MOST_LINES
returns-then-before-ge-MOST_LINES c =
    c.too_many_lines-lines.ensures
    ∙ late_bytes c.args.text.now c.line_feeds_before-before.result c.line_feeds_before-before.ensures c.if-before-ge-MOST_LINES.true

pub returns : goal.returns
returns c =
    many_bytes c.args.text.now c.line_feeds_before-before.result c.line_feeds_before-before.ensures c.if-text-le-MOST_BYTES.false c.if-before-ge-MOST_LINES.false
