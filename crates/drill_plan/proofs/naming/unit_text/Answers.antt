use Rattle.std.proofs.Common.{append-nil, rules}
use Rattle.std.specs.Fmt.{decimal}
use Rattle.drill_plan.proofs.naming.unit_text.Goals as goal

pub returns-else-renamed : goal.returns-else-renamed
returns-else-renamed c = rw (c.if-renamed.false, append-nil (decimal c.args.writer)) (search rules)
