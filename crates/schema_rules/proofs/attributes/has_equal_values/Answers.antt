-- Fewer than two values are not equal.
use Rattle.std.proofs.Common.{sym}
use Rattle.schema_rules.proofs.FewValues.{few_apart}
use Rattle.schema_rules.proofs.attributes.has_equal_values.Goals as goal

pub returns-then-values-lt2 : goal.returns-then-values-lt2
returns-then-values-lt2 c = sym (few_apart c.args.kind c.args.values.now c.if-values-lt2.true)
