use Rattle.std.proofs.Common.{◌∙◌, bytes_eq, sym}
use Rattle.schema_rules.proofs.Lists.{list_any_map}
use Rattle.schema_rules.proofs.classes.is_among.Goals as goal

pub returns : goal.returns
returns c = c.contains.ensures.value ∙ sym (list_any_map (λ other. bytes_eq other c.args.name.now) (λ n. n.now) c.args.names.now)
