use Rattle.std.proofs.Common.{sym, ap, ◌∙◌}
use Rattle.schema_rules.specs.Schema.{type_named}
use Rattle.ldap_server.proofs.selecting.push_held.Goals as goal

pub push_selected-requires : goal.push_selected-requires
push_selected-requires c = sym c.name.ensures.found ∙ ap type_named (sym c.name.ensures.value)

pub returns : goal.returns
returns c = rw c.name.ensures.value at c.push_selected.ensures
