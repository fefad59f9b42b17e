use Rattle.std.proofs.Common.{◌≡◌, take, true}
use Rattle.std.specs.List.{list_all}
use Rattle.schema_rules.specs.Attributes.{has_type}
use Rattle.schema_rules.proofs.entry_check.has_each.Given as goal

-- the types so far are there
abbrev pub invariant-loop-name : goal.invariant-loop-name
invariant-loop-name l = list_all (λ n. has_type l.attributes n.now) (take l.name-index l.names) ≡ true
