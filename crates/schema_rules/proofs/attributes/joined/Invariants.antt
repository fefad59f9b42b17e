use Rattle.std.proofs.Common.{◌≡◌, take, None, true}
use Rattle.std.specs.List.{filter_map, list_all}
use Rattle.schema_rules.specs.Attributes as spec
use Rattle.schema_rules.proofs.attributes.joined.Given as goal

-- the attributes so far are joined, and nothing rejects them
abbrev pub invariant-loop-raw : goal.invariant-loop-raw
invariant-loop-raw l = record {
  joined : l.items.items ≡ spec.joined (filter_map spec.typed (take l.raw-index l.raws));
  none : spec.first_code (take l.raw-index l.raws) ≡ None;
  list : spec.IsAttributeList l.items.items;
  given : list_all spec.is_given l.items.items ≡ true;
}
