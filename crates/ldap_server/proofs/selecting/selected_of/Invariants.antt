use Rattle.std.proofs.Common.{◌≡◌, map, take}
use Rattle.schema_rules.specs.Attributes.{raw_of}
use Rattle.ldap_server.specs.Selecting.{sent_of}
use Rattle.ldap_server.proofs.selecting.selected_of.Given as goal

-- what is sent of the attributes so far
abbrev pub invariant-loop-attribute : goal.invariant-loop-attribute
invariant-loop-attribute l =
    l.list ≡ sent_of l.selection.selectors.now l.selection.types_only (map raw_of (take l.attribute-index l.held))
