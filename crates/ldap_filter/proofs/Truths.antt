-- The truth of an `and` and of an `or`, part by part.
use Rattle.std.proofs.Common.{List, map}
use Rattle.schema_rules.specs.declared.attributes.Attribute.{Attribute}
use Rattle.ldap_filter.specs.declared.filter.Filter.{Filter}
use Rattle.ldap_filter.specs.declared.truth.Truth.{Truth}
use Rattle.ldap_filter.specs.declared.truth.Truth.TheVariants.{True, False, Undefined}
use Rattle.ldap_filter.specs.FilterTree.{tree_of, trees}
use Rattle.ldap_filter.specs.Truth.{conjunction, disjunction, truths_on}

abbrev pub both : Truth → Truth → Truth
both True rest = rest
both False rest = False
both Undefined True = Undefined
both Undefined False = False
both Undefined Undefined = Undefined

abbrev pub either : Truth → Truth → Truth
either True rest = True
either False rest = rest
either Undefined True = True
either Undefined False = Undefined
either Undefined Undefined = Undefined

-- the truth of an `and` and of an `or` of these parts
abbrev pub all_on : List Attribute → List Filter → Truth
all_on attributes parts = conjunction (truths_on attributes (trees (map tree_of parts)))

abbrev pub any_on : List Attribute → List Filter → Truth
any_on attributes parts = disjunction (truths_on attributes (trees (map tree_of parts)))
