-- Names that share their RDNs.
use Rattle.std.specs.Prelude.{List, [], Option, None, Some}
use Rattle.std.proofs.Common.{Global}
use Rattle.std.specs.declared.sync.Arc.{Arc}
use Rattle.dn_names.specs.Names.{TypeAndValue}

-- no RDNs, or those that may be shared
abbrev pub rdns_in : Option (Arc (List (List TypeAndValue)) Global) → List (List TypeAndValue)
rdns_in None = []
rdns_in (Some shared) = shared.value
