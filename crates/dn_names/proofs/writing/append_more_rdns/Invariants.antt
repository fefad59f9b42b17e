use Rattle.std.proofs.Common.{◌≡◌, ◌++◌, drop}
use Rattle.dn_names.specs.Writing as spec
use Rattle.dn_names.proofs.writing.append_more_rdns.Given as goal

-- the rdns from here on are missing
abbrev pub invariant-loop-rdn : goal.invariant-loop-rdn
invariant-loop-rdn l = l.text.items ++ spec.more_rdns_text (drop l.rdn-index l.rdns) ≡ l.fn.text.items ++ spec.more_rdns_text l.rdns
