-- With no RDN before the suffix the name is the other; else its path is that of its RDNs.
use Rattle.std.proofs.Common.{◌≡◌, sym, subst, arith}
use Rattle.std.proofs.lemmas.Grind.{common_steps}
use Rattle.dn_names.specs.Names.{moved_name}
use Rattle.dn_names.specs.Paths.{IsPathInParts}
use Rattle.dn_names.proofs.dn.Dn.moved.Goals as goal

pub with_path-requires-clause-path : goal.with_path-requires-clause-path
with_path-requires-clause-path c =
    let is : c.append_copies-2.new.to.items ≡ moved_name c.args.self.now c.args.from.now c.args.to.now = grind (arith, common_steps) in
    subst (λ names. IsPathInParts names c.in_ok-path.path.items c.in_ok-path.above) (sym is) c.in_ok-path.ensures
