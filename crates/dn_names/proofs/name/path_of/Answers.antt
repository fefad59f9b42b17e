-- The path of the own RDN goes after that of those above it.
use Rattle.std.proofs.Common.{arith}
use Rattle.dn_names.proofs.PathKeys.{in_parts-more, in_parts-none}
use Rattle.dn_names.proofs.name.path_of.Goals as goal

pub returns-in_default : goal.returns-in_default
returns-in_default c = rw c.new.ensures.items (in_parts-none c.args.rdns.now c.in_default.ensures.cases)

pub returns : goal.returns
returns c =
    in_parts-more c.args.rdns.now c.in-Some.above.now c.in-Some.own.now c.in_ok-path.path.items c.append_rdn_path.new.path.items c.len-length.result
    c.in-Some.ensures.cases.0 c.in_ok-path.ensures (rw c.list.ensures.value at c.in_ok-append_rdn_path.ensures.path)
    (rw c.list.ensures.value at c.in_ok-append_rdn_path.ensures.numbers)
    (omega (arith, c.len-length.ensures, c.in_ok-path.path.ok.0))
