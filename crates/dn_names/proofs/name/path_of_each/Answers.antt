-- The path of one more RDN.
use Rattle.dn_names.proofs.PathKeys.{so_far-more}
use Rattle.dn_names.proofs.name.path_of_each.Goals as goal

pub loop-rdn-preserved : goal.loop-rdn-preserved
loop-rdn-preserved c =
    so_far-more c.args.rdns.now c.loop-rdn.left.now c.in-Some.below.now c.loop-rdn.path.items c.append_rdn_path.new.path.items c.in-Some.rdn.now
    c.loop-rdn.invariant c.in-Some.ensures.cases.0 (rw c.list.ensures.value at c.in_ok-append_rdn_path.ensures.path)
    (rw c.list.ensures.value at c.in_ok-append_rdn_path.ensures.numbers)
