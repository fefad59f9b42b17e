-- One more RDN after a comma.
use Rattle.std.proofs.Common.{arith}
use Rattle.dn_names.proofs.Sizes.{more_rdns_from}
use Rattle.dn_names.proofs.writing.more_rdns_len.Goals as goal

pub loop-rdn-preserved : goal.loop-rdn-preserved
loop-rdn-preserved c =
    let from = more_rdns_from c.args.rdns.now c.loop-rdn.rdn-index c.rdn-item.result c.loop-rdn-test.true c.rdn-item.is in
    record {
      value = omega (arith, from, c.loop-rdn.invariant.value, c.written_len.ensures.value);
      bound = omega (arith, c.loop-rdn.invariant.bound, c.written_len.ensures.bound);
      within = omega arith;
    }
