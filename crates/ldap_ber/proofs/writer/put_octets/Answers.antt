-- One octet more is put.
use Rattle.std.proofs.Common.{set, get_or, ap, ◌∙◌, arith}
use Rattle.std.proofs.lemmas.List.{take_all}
use Rattle.ldap_ber.specs.Unfinished.{put_at}
use Rattle.ldap_ber.proofs.UnfinishedLemmas.{put_none, put_more}
use Rattle.ldap_ber.proofs.writer.put_octets.Goals as goal

pub loop-octet-init : goal.loop-octet-init
loop-octet-init c = record {
  put = put_none c.args.out.now.items c.args.place;
  next = omega arith;
}

pub loop-octet-preserved : goal.loop-octet-preserved
loop-octet-preserved c =
    let i = c.loop-octet.octet-index in
    record {
      put =
          (λ k. set (c.loop-octet.invariant.put k) (c.loop-octet.invariant.next k) (get_or c.args.octets.now i 0))
          ∙ put_more c.args.out.now.items c.args.octets.now c.args.place i c.requires c.loop-octet-test.true;
      next = omega (arith, c.loop-octet.invariant.next);
    }

pub returns : goal.returns
returns c =
    c.loop-octet.invariant.put
    ∙ ap (put_at c.args.out.now.items c.args.place) (take_all c.loop-octet.octet-index c.args.octets.now c.loop-octet-test.false)
