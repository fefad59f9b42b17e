-- One octet is taken out, and then the others.
use Rattle.std.proofs.Common.{◌-◌, arith}
use Rattle.ldap_ber.proofs.UnfinishedLemmas.{narrowed_none, narrowed_more}
use Rattle.ldap_ber.proofs.writer.+narrow.Goals as goal

pub returns-then-count-eq0 : goal.returns-then-count-eq0
returns-then-count-eq0 t c = narrowed_none c.args.place c.args.count c.args.out.now.items c.if-count-eq0.true

pub returns : goal.returns
returns t c =
    narrowed_more c.args.place c.args.count (c.args.count - 1) c.args.out.now.items c.remove.new.self.items c.narrow.new.out.items
    c.requires (omega (arith, c.if-count-eq0.false)) c.remove.ensures.items c.narrow.ensures
