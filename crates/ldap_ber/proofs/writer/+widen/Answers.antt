-- One octet is put in, and then the others; where memory runs out it is taken out.
use Rattle.std.proofs.Common.{◌-◌, ◌∙◌, arith}
use Rattle.ldap_ber.proofs.UnfinishedLemmas.{room_none, room_more, taken_back}
use Rattle.ldap_ber.proofs.writer.+widen.Goals as goal

pub returns-then-count-eq0-clause-fitted : goal.returns-then-count-eq0-clause-fitted
returns-then-count-eq0-clause-fitted t c = room_none c.args.place c.args.count c.args.out.now.items c.requires c.if-count-eq0.true

pub returns-in-Ok-clause-fitted : goal.returns-in-Ok-clause-fitted
returns-in-Ok-clause-fitted t c =
    room_more c.args.place c.args.count (c.args.count - 1) c.args.out.now.items c.insert_octet.new.out.items c.widen.new.out.items
    c.requires (omega (arith, c.if-count-eq0.false)) c.in_ok-insert_octet.ensures.ok c.in-Ok.ensures.fitted

pub returns-in-Err-clause-err : goal.returns-in-Err-clause-err
returns-in-Err-clause-err t c =
    taken_back c.args.place c.args.out.now.items c.widen.new.out.items c.remove.new.self.items
    c.requires (c.in-Err.ensures.err ∙ c.in_ok-insert_octet.ensures.ok) c.remove.ensures.items
