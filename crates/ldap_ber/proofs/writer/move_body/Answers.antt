-- Octets are taken out, or put in.
use Rattle.std.proofs.Common.{arith}
use Rattle.std.proofs.lemmas.Result.{on_ok_weaker}
use Rattle.ldap_ber.proofs.UnfinishedLemmas.{room_narrowed, room_widened}
use Rattle.ldap_ber.proofs.writer.move_body.Goals as goal

pub returns-then-wanted-room-clause-fitted : goal.returns-then-wanted-room-clause-fitted
returns-then-wanted-room-clause-fitted c =
    room_narrowed c.args.place c.args.room c.args.wanted c.args.out.now.items c.narrow.new.out.items c.requires (omega (arith, c.if-wanted-room.true)) c.narrow.ensures

pub returns-clause-fitted : goal.returns-clause-fitted
returns-clause-fitted c =
    on_ok_weaker c.widen.result
    (λ wide. room_widened c.args.place c.args.room c.args.wanted c.args.out.now.items c.widen.new.out.items c.requires c.if-wanted-room.false wide)
    c.widen.ensures.fitted
