-- There is as much room as was wanted.
use Rattle.ldap_ber.proofs.UnfinishedLemmas.{room_same}
use Rattle.ldap_ber.proofs.writer.fit.Goals as goal

pub returns-then-wanted-room-clause-fitted : goal.returns-then-wanted-room-clause-fitted
returns-then-wanted-room-clause-fitted c = room_same c.args.place c.args.room c.args.wanted c.args.out.now.items c.requires c.if-wanted-room.true
