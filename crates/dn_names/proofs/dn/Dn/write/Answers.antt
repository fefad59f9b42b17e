-- A written name is read again.
use Rattle.dn_names.proofs.Rereading.{name_read_again}
use Rattle.dn_names.proofs.dn.Dn.write.Goals as goal

pub returns-clause-again : goal.returns-clause-again
returns-clause-again c = rw c.from.ensures (rw c.in_ok-append_rdns.ensures (rw c.in_ok-text.ensures.items (rw c.rdns.ensures.value (name_read_again c.args.self.now c.rdns.ensures.sound))))
