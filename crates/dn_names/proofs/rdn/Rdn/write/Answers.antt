-- A written RDN is read again.
use Rattle.dn_names.proofs.Rereading.{rdn_read_again}
use Rattle.dn_names.proofs.rdn.Rdn.write.Goals as goal

pub returns-clause-again : goal.returns-clause-again
returns-clause-again c = rw c.from.ensures (rw c.in_ok-append_pairs.ensures (rw c.in_ok-text.ensures.items (rw c.list.ensures.value (rdn_read_again c.args.self.now c.list.ensures.sound))))
