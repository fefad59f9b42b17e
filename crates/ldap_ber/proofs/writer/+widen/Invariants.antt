use Rattle.ldap_ber.proofs.writer.+widen.Given as goal

abbrev pub decreases-widen : goal.decreases-widen
decreases-widen l = l.count
