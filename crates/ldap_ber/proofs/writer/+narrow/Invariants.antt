use Rattle.ldap_ber.proofs.writer.+narrow.Given as goal

abbrev pub decreases-narrow : goal.decreases-narrow
decreases-narrow l = l.count
