use Rattle.ldap_server.proofs.selecting.push_single.Goals as goal

pub returns : goal.returns
returns c = rw (c.of_one-values.ensures, c.in_ok-octets.ensures) at c.push_selected.ensures
