use Rattle.ldap_server.proofs.selecting.push_csn.Goals as goal

pub returns : goal.returns
returns c = rw c.write.ensures.text at c.push_single.ensures
