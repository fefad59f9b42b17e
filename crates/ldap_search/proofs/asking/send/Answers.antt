use Rattle.ldap_search.proofs.asking.send.Goals as goal

pub returns : goal.returns
returns g c = c.ask-asked.ensures.asks c.requires.live
