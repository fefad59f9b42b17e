use Rattle.std.proofs.Common.{ap, refl, subst}
use Rattle.ldap_server.specs.HandOuts.Stop.{Ends, Enough, Unknown, Waits}
use Rattle.ldap_server.specs.HandOuts.{EndsInGrammar, stop_of}
use Rattle.ldap_server.specs.Seen.{point_in}
use Rattle.ldap_server.proofs.Performing.{part_none, same_sent}
use Rattle.ldap_server.proofs.session.Session.send_last.Goals as goal

pub send-requires : goal.send-requires
send-requires g c = subst EndsInGrammar c.in-Ended.is c.requires

pub returns-in-Enough-clause-sends : goal.returns-in-Enough-clause-sends
returns-in-Enough-clause-sends g c = (Enough, ap stop_of c.in-Enough.is, refl, same_sent (point_in g.P.Port.state c.args.self.now))

pub returns-in-Ok-clause-sends : goal.returns-in-Ok-clause-sends
returns-in-Ok-clause-sends g c = (Ends c.in-Ended.field-0 c.in-Ended.message, ap stop_of c.in-Ended.is, refl, c.in-Ok.ensures.sends)

pub returns-in-Err-clause-sends : goal.returns-in-Err-clause-sends
returns-in-Err-clause-sends g c = c.in-Err.ensures.sends

pub returns-in-Nothing-clause-sends : goal.returns-in-Nothing-clause-sends
returns-in-Nothing-clause-sends g c = (Waits, ap stop_of c.in-Nothing.is, refl, same_sent (point_in g.P.Port.state c.args.self.now))

pub returns-in-NoSuchSearch-clause-sends : goal.returns-in-NoSuchSearch-clause-sends
returns-in-NoSuchSearch-clause-sends g c = (Unknown, ap stop_of c.in-NoSuchSearch.is, refl, same_sent (point_in g.P.Port.state c.args.self.now))

pub returns-in-NoMemory-clause-sends : goal.returns-in-NoMemory-clause-sends
returns-in-NoMemory-clause-sends g c = part_none (point_in g.P.Port.state c.args.self.now)
