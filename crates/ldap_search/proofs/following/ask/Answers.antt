use Rattle.ldap_search.proofs.Writing.{asks_same, follow_spelled, start_fails, start_unwritten}
use Rattle.ldap_search.proofs.following.ask.Goals as goal

-- the request has a spelling, by the depth of its filter
pub send-requires-clause-spelled : goal.send-requires-clause-spelled
send-requires-clause-spelled g c κs within = follow_spelled c.args.consumer.now _ c.in-Ok.ensures.message c.requires.filter

pub returns-in-Ok-send-clause-starts : goal.returns-in-Ok-send-clause-starts
returns-in-Ok-send-clause-starts g c = (asks_same _ _ _ _ _ c.in-Ok.ensures.message c.in-Ok-send.ensures, c.in-Ok.ensures.ok)

pub returns-in-Err-clause-starts : goal.returns-in-Err-clause-starts
returns-in-Err-clause-starts g c = start_fails c.in-Err.fault _ _ _ c.args.consumer.now _ (asks_same _ _ _ _ _ c.in-Ok.ensures.message c.in-Err.ensures) c.end_by.ensures.ends

-- where memory ran out
pub returns-in-Err-clause-unwritten : goal.returns-in-Err-clause-unwritten
returns-in-Err-clause-unwritten g c = start_unwritten _ c.in-Err.fault c.end_by.result _ _ c.in-Err.ensures c.end_by.ensures.memory
