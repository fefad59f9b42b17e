use Rattle.std.proofs.Common.{ap, inl, refl, rules}
use Rattle.ldap_client.specs.Clients.{ClientState}
use Rattle.ldap_search.proofs.Answered.{plainly_asked_ok, plainly_ended, plainly_in_part, plainly_unasked}
use Rattle.ldap_search.proofs.Writing.{asks_same}
use Rattle.ldap_search.proofs.answering.ask_plainly.Goals as goal

-- the client of the search has just begun, and so answers no fault

pub send-requires-clause-live : goal.send-requires-clause-live
send-requires-clause-live g c κs within = ap (λ (s : ClientState). s.fault) c.requires.fresh

pub print_answer-requires : goal.print_answer-requires
print_answer-requires g c = let live = c.in-Ok-send.ensures.fault in search rules

pub returns-in-Ok-send-clause-asks : goal.returns-in-Ok-send-clause-asks
returns-in-Ok-send-clause-asks g c =
    plainly_asked_ok c.print_answer.result _ _ _ _ _ _ c.requires.fresh (asks_same _ _ _ _ _ c.in-Ok.ensures.request c.in-Ok-send.ensures) c.print_answer.ensures.held c.print_answer.ensures.answers

pub returns-in-Err-clause-asks : goal.returns-in-Err-clause-asks
returns-in-Err-clause-asks g c = plainly_ended c.in-Err.fault c.last_by.result _ _ _ _ (asks_same _ _ _ _ _ c.in-Ok.ensures.request c.in-Err.ensures) c.last_by.ensures.ends

-- where memory ran out

pub returns-in_default-clause-in_part : goal.returns-in_default-clause-in_part
returns-in_default-clause-in_part g c = inl (refl, (refl, refl), refl)

pub returns-in-Ok-send-clause-in_part : goal.returns-in-Ok-send-clause-in_part
returns-in-Ok-send-clause-in_part g c =
    plainly_in_part c.print_answer.result _ _ _ _ _ _ c.requires.fresh (asks_same _ _ _ _ _ c.in-Ok.ensures.request c.in-Ok-send.ensures) c.print_answer.ensures.held c.print_answer.ensures.in_part

pub returns-in-Err-clause-in_part : goal.returns-in-Err-clause-in_part
returns-in-Err-clause-in_part g c = plainly_unasked c.in-Err.fault c.last_by.result _ _ _ _ (asks_same _ _ _ _ _ c.in-Ok.ensures.request c.in-Err.ensures) c.last_by.ensures.memory
