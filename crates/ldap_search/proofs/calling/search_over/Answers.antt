use Rattle.std.proofs.Common.{ap, refl, rules, sym, ◌∙◌}
use Rattle.ldap_client.specs.Clients.{ClientState, fresh}
use Rattle.ldap_search.proofs.Called.{hung_up, hung_up_in_part, not_talked}
use Rattle.ldap_search.proofs.calling.search_over.Goals as goal

-- the client has just begun
pub talk-end-requires-clause-fresh : goal.talk-end-requires-clause-fresh
talk-end-requires-clause-fresh g c =
    let begun = c.in-Ok.ensures.ok ∙ ap fresh (sym (ap (λ (s : ClientState). s.link) c.in-Ok.ensures.ok)) in
    search rules

pub returns-in-Ok-clause-hangs_up : goal.returns-in-Ok-clause-hangs_up
returns-in-Ok-clause-hangs_up g c =
    hung_up _ _ _ c.talk-end.result _ _ c.into_link.result _ _ _ _ _ _ _ (ap (λ (s : ClientState). s.link) c.in-Ok.ensures.ok) c.into_link.ensures c.talk-end.ensures.talks
    (record { dialled = c.hang_up.ensures.dialled; faulty = c.hang_up.ensures.faulty; sound = c.hang_up.ensures.sound })

-- where memory ran out

pub returns-in-Ok-clause-in_part : goal.returns-in-Ok-clause-in_part
returns-in-Ok-clause-in_part g c =
    hung_up_in_part _ _ _ c.talk-end.result _ _ c.into_link.result _ _ _ _ _ _ _ (ap (λ (s : ClientState). s.link) c.in-Ok.ensures.ok) c.into_link.ensures c.talk-end.ensures.in_part
    (record { dialled = c.hang_up.ensures.dialled; faulty = c.hang_up.ensures.faulty; sound = c.hang_up.ensures.sound })

pub returns-in-Err-clause-in_part : goal.returns-in-Err-clause-in_part
returns-in-Err-clause-in_part g c = record {
  back = c.args.link;
  talks = not_talked _ _ _ _ _ refl;
  hangs_up = record {
    dialled = rw c.in-Err.ensures.err at c.hang_up-in-Err.ensures.dialled;
    faulty = rw c.in-Err.ensures.err at c.hang_up-in-Err.ensures.faulty;
    sound = rw c.in-Err.ensures.err at c.hang_up-in-Err.ensures.sound;
  };
}
