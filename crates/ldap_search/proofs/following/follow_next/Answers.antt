use Rattle.ldap_search.proofs.Answered.{live_not}
use Rattle.ldap_search.proofs.Followed.{follows_end, follows_next, live_with, some_after, some_still}
use Rattle.ldap_search.proofs.Stopped.{stops_next, stops_waiting}
use Rattle.ldap_search.proofs.following.follow_next.Goals as goal

-- a message was given, which the copy took

pub returns-in-Ok-clause-follows : goal.returns-in-Ok-clause-follows
returns-in-Ok-clause-follows g c =
    rw c.end_of.ensures.same
    (follows_next _ _ _ _ c.in-Ok.message c.take-taken.result _ _ _ _ _ _ (c.in-Ok.ensures.gives c.requires.live) c.take-taken.ensures.exact c.end_of.ensures.ends)

pub returns-in-Ok-clause-live : goal.returns-in-Ok-clause-live
returns-in-Ok-clause-live g c = live_with c.take-taken.result _ _ _ _ _ _ _ _ (c.in-Ok.ensures.gives c.requires.live).fault c.end_of.ensures.ends

pub returns-in-Ok-clause-some : goal.returns-in-Ok-clause-some
returns-in-Ok-clause-some g c = some_after c.take-taken.result _ _ _ _ _ _ _ _ c.requires.some c.end_of.ensures.ends

pub returns-in-Ok-clause-in_part : goal.returns-in-Ok-clause-in_part
returns-in-Ok-clause-in_part g c =
    stops_next _ _ _ _ c.in-Ok.message c.take-taken.result _ _ _ _ c.end_of.result (c.in-Ok.ensures.gives c.requires.live) c.take-taken.ensures.exact c.end_of.ensures.in_part

-- none was

pub returns-in-Err-clause-follows : goal.returns-in-Err-clause-follows
returns-in-Err-clause-follows g c = follows_end _ _ _ _ c.in-Err.fault _ _ (c.in-Err.ensures.gives c.requires.live) c.end_by.ensures.ends

pub returns-in-Err-clause-in_part : goal.returns-in-Err-clause-in_part
returns-in-Err-clause-in_part g c = stops_waiting _ _ _ _ c.in-Err.fault _ c.end_by.result (c.in-Err.ensures.gives c.requires.live) c.end_by.ensures.memory

pub returns-in-Err-clause-live : goal.returns-in-Err-clause-live
returns-in-Err-clause-live g c = live_not _ c.in-Err.fault _ c.end_by.ensures.ends

pub returns-in-Err-clause-some : goal.returns-in-Err-clause-some
returns-in-Err-clause-some g c = some_still _ _ c.requires.some
