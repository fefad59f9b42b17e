use Rattle.std.proofs.Common.{[], ap, inl, refl}
use Rattle.std.specs.declared.alloc.AllocError.{AllocError}
use Rattle.ldap_client.specs.Clients.{ClientState}
use Rattle.ldap_search.proofs.Followed.{begins_following, consumer_made, filter_within, follows_to_end, start_ends}
use Rattle.ldap_search.proofs.Stopped.{follows_in_part}
use Rattle.sync_io.proofs.Results.{holds_anyway}
use Rattle.ldap_search.proofs.following.follow.Goals as goal

-- the consumer has the filter of the search, and the client answers no fault

pub ask-requires-clause-filter : goal.ask-requires-clause-filter
ask-requires-clause-filter g c κs within =
    let made = consumer_made _ c.new.result _ _ c.new.ensures c.in_ok-new.was c.new-consumer.ensures in
    filter_within _ _ made c.requires.filter

pub ask-requires-clause-live : goal.ask-requires-clause-live
ask-requires-clause-live g c κs within = ap (λ (s : ClientState). s.fault) c.requires.fresh

-- writing the request failed
pub returns-in-Ok-Some-clause-asks : goal.returns-in-Ok-Some-clause-asks
returns-in-Ok-Some-clause-asks g c =
    let made = consumer_made _ c.new.result _ _ c.new.ensures c.in_ok-new.was c.new-consumer.ensures in
    start_ends AllocError _ _ _ _ _ _ _ c.in-Ok-Some.end made (rw c.in-Ok-Some.field-0-is at c.in-Ok-Some.ensures.starts)

pub loop-init : goal.loop-init
loop-init g c =
    let made = consumer_made _ c.new.result _ _ c.new.ensures c.in_ok-new.was c.new-consumer.ensures in
    let starts = rw c.in-Ok-None.field-0-is at c.in-Ok-None.ensures.starts in
    ([], begins_following _ _ _ _ _ _ _ c.requires.some c.requires.fresh made starts.0 starts.1)

pub loop-preserved : goal.loop-preserved
loop-preserved g c =
    let more = (rw c.in-Ok-None-follow_next.field-0-is at c.in-Ok-None-follow_next.ensures.follows) _ _ _ _ c.loop.invariant.0 c.loop.invariant.1 in
    (_, more.1)

pub returns-in-Ok-Some-follow_next-clause-asks : goal.returns-in-Ok-Some-follow_next-clause-asks
returns-in-Ok-Some-follow_next-clause-asks g c =
    let ends = (rw c.in-Ok-Some-follow_next.field-0-is at c.in-Ok-Some-follow_next.ensures.follows) _ _ _ _ c.loop.invariant.0 c.loop.invariant.1 in
    follows_to_end _ _ _ _ c.loop.invariant.0 _ _ _ _ _ _ _ c.loop.invariant.1 ends

-- where memory ran out

pub returns-in_err-new-clause-in_part : goal.returns-in_err-new-clause-in_part
returns-in_err-new-clause-in_part g c = holds_anyway c.from_residual.result (inl (refl, (refl, refl), refl))

pub returns-in-Err-clause-in_part : goal.returns-in-Err-clause-in_part
returns-in-Err-clause-in_part g c = inl (c.in-Err.ensures.unwritten.0, c.in-Err.ensures.unwritten.1, refl)

pub returns-in-Err-follow_next-clause-in_part : goal.returns-in-Err-follow_next-clause-in_part
returns-in-Err-follow_next-clause-in_part g c =
    let stops = c.in-Err-follow_next.ensures.in_part _ _ _ _ c.loop.invariant.0 c.loop.invariant.1 in
    follows_in_part _ _ _ _ c.loop.invariant.0 _ _ _ _ _ _ c.loop.invariant.1 stops.0 stops.1 stops.2
