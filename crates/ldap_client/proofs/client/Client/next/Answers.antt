use Rattle.std.proofs.Common.{Err, refl, ap}
use Rattle.ldap_client.proofs.Waiting.{gave_fault, gave_message, never, none_by, same_fault, waiting_none, waiting_on}
use Rattle.ldap_client.proofs.client.Client.next.Goals as goal

pub returns-in-Some-clause-again : goal.returns-in-Some-clause-again
returns-in-Some-clause-again g c fault is = (ap (λ f. Err f) (same_fault _ _ _ c.in-Some.is is), refl)

pub returns-in-Some-clause-gives : goal.returns-in-Some-clause-gives
returns-in-Some-clause-gives g c live = absurd (never _ _ live c.in-Some.is)

pub loop-init : goal.loop-init
loop-init g c = waiting_none _ (none_by _ c.in_default.not-Some)

pub loop-preserved : goal.loop-preserved
loop-preserved g c = waiting_on _ _ _ c.loop.invariant (rw c.in-Ok-None.field-0-is at c.in-Ok-None.ensures)

pub returns-in-Ok-Some-clause-again : goal.returns-in-Ok-Some-clause-again
returns-in-Ok-Some-clause-again g c fault is = absurd (c.in_default.not-Some fault is)

pub returns-in-Ok-Some-clause-gives : goal.returns-in-Ok-Some-clause-gives
returns-in-Ok-Some-clause-gives g c live = gave_message _ _ _ c.in-Ok-Some.message c.loop.invariant (rw c.in-Ok-Some.field-0-is at c.in-Ok-Some.ensures)

pub returns-in-Err-clause-again : goal.returns-in-Err-clause-again
returns-in-Err-clause-again g c fault is = absurd (c.in_default.not-Some fault is)

pub returns-in-Err-clause-gives : goal.returns-in-Err-clause-gives
returns-in-Err-clause-gives g c live = gave_fault _ _ _ c.in-Err.fault c.loop.invariant c.in-Err.ensures
