use Rattle.std.proofs.Common.{arith, inl, refl}
use Rattle.std.specs.declared.alloc.AllocError.{AllocError}
use Rattle.ldap_search.proofs.Storing.{stops_storing, stores_last, stores_more, stores_torn}
use Rattle.sync_io.proofs.Results.{holds_anyway}
use Rattle.ldap_search.proofs.following.print_stored.Goals as goal

-- more are wanted
pub returns-then-wanted-gt1-clause-stores : goal.returns-then-wanted-gt1-clause-stores
returns-then-wanted-gt1-clause-stores g c =
    stores_more AllocError c.args.consumer.now.copy _ _ _ _ _ _ (omega arith) (omega arith) (rw (c.as_bytes.ensures.value, c.in_ok-line.ensures.line) at c.print.ensures)

-- it was the last, and the session was ended
pub returns-in-Done-clause-stores : goal.returns-in-Done-clause-stores
returns-in-Done-clause-stores g c =
    stores_last c.args.consumer.now.copy _ _ _ _ _ _ _ (omega arith) (rw (c.as_bytes-2.ensures.value, c.in_ok-line.ensures.line) at c.in-Done.ensures) c.unbind.ensures.unbinds

-- the output failed at it
pub returns-clause-stores : goal.returns-clause-stores
returns-clause-stores g c =
    stores_torn AllocError c.args.consumer.now.copy _ _ _ _ _ c.in_default.not-Done (rw (c.as_bytes-2.ensures.value, c.in_ok-line.ensures.line) at c.print_last.ensures)

-- where memory ran out

pub returns-in_err-line-clause-in_part : goal.returns-in_err-line-clause-in_part
returns-in_err-line-clause-in_part g c = holds_anyway c.from_residual.result (inl (refl, refl))

pub returns-in-Done-clause-in_part : goal.returns-in-Done-clause-in_part
returns-in-Done-clause-in_part g c =
    stops_storing c.args.consumer.now.copy _ _ _ _ _ c.unbind.result (omega arith) (rw (c.as_bytes-2.ensures.value, c.in_ok-line.ensures.line) at c.in-Done.ensures) c.unbind.ensures.unwritten
