use Rattle.sync_drill.proofs.taking.message_of.Goals as goal

pub returns-in-Ok-Some : goal.returns-in-Ok-Some
returns-in-Ok-Some c = (_, rw c.in-Ok-Some.field-0-is at c.in-Ok-Some.ensures.exact)
