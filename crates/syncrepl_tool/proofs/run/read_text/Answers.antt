use Rattle.std.proofs.KnownBytes.{Consumes-kept, Consumes-trans}
use Rattle.syncrepl_tool.proofs.run.read_text.Goals as goal

-- what was taken

pub returns-in-End-clause-taken : goal.returns-in-End-clause-taken
returns-in-End-clause-taken g c = (c.loop-buffer.text.items, Consumes-kept _ _ _ _ c.loop-buffer.invariant.left c.in-End.ensures.bytes)

pub returns-in-Failed-clause-taken : goal.returns-in-Failed-clause-taken
returns-in-Failed-clause-taken g c = (c.loop-buffer.text.items, Consumes-kept _ _ _ _ c.loop-buffer.invariant.left c.in-Failed.ensures.bytes)

pub returns-in_err-extend_from_slice-in-Got-clause-taken : goal.returns-in_err-extend_from_slice-in-Got-clause-taken
returns-in_err-extend_from_slice-in-Got-clause-taken g c = (_, Consumes-trans _ _ _ _ _ c.loop-buffer.invariant.left c.in-Got.ensures.bytes)

pub returns-clause-taken : goal.returns-clause-taken
returns-clause-taken g c = (c.loop-buffer.text.items, c.loop-buffer.invariant.left)
