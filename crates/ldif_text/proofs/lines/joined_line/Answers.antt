use Rattle.ldif_text.proofs.Joined.{left_nil, left_empty, left_cons}
use Rattle.std.proofs.Common.{◌∙◌, sym}
use Rattle.ldif_text.proofs.lines.joined_line.Goals as goal

pub returns-in-None-clause-line : goal.returns-in-None-clause-line
returns-in-None-clause-line c = left_nil _ _ c.in-None.ensures.line

pub returns-then-is_empty-clause-line : goal.returns-then-is_empty-clause-line
returns-then-is_empty-clause-line c =
    left_empty _ _ c.in-Some.prefix.now _ _ _ c.in-Some.ensures.line c.in-Some.ensures.number c.in_ok-from_slice-in-Some.ensures (sym c.is_empty.ensures ∙ c.if-is_empty.true)

pub returns-in_ok-joined-in-Some-clause-line : goal.returns-in_ok-joined-in-Some-clause-line
returns-in_ok-joined-in-Some-clause-line c =
    left_cons _ _ c.in-Some.prefix.now _ _ _ c.in-Some.ensures.line c.in-Some.ensures.number c.in_ok-from_slice-in-Some.ensures ∙ c.in_ok-joined-in-Some.ensures.line
