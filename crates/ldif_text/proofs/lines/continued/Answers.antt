-- A line that none continues is whole; one that others continue is put together with them.
use Rattle.std.proofs.Common.{◌∙◌, sym, arith}
use Rattle.ldif_text.proofs.Joined.{onto_more, onto_end, filled_more}
use Rattle.ldif_text.proofs.lines.continued.Goals as goal

pub returns-then-not-continues_at-clause-line : goal.returns-then-not-continues_at-clause-line
returns-then-not-continues_at-clause-line c =
    onto_end c.args.line _ _ (sym c.continues_at.ensures ∙ c.if-not-continues_at.true)

pub loop-rest-preserved : goal.loop-rest-preserved
loop-rest-preserved c =
    let before = c.loop-rest.invariant in
    let longer = c.in_ok-extend_from_slice.ensures.items in
    record {
      joined = before.joined ∙ onto_more _ _ _ _ _ _ c.in-Some.rest.now _ _ before.filled c.in-Some.ensures.line c.in-Some.ensures.number longer;
      filled = filled_more c.loop-rest.whole.items _ c.in-Some.rest.now before.filled longer;
      later = omega (arith, c.in-Some.ensures.later);
      within = c.in-Some.ensures.within;
    }

pub returns-clause-line : goal.returns-clause-line
returns-clause-line c = rw c.into.ensures (c.loop-rest.invariant.joined ∙ onto_end _ _ _ c.in_default.ensures.line)
