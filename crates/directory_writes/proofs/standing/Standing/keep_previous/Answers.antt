-- What is left leads to what is kept after the write.
use Rattle.std.proofs.Common.{◌∙◌, ap, sym, subst}
use Rattle.directory_writes.specs.Standing.{StandingState, LeadsTo}
use Rattle.directory_writes.specs.Touches.{renewed}
use Rattle.directory_writes.proofs.standing.Standing.keep_previous.Goals as goal

pub invariant_of-self : goal.invariant_of-self
invariant_of-self c = (
  c.self.invariant.0,
  c.if_few.ensures c.self.inside.tree c.self.inside.numbers (
    subst (λ (s : StandingState). LeadsTo c.was.inside.tree c.args.changes s.entries) (sym c.self.view_is)
        (subst (λ (s : StandingState). LeadsTo s.entries c.args.changes c.args.self.now.entries) (sym c.was.view_is) c.requires.leads),
    (λ i. renewed c.args.commits (c.self.view_is i).count (c.was.view_is i).numbers c.args.changes)
        ∙ c.requires.numbers ∙ sym (ap (λ (s : StandingState). s.numbers) c.self.view_is),
  ),
)
