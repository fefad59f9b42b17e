-- What is left of what was kept before the last write leads to what is kept after it.
use Rattle.std.proofs.Common.{◌∙◌, sym, subst}
use Rattle.std.specs.Prelude.{Option}
use Rattle.directory_writes.specs.Standing.{IsPrevious}
use Rattle.directory_writes.specs.declared.previous.Previous.{Previous}
use Rattle.directory_writes.proofs.standing.Standing.spare.Goals as goal

pub caught_up-requires : goal.caught_up-requires
caught_up-requires c =
    (subst (λ (previous : Option Previous). IsPrevious previous c.self.inside.tree c.self.inside.numbers) (sym c.replace-previous.ensures.value ∙ c.in-Some.is) c.self.invariant.1).0.fit
