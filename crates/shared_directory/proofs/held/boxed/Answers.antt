-- The provider that comes back where memory runs out.
use Rattle.std.proofs.Common.{ap, ◌∙◌}
use Rattle.shared_directory.proofs.held.boxed.Goals as goal

pub returns-in-Err-clause-err : goal.returns-in-Err-clause-err
returns-in-Err-clause-err c =
    c.into_provider.ensures ∙ ap (λ d. d.provider) (c.in-Err.ensures.value_returned ∙ c.new-now.ensures)
