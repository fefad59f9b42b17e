-- A directory as it is made, and the provider that comes back where memory runs out.
use Rattle.std.proofs.Common.{ap, ◌∙◌}
use Rattle.turn_cell.specs.Passes.{cell_id}
use Rattle.shared_directory.proofs.First.{none_before, passes_first}
use Rattle.shared_directory.proofs.directory.SharedDirectory.new.Goals as goal

pub new-requires-2-clause-before : goal.new-requires-2-clause-before
new-requires-2-clause-before c = none_before c.args.provider c.args.seats c.in-Ok.held c.in-Ok.ensures.ok

pub returns-in-Ok-new-clause-count : goal.returns-in-Ok-new-clause-count
returns-in-Ok-new-clause-count c = (c.in-Ok-new.ensures.cell.0, c.in-Ok-new.ensures.passes.1)

pub returns-in-Ok-new-clause-opened : goal.returns-in-Ok-new-clause-opened
returns-in-Ok-new-clause-opened c = c.in-Ok-new.ensures.cell.1 ∙ c.in-Ok.ensures.ok

pub returns-in-Ok-new-clause-passes : goal.returns-in-Ok-new-clause-passes
returns-in-Ok-new-clause-passes c =
    let made = c.in-Ok-new.ensures.passes in
    passes_first c.args.provider c.args.seats c.in-Ok.held c.in-Ok.ensures.ok (cell_id c.in-Ok-new.cell) c.in-Ok-new.passes.items made.1 made.0

pub returns-in-Err-new-clause-err : goal.returns-in-Err-new-clause-err
returns-in-Err-new-clause-err c =
    c.into_provider.ensures.provider ∙ ap (λ h. h.now.provider) (c.in-Err-new.ensures.err ∙ c.in-Ok.ensures.ok)
