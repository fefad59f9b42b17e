use Rattle.std.proofs.Common.{[], ◌∷◌, sym, subst}
use Rattle.turn_cell.specs.Journals.{Every}
use Rattle.turn_cell.specs.Passes.{cell_id}
use Rattle.turn_cell.proofs.Each.{every-append}
use Rattle.shared_directory.specs.Passes.{IsPassOf}
use Rattle.desk_tests.proofs.passing.put_back.Goals as goal

pub returns : goal.returns
returns c =
    let cell = cell_id c.args.directory.now.cell in
    subst (Every (λ pass. IsPassOf cell pass)) (sym c.in-Ok.ensures.items)
    (every-append (λ pass. IsPassOf cell pass) c.args.passes.now.items (c.args.pass ∷ []) c.requires.passes (c.requires.pass, tt))
