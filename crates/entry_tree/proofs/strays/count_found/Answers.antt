-- The entry that is there, or nothing.
use Rattle.std.proofs.Common.{◌+◌, ◌∙◌, ap, sym, arith}
use Rattle.std.specs.Prelude.{slice_index}
use Rattle.entry_tree.specs.Pinned.{found_stray}
use Rattle.entry_tree.proofs.strays.count_found.Goals as goal

pub returns-in-Some : goal.returns-in-Some
returns-in-Some c = λ kind low.
    c.count_entry.ensures kind low ∙ ap (λ found. slice_index c.args.strays.now kind + found_stray kind found) (sym c.in-Some.is)

pub returns-in-None : goal.returns-in-None
returns-in-None c = λ kind low. omega (arith, ap (found_stray kind) c.in-None.is)
