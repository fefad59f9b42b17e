use Rattle.std.proofs.Common.{length, sym, ap, ◌∙◌, subst}
use Rattle.turn_cell.specs.Passes.{view_of}
use Rattle.shared_directory.specs.Passes.{port_of, view_or, IsUpToDate}
use Rattle.shared_directory.proofs.Passing.{seen_journal}
use Rattle.shared_directory.proofs.desk.journal_seen.Goals as goal

pub returns : goal.returns
returns g c =
    c.seen.ensures
    ∙ seen_journal (view_of c.in-Some.pass) (subst (λ o. IsUpToDate (view_or o)) c.in-Some.is c.args.desk.now.up_to_date)
    ∙ ap (λ o. length (port_of (view_or o)).journal) (sym c.in-Some.is)
