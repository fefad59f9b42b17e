-- It is the preview, with what is kept after it.
use Rattle.std.proofs.Common.{◌∙◌, ap, sym, subst}
use Rattle.entry_tree.specs.Touched.{with_changes}
use Rattle.directory_writes.specs.Directory.{IsNext}
use Rattle.directory_writes.specs.Standing.{StandingState}
use Rattle.directory_writes.proofs.standing.Standing.ready.Goals as goal

pub with_changes-requires : goal.with_changes-requires
with_changes-requires c = (subst (λ (s : StandingState). IsNext s c.args.op.now c.args.preview) (sym c.self.view_is) c.requires).fit

pub after-requires-clause-entries : goal.after-requires-clause-entries
after-requires-clause-entries c = c.in_ok-tree.ensures ∙ ap (λ (s : StandingState). with_changes s.entries c.args.preview.touched) c.self.view_is

pub after-requires-clause-before : goal.after-requires-clause-before
after-requires-clause-before c = c.in_ok-numbers.ensures ∙ ap (λ (s : StandingState). s.numbers) c.self.view_is

pub returns-clause-after : goal.returns-clause-after
returns-clause-after c = c.in_ok-after.ensures
