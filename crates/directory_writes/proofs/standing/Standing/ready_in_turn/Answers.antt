-- The entries before the last write are brought up to date, and then changed.
use Rattle.std.proofs.Common.{List, ◌∙◌, ap, sym, subst}
use Rattle.entry_tree.specs.Touched.{with_changes, CanBeMade}
use Rattle.entry_tree.specs.declared.entry.Entry.{Entry}
use Rattle.directory_writes.specs.Directory.{IsNext}
use Rattle.directory_writes.specs.Standing.{StandingState, standing_after}
use Rattle.directory_writes.proofs.standing.Standing.ready_in_turn.Goals as goal

pub changed_by-requires : goal.changed_by-requires
changed_by-requires c = subst (λ (es : List Entry). CanBeMade es c.args.preview.touched) (sym c.in_ok-spare.ensures.entries) c.requires.fit

pub after-requires-clause-next : goal.after-requires-clause-next
after-requires-clause-next c = subst (λ (s : StandingState). IsNext s c.args.op.now c.args.preview) (sym c.spare.ensures.same) c.requires

pub after-requires-clause-entries : goal.after-requires-clause-entries
after-requires-clause-entries c =
    c.in_ok-tree.ensures
    ∙ ap (λ (es : List Entry). with_changes es c.args.preview.touched) (c.in_ok-spare.ensures.entries ∙ ap (λ (s : StandingState). s.entries) (sym c.spare.ensures.same))

pub after-requires-clause-before : goal.after-requires-clause-before
after-requires-clause-before c = c.in_ok-spare.ensures.numbers ∙ ap (λ (s : StandingState). s.numbers) (sym c.spare.ensures.same)

pub returns-clause-after : goal.returns-clause-after
returns-clause-after c = c.in_ok-after.ensures ∙ ap (λ (s : StandingState). standing_after s c.args.op.now c.args.preview) c.spare.ensures.same
