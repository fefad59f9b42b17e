-- The first key above the path is longer, where any is.
use Rattle.std.proofs.Common.{nat_eq, ap, sym, subst, ◌∙◌}
use Rattle.std.specs.List.{starts_with}
use Rattle.entry_tree.specs.NameIndex.{IsLonger}
use Rattle.entry_tree.proofs.NameRanges.{longer_next, longer_none}
use Rattle.entry_tree.proofs.names.has_longer.Goals as goal

pub returns-in-Some : goal.returns-in-Some
returns-in-Some c =
    let path = c.args.path.now in
    let starts = c.starts_with.ensures.value ∙ ap (λ text. starts_with nat_eq text path) c.deref.ensures.value in
    subst (IsLonger c.args.names.now path) (sym starts)
    (longer_next c.args.names.now path c.in-Some.next.now c.in-Some.field-0-1.now c.len.ensures.ordered c.requires (sym c.in-Some.ensures))

pub returns-in-None : goal.returns-in-None
returns-in-None c = longer_none c.args.names.now c.args.path.now (sym c.in-None.ensures)
