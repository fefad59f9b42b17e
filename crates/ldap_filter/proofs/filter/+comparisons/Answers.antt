-- Where one list ends, the other ends too, or they differ.
use Rattle.std.proofs.Common.{map, ap, sym, ◌∙◌}
use Rattle.std.proofs.lemmas.List.{at_drop_all}
use Rattle.ldap_filter.specs.Same.{same_trees}
use Rattle.ldap_filter.specs.FilterTree.{tree_of, trees, parts_of}
use Rattle.ldap_filter.proofs.Lists.{same_trees_end}
use Rattle.ldap_filter.proofs.filter.+comparisons.Goals as goal

pub FilterList::same-returns : goal.FilterList::same-returns
FilterList::same-returns t c =
    let others = c.loop-item.others.now in
    let rest = at_drop_all (λ parts. same_trees (trees (map tree_of parts)) (trees (map tree_of others))) c.list-item-items.result.now c.loop-item.item-index c.loop-item-test.false in
    let end = same_trees_end others in
    c.is_empty.ensures ∙ sym end ∙ sym rest ∙ c.loop-item.invariant
    ∙ ap (λ parts. same_trees (trees (map tree_of parts)) (trees (map tree_of c.list-others.result.now))) c.list-item-items.ensures
    ∙ ap (λ parts. same_trees (trees (map tree_of (parts_of c.args.self.now))) (trees (map tree_of parts))) c.list-others.ensures
