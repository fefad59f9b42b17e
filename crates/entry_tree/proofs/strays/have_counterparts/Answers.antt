-- The attributes of the entries are those of their lists.
use Rattle.std.proofs.Common.{◌∙◌}
use Rattle.entry_tree.specs.Pinned.{are_counterparts}
use Rattle.entry_tree.proofs.strays.have_counterparts.Goals as goal

pub returns : goal.returns
returns c =
    c.are_counterparts.ensures
    ∙ (λ i. are_counterparts (c.own_pairs-own.ensures i) (c.list-attributes.ensures.value i) (c.own_pairs-other.ensures i) (c.list-others.ensures.value i))
