-- What is found at the identity.
use Rattle.std.proofs.Common.{ap, sym, ◌∙◌}
use Rattle.std.specs.BTreeMap.{is_at}
use Rattle.std.specs.Map.{lookup, values_of}
use Rattle.std.specs.Ordering.{nat_cmp}
use Rattle.entry_writes.specs.State.{ascends, entry_at}
use Rattle.entry_tree.proofs.ByIdentity.{found_by_identity}
use Rattle.entry_tree.proofs.tree.Tree.get.Goals as goal

pub returns-clause-value : goal.returns-clause-value
returns-clause-value c =
    let uuid = c.args.uuid in
    c.get.ensures
    ∙ ap (lookup (is_at (nat_cmp uuid))) c.self.invariant.keyed
    ∙ found_by_identity (values_of c.self.inside.entries) uuid
    ∙ ap (λ es. entry_at es uuid) c.self.view_is

pub returns-clause-ascends : goal.returns-clause-ascends
returns-clause-ascends c = ap ascends (sym c.self.view_is) ∙ c.self.invariant.directory.ascends
