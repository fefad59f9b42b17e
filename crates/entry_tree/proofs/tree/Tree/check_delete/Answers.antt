-- A name that no entry has, one with entries below it, and one that can be removed.
use Rattle.std.proofs.Common.{Some, None, cond, ap, ◌∙◌}
use Rattle.ldap_constants.specs.declared.result_codes.TheConstants.{NOT_ALLOWED_ON_NON_LEAF}
use Rattle.entry_tree.proofs.NameKeys.{some_items, no_items}
use Rattle.entry_tree.proofs.Removed.{delete_none, delete_some}
use Rattle.entry_tree.proofs.tree.Tree.check_delete.Goals as goal

pub returns-then-is_empty-clause-fault : goal.returns-then-is_empty-clause-fault
returns-then-is_empty-clause-fault c =
    delete_none c.args.self.now c.args.dn.now c.args.named.now c.requires (no_items c.args.named.now c.is_empty.result c.is_empty.ensures c.if-is_empty.true)

pub returns-then-has_below-clause-fault : goal.returns-then-has_below-clause-fault
returns-then-has_below-clause-fault c =
    delete_some c.args.self.now c.args.dn.now c.args.named.now c.requires c.has_below.result (some_items c.args.named.now c.is_empty.result c.is_empty.ensures c.if-is_empty.false) c.has_below.ensures
    ∙ ap (λ b. cond b (Some NOT_ALLOWED_ON_NON_LEAF) None) c.if-has_below.true

pub returns-clause-ok : goal.returns-clause-ok
returns-clause-ok c =
    delete_some c.args.self.now c.args.dn.now c.args.named.now c.requires c.has_below.result (some_items c.args.named.now c.is_empty.result c.is_empty.ensures c.if-is_empty.false) c.has_below.ensures
    ∙ ap (λ b. cond b (Some NOT_ALLOWED_ON_NON_LEAF) None) c.if-has_below.false
