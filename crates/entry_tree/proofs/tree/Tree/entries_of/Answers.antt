-- One more identity.
use Rattle.std.proofs.Common.{◌∙◌, ◌++◌, [], take, ap, sym}
use Rattle.std.specs.Option.{option_copied}
use Rattle.std.specs.List.{cons_option, filter_map}
use Rattle.entry_writes.specs.State.{entry_at}
use Rattle.entry_tree.proofs.Taking.{taken_more}
use Rattle.entry_tree.proofs.tree.Tree.entries_of.Goals as goal

pub loop-uuid-preserved : goal.loop-uuid-preserved
loop-uuid-preserved c =
    let es = c.args.self.now in
    let us = c.args.uuids.now in
    let i = c.loop-uuid.uuid-index in
    let so_far = filter_map (entry_at es) (take i us) in
    c.in_ok-push_found.ensures
    ∙ ap (λ xs. xs ++ cons_option (option_copied c.get.result) []) c.loop-uuid.invariant
    ∙ ap (λ found. so_far ++ cons_option found []) c.get.ensures.value
    ∙ sym (taken_more es us i c.loop-uuid-test.true)
