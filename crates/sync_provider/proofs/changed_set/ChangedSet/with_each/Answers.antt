-- One message more.
use Rattle.std.proofs.Common.{◌∙◌, [], ◌∷◌, ◌++◌, take, ap, sym}
use Rattle.std.specs.BTreeSet.{insert_key}
use Rattle.std.specs.List.{flat_map}
use Rattle.std.specs.Ordering.{nat_cmp}
use Rattle.std.proofs.lemmas.List.{take_more}
use Rattle.entry_tree.specs.Touched.{joined}
use Rattle.sync_model.specs.Incremental.{about}
use Rattle.sync_model.specs.Message.{SyncMessage}
use Rattle.sync_provider.proofs.KeptChanges.{about_more}
use Rattle.sync_provider.proofs.changed_set.ChangedSet.with_each.Goals as goal

pub loop-message-preserved : goal.loop-message-preserved
loop-message-preserved c =
    let i = c.loop-message.message-index in
    let messages = c.args.messages.now in
    let message = c.message-item.result in
    let was = c.args.self.now in
    c.in_ok-insert.ensures
    ∙ ap (λ set. insert_key nat_cmp set c.uuid.result) c.loop-message.invariant
    ∙ sym (about_more was (take i messages) message c.uuid.result c.uuid.ensures)
    ∙ ap (λ (one : SyncMessage). joined was (flat_map about (take i messages ++ one ∷ []))) c.message-item.is
    ∙ ap (λ more. joined was (flat_map about more)) (sym (take_more messages i message c.loop-message-test.true))
