use Rattle.std.proofs.Common.{map, ap, sym, ◌∙◌}
use Rattle.std.proofs.lemmas.Result.{IfOk-weaker}
use Rattle.entry_tree.specs.State.{ascends}
use Rattle.sync_model.specs.Copy.{puts_of}
use Rattle.sync_consumer.specs.Staging.{change_of, changes_in, higher}
use Rattle.sync_consumer.proofs.KeptPuts.{puts_above}
use Rattle.sync_consumer.proofs.weighed.WeighedEntries.above.Goals as goal

pub returns-clause-value : goal.returns-clause-value
returns-clause-value c =
    IfOk-weaker c.entries_of.result _ _
    (λ list is. is ∙ ap (λ changes. puts_of (changes_in changes)) c.deref.ensures.value
    ∙ ap (λ changes. puts_of (map change_of changes)) c.in_ok-changes.ensures
    ∙ puts_above c.self.inside.puts c.args.uuid c.self.inside.weight c.self.invariant ∙ ap (higher c.args.uuid) c.self.view_is)
    c.entries_of.ensures

pub returns-clause-ascends : goal.returns-clause-ascends
returns-clause-ascends c = ap ascends (sym c.self.view_is) ∙ c.self.invariant.weighed.ordered
