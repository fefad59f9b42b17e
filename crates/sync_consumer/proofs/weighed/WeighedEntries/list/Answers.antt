use Rattle.std.proofs.Common.{map, ap, ◌∙◌, sym}
use Rattle.std.proofs.lemmas.Result.{IfOk-weaker}
use Rattle.entry_tree.specs.State.{ascends}
use Rattle.sync_model.specs.Copy.{puts_of}
use Rattle.sync_consumer.specs.Staging.{change_of, changes_in}
use Rattle.sync_consumer.proofs.KeptPuts.{list_puts}
use Rattle.sync_consumer.proofs.weighed.WeighedEntries.list.Goals as goal

pub returns-clause-value : goal.returns-clause-value
returns-clause-value c =
    IfOk-weaker c.entries_of.result _ _
    (λ list is. is ∙ ap (λ changes. puts_of (changes_in changes)) c.deref.ensures.value
    ∙ ap (λ changes. puts_of (map change_of changes)) c.in_ok-changes.ensures ∙ list_puts c.self.inside.puts ∙ c.self.view_is)
    c.entries_of.ensures

pub returns-clause-ascends : goal.returns-clause-ascends
returns-clause-ascends c = ap ascends (sym c.self.view_is) ∙ c.self.invariant.weighed.ordered
