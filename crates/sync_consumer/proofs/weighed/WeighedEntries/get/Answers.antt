use Rattle.std.proofs.Common.{ap, ◌∙◌}
use Rattle.entry_tree.specs.State.{entry_at}
use Rattle.sync_consumer.proofs.KeptPuts.{entry_in, put_by_key}
use Rattle.sync_consumer.proofs.weighed.WeighedEntries.get.Goals as goal

pub returns-in-Some : goal.returns-in-Some
returns-in-Some c =
    c.entry.ensures ∙ ap entry_in c.in-Some.ensures
    ∙ put_by_key c.self.inside.puts c.args.uuid c.self.inside.weight c.self.invariant ∙ ap (λ es. entry_at es c.args.uuid) c.self.view_is

pub returns-in-None : goal.returns-in-None
returns-in-None c =
    ap entry_in c.in-None.ensures
    ∙ put_by_key c.self.inside.puts c.args.uuid c.self.inside.weight c.self.invariant ∙ ap (λ es. entry_at es c.args.uuid) c.self.view_is
