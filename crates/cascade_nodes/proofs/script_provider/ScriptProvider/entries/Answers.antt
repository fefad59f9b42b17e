-- The entries of the provider's tree.
use Rattle.std.proofs.Common.{ap, ◌∙◌}
use Rattle.directory_writes.specs.Directory.{entries_of}
use Rattle.sync_provider.specs.Machine.{ProviderState}
use Rattle.cascade_nodes.proofs.script_provider.ScriptProvider.entries.Goals as goal

pub returns : goal.returns
returns c = rw (c.tree.ensures ∙ ap (λ (state : ProviderState). entries_of state.directory) c.self.view_is) at c.entries.ensures
