-- The names without that of the entry.
use Rattle.dn_names.specs.Paths.{path_key}
use Rattle.sync_consumer.proofs.Noting.{sets_removed}
use Rattle.sync_consumer.proofs.names.forget.Goals as goal

pub returns : goal.returns
returns c =
    sets_removed c.args.names.now c.remove.new.self c.path.result.now (path_key c.args.entry.now.dn) c.path.ensures.value c.len.ensures.ordered c.in_ok-remove.ensures.ok
