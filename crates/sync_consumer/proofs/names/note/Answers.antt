-- The names with that of the entry.
use Rattle.dn_names.specs.Paths.{path_key}
use Rattle.sync_consumer.proofs.Noting.{free_is, sets_inserted}
use Rattle.sync_consumer.proofs.names.note.Goals as goal

pub returns-clause-free : goal.returns-clause-free
returns-clause-free c =
    free_is c.get.result c.is_none-is_free.result c.args.names.now c.path.result.now (path_key c.args.entry.now.dn) c.is_none-is_free.ensures c.get.ensures c.path.ensures.value

pub returns-clause-noted : goal.returns-clause-noted
returns-clause-noted c =
    sets_inserted c.args.names.now c.insert.new.self c.in_ok-path_key.field-0 (path_key c.args.entry.now.dn) c.args.entry.now.uuid c.in_ok-path_key.ensures c.in_ok-insert.ensures.ok
