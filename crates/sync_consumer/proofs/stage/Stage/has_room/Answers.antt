-- The load with the entry in place of another.
use Rattle.std.proofs.Common.{◌∙◌}
use Rattle.std.proofs.lemmas.Bool.{le-ltb}
use Rattle.entry_tree.specs.State.{most_entries}
use Rattle.sync_consumer.proofs.Rooms.{room_by_weight, no_room}
use Rattle.sync_consumer.proofs.stage.Stage.has_room.Goals as goal

pub returns-then-load-lt-MOST_ENTRIES : goal.returns-then-load-lt-MOST_ENTRIES
returns-then-load-lt-MOST_ENTRIES c =
    room_by_weight c.args.self.now c.args.entry.now c.load_without-load.result.count c.load_without-load.result.weight c.load_without-load.ensures.ordered c.load_without-load.ensures.count c.load_without-load.ensures.weight
    c.if-load-lt-MOST_ENTRIES.true c.weight.result c.saturating_add.result c.weight.ensures c.saturating_add.ensures

pub returns-else-load-lt-MOST_ENTRIES : goal.returns-else-load-lt-MOST_ENTRIES
returns-else-load-lt-MOST_ENTRIES c =
    le-ltb c.load_without-load.result.count most_entries c.if-load-lt-MOST_ENTRIES.false
    ∙ no_room c.args.self.now c.args.entry.now c.load_without-load.result.count c.load_without-load.result.weight c.load_without-load.ensures.ordered c.load_without-load.ensures.count c.load_without-load.ensures.weight
    c.if-load-lt-MOST_ENTRIES.false
