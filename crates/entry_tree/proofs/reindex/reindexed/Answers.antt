-- The names that go are gone before the others come.
use Rattle.std.proofs.Common.{◌∙◌, ◌||◌, ap}
use Rattle.entry_tree.specs.NameIndex.{comes}
use Rattle.entry_tree.proofs.reindex.reindexed.Goals as goal

pub returns-clause-exact : goal.returns-clause-exact
returns-clause-exact c = λ path uuid.
    c.in_ok-note_each.ensures.noted path uuid
    ∙ ap (λ b. comes path uuid c.args.changes.now || b) (c.in_ok-forget_each.ensures.forgotten path uuid)
