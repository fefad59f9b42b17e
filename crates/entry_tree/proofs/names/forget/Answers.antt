-- The others are written.
use Rattle.std.proofs.lemmas.Result.{on_ok_weaker}
use Rattle.entry_tree.proofs.NameKeys.{sets_forgotten}
use Rattle.entry_tree.proofs.names.forget.Goals as goal

pub returns-clause-forgotten : goal.returns-clause-forgotten
returns-clause-forgotten c =
    on_ok_weaker c.write.result
    (λ writes. sets_forgotten c.args.names.now c.write.new.names c.args.path.now c.args.uuid c.in_ok-uuids.uuids.items c.in_ok-uuids.ensures writes)
    c.write.ensures.written
