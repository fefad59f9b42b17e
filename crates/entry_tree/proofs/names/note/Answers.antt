-- The identity is written beside the others.
use Rattle.std.proofs.Common.{subst}
use Rattle.std.proofs.lemmas.Result.{on_ok_weaker}
use Rattle.entry_tree.specs.NameIndex.{Writes}
use Rattle.entry_tree.proofs.NameKeys.{sets_noted}
use Rattle.entry_tree.proofs.names.note.Goals as goal

pub returns-clause-noted : goal.returns-clause-noted
returns-clause-noted c =
    let names = c.args.names.now in
    let path = c.args.path.now in
    let uuid = c.args.uuid in
    let others = c.in_ok-uuids.uuids.items in
    on_ok_weaker c.write.result
    (λ writes. sets_noted names c.write.new.names path uuid others c.in_ok-uuids.ensures (subst (Writes names c.write.new.names path) c.in_ok-push.ensures.items writes))
    c.write.ensures.written
