-- Those that are found, without the one.
use Rattle.std.proofs.Common.{◌≡◌, ◌∙◌, sym}
use Rattle.entry_tree.proofs.NameKeys.{ids_found, ids_absent}
use Rattle.entry_tree.specs.NameIndex.{ids_at}
use Rattle.entry_tree.proofs.names.others_at.Goals as goal

pub returns-in-Some : goal.returns-in-Some
returns-in-Some c =
    let names = c.args.names.now in
    let path = c.args.path.now in
    let found : c.deref.result.now ≡ ids_at names path = c.deref.ensures.value ∙ ids_found names path c.in-Some.uuids.now c.in-Some.ensures in
    rw found at c.others.ensures

pub returns-in-None : goal.returns-in-None
returns-in-None c =
    let names = c.args.names.now in
    let path = c.args.path.now in
    rw (ids_absent names path (sym c.in-None.ensures)) c.with_capacity.ensures.items
