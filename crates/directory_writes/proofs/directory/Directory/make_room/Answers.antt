-- Room that is made changes nothing that is kept.
use Rattle.std.proofs.Common.{◌≤◌, arith, refl}
use Rattle.std.proofs.lemmas.Result.{on_ok_weaker}
use Rattle.directory_writes.specs.Directory.{DirectoryState}
use Rattle.directory_writes.proofs.Writes.{kept_same}
use Rattle.directory_writes.proofs.directory.Directory.make_room.Goals as goal

pub invariant_of-self : goal.invariant_of-self
invariant_of-self c =
    let was = c.self.inside in
    let d : DirectoryState = record { suffix = was.suffix; sid = was.sid; history = was.history; writes = was.accepted.items; log = was.log.log } in
    kept_same d was.standing was.log.log c.reserve.new.self.items c.self.invariant c.reserve.ensures.items refl

pub invariant_of-self-2 : goal.invariant_of-self-2
invariant_of-self-2 c =
    let was = c.self.inside in
    let d : DirectoryState = record { suffix = was.suffix; sid = was.sid; history = was.history; writes = was.accepted.items; log = was.log.log } in
    kept_same d was.standing c.reserve-2.new.self.log c.reserve.new.self.items c.self.invariant c.reserve.ensures.items c.reserve-2.ensures.log

pub returns-clause-room : goal.returns-clause-room
returns-clause-room c =
    on_ok_weaker c.reserve-2.result (λ (spare : c.args.notes ≤ c.reserve-2.new.self.spare). omega (arith, c.in_ok-reserve.ensures.ok)) c.reserve-2.ensures.room
