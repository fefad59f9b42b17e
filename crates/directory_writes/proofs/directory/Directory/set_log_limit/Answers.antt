use Rattle.directory_writes.specs.Directory.{DirectoryState}
use Rattle.directory_writes.proofs.Writes.{kept_trimmed}
use Rattle.directory_writes.proofs.directory.Directory.set_log_limit.Goals as goal

pub invariant_of-self : goal.invariant_of-self
invariant_of-self c =
    let was = c.self.inside in
    let d : DirectoryState = record { suffix = was.suffix; sid = was.sid; history = was.history; writes = was.accepted.items; log = was.log.log } in
    kept_trimmed d was.standing c.trim.new.self.log c.args.limit c.self.invariant c.trim.ensures.log
