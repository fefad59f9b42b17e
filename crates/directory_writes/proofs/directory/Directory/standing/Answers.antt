-- It is that of the directory.
use Rattle.std.proofs.Common.{subst}
use Rattle.directory_writes.specs.Directory.{DirectoryWithRoom, IsKeptBeside}
use Rattle.directory_writes.proofs.directory.Directory.standing.Goals as goal

pub returns : goal.returns
returns c = (subst (λ (v : DirectoryWithRoom). IsKeptBeside v.state c.self.inside.standing) c.self.view_is c.self.invariant).standing
