-- The entries that are kept are those after all writes.
use Rattle.std.proofs.Common.{◌∙◌, ap}
use Rattle.directory_writes.specs.Directory.{DirectoryWithRoom, entries_of}
use Rattle.directory_writes.proofs.directory.Directory.tree.Goals as goal

pub returns : goal.returns
returns c = c.tree.ensures ∙ c.self.invariant.standing.made ∙ ap (λ (v : DirectoryWithRoom). entries_of v.state) c.self.view_is
