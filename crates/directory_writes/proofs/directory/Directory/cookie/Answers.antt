-- The last CSN that is kept is that of the last write.
use Rattle.std.proofs.Common.{◌∙◌, ap}
use Rattle.directory_writes.specs.Directory.{DirectoryWithRoom, cookie_at, last_csn_of}
use Rattle.directory_writes.proofs.directory.Directory.cookie.Goals as goal

pub returns-clause-value : goal.returns-clause-value
returns-clause-value c =
    let was = c.self.inside in
    ap (cookie_at was.sid was.history) (c.last.ensures ∙ c.self.invariant.standing.stamped)
    ∙ ap (λ (v : DirectoryWithRoom). cookie_at v.state.sid v.state.history (last_csn_of v.state)) c.self.view_is
