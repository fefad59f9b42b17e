use Rattle.std.proofs.Common.{sym}
use Rattle.std.proofs.lemmas.Bool.{false≢true}
use Rattle.sync_drill.proofs.following.Following.has_failed.Goals as goal

pub returns-then-self : goal.returns-then-self
returns-then-self g c = λ fine. absurd (false≢true (sym fine))

pub returns : goal.returns
returns g c = λ fine. (c.if-self.false, fine)
