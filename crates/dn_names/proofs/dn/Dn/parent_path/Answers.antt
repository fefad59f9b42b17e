-- The parent of a name that has a path has one.
use Rattle.dn_names.proofs.PathKeys.{HasPath-drop}
use Rattle.dn_names.proofs.dn.Dn.parent_path.Goals as goal

pub returns-in-Some-clause-sound : goal.returns-in-Some-clause-sound
returns-in-Some-clause-sound c = HasPath-drop 1 c.args.self.now (rw c.self.view_is at c.self.invariant)

pub returns-in-None-clause-sound : goal.returns-in-None-clause-sound
returns-in-None-clause-sound c = HasPath-drop 1 c.args.self.now (rw c.self.view_is at c.self.invariant)
