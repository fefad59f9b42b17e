use Rattle.std.proofs.Common.{rules}
use Rattle.std.specs.Vec.Iter.{into_iter_items}
use Rattle.sync_io.specs.FaultySource.{Plays, with_gift}
use Rattle.sync_io.specs.declared.source.Piece.TheVariants.{Got}
use Rattle.sync_io.proofs.Scripts.{Plays-GivesNext}
use Rattle.sync_io.proofs.faulty_source.FaultySourceSource.read.Goals as goal

pub returns-then-count-gt0-clause-bytes : goal.returns-then-count-gt0-clause-bytes
returns-then-count-gt0-clause-bytes c =
    let step : Plays c.args.self.now.steps (with_gift c.fill-count.new.self (into_iter_items c.self.inside.steps)) (Got c.fill-count.result) c.fill-count.new.buffer = search rules in
    Plays-GivesNext _ _ _ _ step

pub returns-in-Some-Give-clause-bytes : goal.returns-in-Some-Give-clause-bytes
returns-in-Some-Give-clause-bytes c =
    let step : Plays c.args.self.now.steps (with_gift c.fill.new.self (into_iter_items c.next.new.self)) (Got c.fill.result) c.fill.new.buffer = search rules in
    Plays-GivesNext _ _ _ _ step
