-- Nodes that are made anew have the pair; where memory runs out, the old ones stay.
use Rattle.std.proofs.Common.{refl}
use Rattle.shared_map.proofs.in_place.put_anew.Goals as goal

pub returns-in-Ok : goal.returns-in-Ok
returns-in-Ok g c = record { ok = c.in-Ok.ensures.pairs; count = c.in-Ok.ensures.count; err = tt }

pub returns-in-Err : goal.returns-in-Err
returns-in-Err g c = record { ok = λ ascends. tt; count = tt; err = refl }
