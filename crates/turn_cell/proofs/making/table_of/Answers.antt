use Rattle.turn_cell.proofs.Ends.{opens}
use Rattle.turn_cell.proofs.making.table_of.Goals as goal

pub new-requires : goal.new-requires
new-requires g c =
    rw (c.count-length.ensures, c.in_ok-slots.ensures.ok, c.of.ensures)
    (opens g.D.Journalled.journal g.D.Journalled.share c.args.seats c.args.value c.requires.few)
