use Rattle.std.proofs.Common.{Some, refl, ap, ◌∙◌, arith}
use Rattle.turn_cell.specs.Rule.{ticket_of}
use Rattle.turn_cell.specs.Steps.{IsServed}
use Rattle.turn_cell.proofs.Serve.{serves}
use Rattle.turn_cell.proofs.entering.try_take.Goals as goal

pub load-requires : goal.load-requires
load-requires g c =
    let view = c.args.seat.now.me.0 in (
      c.requires.table.0,
      omega (arith, c.requires.table.1),
      rw c.requires.seat (serves g.D.Journalled.journal g.D.Journalled.share _ _ _ _ view.passes (ticket_of view.ticket)),
    )

pub exchange-requires : goal.exchange-requires
exchange-requires g c =
    let view = c.args.seat.now.me.0 in
    let read = c.load.ensures.2 (ticket_of view.ticket) (ap (λ m. m.0.ticket) c.requires.seat) in
    let served : IsServed g.D.Journalled.journal g.D.Journalled.share view.passes (ticket_of view.ticket) c.load.new.seat.me =
    read.0 (c.if-load-ticket.false ∙ c.requires.ticket) in
    (c.load.ensures.0 ∙ c.requires.table.0, (Some served.value, rw served.seat refl))
