use Rattle.std.proofs.Common.{◌≡◌, [], ◌∷◌, ap, ◌∙◌, subst, arith}
use Rattle.turn_cell.specs.Rule.{HaveSeen, idle}
use Rattle.turn_cell.specs.Passes.{view_of}
use Rattle.turn_cell.proofs.Draw.{draws}
use Rattle.turn_cell.proofs.Placing.{continues}
use Rattle.turn_cell.proofs.cell.TurnCell.enter.Goals as goal

pub fetch_add-ticket-requires : goal.fetch_add-ticket-requires
fetch_add-ticket-requires g c =
    let pass = c.args.pass in
    let same = c.into_parts-seat.ensures.0 in
    let seat : c.into_parts-seat.result.0.me ≡ (idle (view_of pass ∷ []), []) = ap (λ s. s.me) same ∙ pass.idle in (
      ap (λ s. s.table_id) same ∙ c.requires,
      omega (arith, c.args.self.now.sized.0),
      rw seat (draws g.D.Journalled.journal g.D.Journalled.share _ _ _ _ (view_of pass ∷ []) (omega arith)),
    )

pub returns-clause-continues : goal.returns-clause-continues
returns-clause-continues g c =
    let pass = c.args.pass in
    let J = g.D.Journalled.journal in
    let S = g.D.Journalled.share in
    let value = c.await_turn-value.result in
    let seat : c.into_parts-seat.result.0.me ≡ (idle (view_of pass ∷ []), []) =
    ap (λ s. s.me) c.into_parts-seat.ensures.0 ∙ pass.idle in
    let passes : c.fetch_add-ticket.new.seat.me.0.passes ≡ view_of pass ∷ [] =
    ap (λ m. m.0.passes) c.fetch_add-ticket.ensures.2.2 ∙ ap (λ m. m.0.passes) seat in
    let seen = subst (HaveSeen J S value) passes c.await_turn-value.ensures.taken.seen in
    continues (J value) (S value (view_of pass).number) (view_of pass) seen.0
