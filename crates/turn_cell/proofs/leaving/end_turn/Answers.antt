use Rattle.std.proofs.Common.{◌≡◌, [], ◌∷◌, map, Some, ap, ◌∙◌, arith}
use Rattle.atomic_table.specs.Table.{rest}
use Rattle.turn_cell.specs.Rule.{ticket_of, in_turn, idle}
use Rattle.turn_cell.specs.Steps.{updated, counted}
use Rattle.turn_cell.proofs.Counting.{counts}
use Rattle.turn_cell.proofs.Raise.{raises}
use Rattle.turn_cell.proofs.leaving.end_turn.Goals as goal

pub fetch_add-requires : goal.fetch_add-requires
fetch_add-requires g c =
    let J = g.D.Journalled.journal in
    let S = g.D.Journalled.share in
    let turn = c.requires.turn in
    let view = c.args.seat.now.me.0 in
    let back : c.exchange-old.new.seat.me ≡ (in_turn view.passes (ticket_of view.ticket) turn.found, (0, Some c.args.value) ∷ []) =
    c.exchange-old.ensures.3 ∙ ap (λ m. (m.0, (0, Some c.args.value) ∷ rest m.1)) turn.in_turn_with in (
      c.exchange-old.ensures.0 ∙ c.requires.table.0,
      omega (arith, c.requires.table.1),
      rw back (counts J S _ _ _ _ view.passes (ticket_of view.ticket) turn.number c.args.added turn.found c.args.value turn.grows turn.own turn.few turn.more),
    )

pub fetch_add-requires-2 : goal.fetch_add-requires-2
fetch_add-requires-2 g c =
    let J = g.D.Journalled.journal in
    let S = g.D.Journalled.share in
    let turn = c.requires.turn in
    let view = c.args.seat.now.me.0 in
    let back : c.exchange-old.new.seat.me ≡ (in_turn view.passes (ticket_of view.ticket) turn.found, (0, Some c.args.value) ∷ []) =
    c.exchange-old.ensures.3 ∙ ap (λ m. (m.0, (0, Some c.args.value) ∷ rest m.1)) turn.in_turn_with in
    let passes = map (updated J S c.args.value) view.passes in
    let after : c.fetch_add.new.seat.me ≡ (in_turn passes (ticket_of view.ticket) c.args.value, (0, Some c.args.value) ∷ []) =
    c.fetch_add.ensures.2 c.args.value (ap (λ m. m.1) back) ∙ ap (λ m. (counted J S c.args.value m.0, m.1)) back in (
      c.fetch_add.ensures.0 ∙ (c.exchange-old.ensures.0 ∙ c.requires.table.0),
      omega (arith, c.requires.table.1),
      rw after (raises J S _ _ _ _ passes (ticket_of view.ticket) c.args.value),
    )

pub returns-clause-seat : goal.returns-clause-seat
returns-clause-seat g c =
    let J = g.D.Journalled.journal in
    let S = g.D.Journalled.share in
    let turn = c.requires.turn in
    let view = c.args.seat.now.me.0 in
    let back : c.exchange-old.new.seat.me ≡ (in_turn view.passes (ticket_of view.ticket) turn.found, (0, Some c.args.value) ∷ []) =
    c.exchange-old.ensures.3 ∙ ap (λ m. (m.0, (0, Some c.args.value) ∷ rest m.1)) turn.in_turn_with in
    let after : c.fetch_add.new.seat.me ≡ (in_turn (map (updated J S c.args.value) view.passes) (ticket_of view.ticket) c.args.value, (0, Some c.args.value) ∷ []) =
    c.fetch_add.ensures.2 c.args.value (ap (λ m. m.1) back) ∙ ap (λ m. (counted J S c.args.value m.0, m.1)) back in
    c.fetch_add-2.ensures.2 ∙ ap (λ m. (idle m.0.passes, [])) after
