use Rattle.std.proofs.Common.{◌≡◌, [], ◌∷◌, ◌++◌, map, sym, ap, ◌∙◌, subst}
use Rattle.turn_cell.specs.Journals.{Every}
use Rattle.turn_cell.specs.Rule.{HasSeen, HaveSeen, idle}
use Rattle.turn_cell.specs.Passes.{Continues, view_of}
use Rattle.turn_cell.proofs.Each.{every-append, every-map, every-weaker}
use Rattle.turn_cell.proofs.Placing.{continues}
use Rattle.turn_cell.proofs.cell.TurnCell.close.Goals as goal

pub returns-clause-passes : goal.returns-clause-passes
returns-clause-passes g c =
    let J = g.D.Journalled.journal in
    let S = g.D.Journalled.share in
    let value = c.end.result in
    let last = c.in-Some.pass in
    let others = c.pop.new.self.items in
    let seat : c.into_parts-seat.result.0.me ≡ (idle (view_of last ∷ []), []) =
    ap (λ s. s.me) c.into_parts-seat.ensures.0 ∙ last.idle in
    let passes : c.gather.new.seat.me.0.passes ≡ view_of last ∷ map view_of others =
    ap (λ m. m.0.passes) c.gather.ensures.seat ∙ ap (λ m. m.0.passes ++ map view_of others) seat in
    let seen = subst (HaveSeen J S value) passes c.end.ensures.seen in
    let theirs = every-map (λ pass. HasSeen (J value) (S value pass.number) pass) view_of others seen.1 in
    let all = every-append (λ pass. HasSeen (J value) (S value (view_of pass).number) (view_of pass)) others (last ∷ [])
    theirs (seen.0, tt) in
    every-weaker
    (λ pass. HasSeen (J value) (S value (view_of pass).number) (view_of pass))
    (λ pass. Continues (J value) (S value (view_of pass).number) (view_of pass)) c.args.passes.items
    (λ pass has. continues (J value) (S value (view_of pass).number) (view_of pass) has)
    (subst (Every (λ pass. HasSeen (J value) (S value (view_of pass).number) (view_of pass))) (sym c.in-Some.ensures.items) all)
