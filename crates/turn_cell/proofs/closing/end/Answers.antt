use Rattle.std.proofs.Common.{◌≡◌, Some, sym, ap, ◌∙◌, subst}
use mathlib.Core.Option.{some-injective}
use Rattle.turn_cell.specs.Journals.{HasGrown}
use Rattle.turn_cell.specs.Rule.{HaveSeen}
use Rattle.turn_cell.proofs.Ends.{closes}
use Rattle.turn_cell.proofs.closing.end.Goals as goal

pub unreachable-requires : goal.unreachable-requires
unreachable-requires g c =
    let J = g.D.Journalled.journal in
    let key = c.args.table.shared.key in
    let found = closes J g.D.Journalled.share (J key.value.value) key.seats _ _ c.args.seat.id c.args.seat.me.0 c.args.seat.me.0.passes
    (ap (λ m. m.0) c.requires.seat) c.requires.all c.close_with-closed.ensures.values.2 in
    let there : Some found.0 ≡ c.take.result = some-injective (Some found.0) c.take.result (sym found.1 ∙ c.take.ensures.value) in
    c.in_default.not-Some found.0 (sym there)

pub returns-clause-seen : goal.returns-clause-seen
returns-clause-seen g c =
    let J = g.D.Journalled.journal in
    let key = c.args.table.shared.key in
    let passes = c.args.seat.me.0.passes in
    let found = closes J g.D.Journalled.share (J key.value.value) key.seats _ _ c.args.seat.id c.args.seat.me.0 passes
    (ap (λ m. m.0) c.requires.seat) c.requires.all c.close_with-closed.ensures.values.2 in
    let there : Some found.0 ≡ c.take.result = some-injective (Some found.0) c.take.result (sym found.1 ∙ c.take.ensures.value) in
    let is : found.0 ≡ c.in-Some.value = let same : Some found.0 ≡ Some c.in-Some.value = there ∙ c.in-Some.is in cc in
    subst (λ value. HaveSeen J g.D.Journalled.share value passes) is found.2

pub returns-clause-grown : goal.returns-clause-grown
returns-clause-grown g c =
    let J = g.D.Journalled.journal in
    let key = c.args.table.shared.key in
    let found = closes J g.D.Journalled.share (J key.value.value) key.seats _ _ c.args.seat.id c.args.seat.me.0 c.args.seat.me.0.passes
    (ap (λ m. m.0) c.requires.seat) c.requires.all c.close_with-closed.ensures.values.2 in
    let there : Some found.0 ≡ c.take.result = some-injective (Some found.0) c.take.result (sym found.1 ∙ c.take.ensures.value) in
    let is : found.0 ≡ c.in-Some.value = let same : Some found.0 ≡ Some c.in-Some.value = there ∙ c.in-Some.is in cc in
    subst (λ value. HasGrown key.seats (J key.value.value) (J value)) is found.3
