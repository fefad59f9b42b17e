use Rattle.std.proofs.Common.{[], ◌∷◌, ◌++◌, arith, length, map, ap, refl, ◌∙◌}
use Rattle.std.proofs.lemmas.List.{length-append, length-map, map-append}
use Rattle.ldap_listener.specs.SeatsOfCode.{seat_of, seat_of_pass}
use Rattle.turn_cell.proofs.Each.{every-append}
use Rattle.ldap_listener.proofs.Closing.{as-many, closed, passes-seated}
use Rattle.ldap_listener.proofs.listening.close_all.Goals as goal

-- the passes of the seats, and the one beside them
pub push_reserved-requires : goal.push_reserved-requires
push_reserved-requires g c =
    omega (arith, c.passes_of-passes.result.ok.0, as-many c.passes_of-passes.result.items _ c.passes_of-passes.ensures.passes, length-map c.args.seats.items seat_of, c.passes_of-passes.ensures.capacity, c.requires.room)

-- each of them is a pass of the directory
pub close-requires : goal.close-requires
close-requires g c =
    let passes = c.passes_of-passes.result.items in
    rw c.push_reserved.ensures.items
    (every-append _ passes (c.args.pass ∷ []) (passes-seated _ passes _ c.passes_of-passes.ensures.passes c.requires.seated) (c.requires.pass, tt))

-- all passes are given back
pub unreachable-requires : goal.unreachable-requires
unreachable-requires g c =
    let passes = c.passes_of-passes.result.items in
    let short = c.close.ensures.out.0 (rw c.in-Err.is refl) in
    omega (arith, short, ap length c.push_reserved.ensures.items, length-append passes (c.args.pass ∷ []), as-many passes _ c.passes_of-passes.ensures.passes, length-map c.args.seats.items seat_of, c.requires.count)

pub returns : goal.returns
returns g c =
    let passes = c.passes_of-passes.result.items in
    let all = ap (map seat_of_pass) c.push_reserved.ensures.items ∙ map-append seat_of_pass passes (c.args.pass ∷ []) ∙ ap (λ seats. seats ++ seat_of_pass c.args.pass ∷ []) c.passes_of-passes.ensures.passes in
    closed _ c.push_reserved.new.self.items _ _ all c.in-Ok.ensures.given
