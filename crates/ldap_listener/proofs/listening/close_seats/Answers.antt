use Rattle.std.proofs.Common.{arith, refl}
use Rattle.std.proofs.lemmas.List.{length-map}
use Rattle.ldap_listener.specs.SeatsOfCode.{seat_of}
use Rattle.ldap_listener.proofs.Closing.{as-many, closed, passes-seated}
use Rattle.ldap_listener.proofs.listening.close_seats.Goals as goal

pub close-requires : goal.close-requires
close-requires g c = passes-seated _ c.passes_of.result.items _ c.passes_of.ensures.passes c.requires.seated

-- all passes are given back
pub unreachable-requires : goal.unreachable-requires
unreachable-requires g c =
    let short = c.close.ensures.out.0 (rw c.in-Err.is refl) in
    omega (arith, short, as-many c.passes_of.result.items _ c.passes_of.ensures.passes, length-map c.args.seats.items seat_of, c.requires.count)

pub returns : goal.returns
returns g c = closed _ c.passes_of.result.items _ _ c.passes_of.ensures.passes c.in-Ok.ensures.given
