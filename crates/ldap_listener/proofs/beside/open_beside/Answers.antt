use Rattle.ldap_listener.proofs.ExtraPort.{opened_beside}
use Rattle.ldap_listener.proofs.beside.open_beside.Goals as goal

pub returns-in-Ok-free_seats : goal.returns-in-Ok-free_seats
returns-in-Ok-free_seats g c =
    let made = c.in-Ok.ensures in
    opened_beside _ _ _ c.in-Ok.passes.items c.pop.new.self.items c.in-Some.pass _ made.count.0 made.count.1 made.passes made.opened c.in-Some.ensures.items c.in-Ok-free_seats.ensures
