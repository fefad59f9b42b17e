use Rattle.ldap_listener.proofs.Opening.{opened}
use Rattle.ldap_listener.proofs.listening.open_seats.Goals as goal

pub returns-in-Ok-free_seats : goal.returns-in-Ok-free_seats
returns-in-Ok-free_seats g c =
    let made = c.in-Ok.ensures in
    opened _ _ _ c.in-Ok.passes.items _ made.count.0 made.count.1 made.passes made.opened c.in-Ok-free_seats.ensures
