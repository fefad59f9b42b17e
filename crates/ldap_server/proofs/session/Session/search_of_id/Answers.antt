use Rattle.std.proofs.Common.{w64, ◌∙◌}
use Rattle.std.proofs.lemmas.Int.{to_z-of_z}
use Rattle.ldap_server.proofs.session.Session.search_of_id.Goals as goal

pub returns : goal.returns
returns g c = c.copied.ensures ∙ (rw (c.as_slice.ensures.value, to_z-of_z w64 c.args.target c.ranges.target) at c.found_of_id.ensures)
