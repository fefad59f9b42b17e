-- A slice of bytes holds bytes.
use Rattle.ldap_filter.proofs.Lists.{bytes_fit}
use Rattle.ldap_filter.proofs.writing.put_value.Goals as goal

pub returns-clause-sound : goal.returns-clause-sound
returns-clause-sound c = bytes_fit c.args.value.now c.type_inv.value
