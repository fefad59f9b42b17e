use Rattle.ldap_filter.proofs.FilterDepths.{depth_of_read}
use Rattle.sync_config.proofs.upstream.filter_of.Goals as goal

pub returns-in-Ok-clause-depth : goal.returns-in-Ok-clause-depth
returns-in-Ok-clause-depth c = depth_of_read _ _ c.in-Ok.ensures.ok
