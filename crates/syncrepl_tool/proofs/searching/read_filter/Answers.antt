use Rattle.std.proofs.Common.{refl}
use Rattle.ldap_filter.proofs.FilterDepths.{depth_of_read}
use Rattle.syncrepl_tool.proofs.SearchEnds.{filter_refused, unfiltered_askable}
use Rattle.syncrepl_tool.specs.SearchWords.{asked_by}
use Rattle.syncrepl_tool.proofs.searching.read_filter.Goals as goal

pub returns-in-Ok-clause-reads : goal.returns-in-Ok-clause-reads
returns-in-Ok-clause-reads c = record { base = c.requires; scope = refl; filter = rw c.as_bytes.ensures.value at c.in-Ok.ensures.ok }

pub returns-in-Ok-clause-askable : goal.returns-in-Ok-clause-askable
returns-in-Ok-clause-askable c = depth_of_read _ _ c.in-Ok.ensures.ok

pub returns-in-Err-clause-reads : goal.returns-in-Err-clause-reads
returns-in-Err-clause-reads c =
    filter_refused (asked_by c.args.asked.now) c.args.base c.no_filter.result c.in-Err.fault c.requires (rw c.as_bytes.ensures.value at c.in-Err.ensures.fault) c.no_filter.ensures

pub returns-in-Err-clause-askable : goal.returns-in-Err-clause-askable
returns-in-Err-clause-askable c = unfiltered_askable c.no_filter.result c.in-Err.fault c.no_filter.ensures
