use Rattle.syncrepl_tool.proofs.SearchEnds.{name_refused, unnamed_askable}
use Rattle.syncrepl_tool.specs.SearchWords.{asked_by}
use Rattle.syncrepl_tool.proofs.searching.read_texts.Goals as goal

pub read_filter-requires : goal.read_filter-requires
read_filter-requires c = rw c.as_bytes.ensures.value at c.in-Ok.ensures.ok

pub returns-in-Err-clause-reads : goal.returns-in-Err-clause-reads
returns-in-Err-clause-reads c =
    name_refused (asked_by c.args.asked.now) c.no_name.result c.in-Err.fault (rw c.as_bytes.ensures.value at c.in-Err.ensures.fault) c.no_name.ensures

pub returns-in-Err-clause-askable : goal.returns-in-Err-clause-askable
returns-in-Err-clause-askable c = unnamed_askable c.no_name.result c.in-Err.fault c.no_name.ensures
