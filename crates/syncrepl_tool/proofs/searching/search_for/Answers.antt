use Rattle.std.proofs.Common.{inl, inr, refl}
use Rattle.std.proofs.lemmas.Result.{err_from_is_err_and}
use Rattle.syncrepl_tool.proofs.SearchEnds.{ends_search, runs_out_asked, runs_out_unasked, search_ended, search_refused}
use Rattle.syncrepl_tool.proofs.searching.search_for.Goals as goal

-- the filter has an encoding
pub search-requires-clause-filter : goal.search-requires-clause-filter
search-requires-clause-filter g c κs within = rw c.in-Wanted.is at c.in_ok-reading.ensures.askable

pub returns-in-Ok-clause-searches : goal.returns-in-Ok-clause-searches
returns-in-Ok-clause-searches g c =
    ends_search _
    (search_ended _ _ c.in-Ok.end (rw c.in-Wanted.is at c.in_ok-reading.ensures.reads) c.in-Ok.ensures.searches c.say_end.ensures c.in-Ok.ensures.faults.output_failed c.in-Ok.ensures.faults.net_failed
    c.in-Ok.ensures.faults.output_faultless c.in-Ok.ensures.faults.net_faultless)

-- the base or the filter is refused

pub returns-in-NoName-clause-searches : goal.returns-in-NoName-clause-searches
returns-in-NoName-clause-searches g c =
    ends_search _
    (search_refused _
    (record { why = inl (c.in-NoName.fault, rw c.in-NoName.is at c.in_ok-reading.ensures.reads, c.refuse_name.ensures.says); unasked = refl; faultless = refl; unprinted = refl })
    c.refuse_name.ensures.code)

pub returns-in-NoFilter-clause-searches : goal.returns-in-NoFilter-clause-searches
returns-in-NoFilter-clause-searches g c =
    let read = rw c.in-NoFilter.is at c.in_ok-reading.ensures.reads in
    ends_search _
    (search_refused _
    (record { why = inr (read.0, c.in-NoFilter.fault, read.1, read.2, c.refuse_filter.ensures.says); unasked = refl; faultless = refl; unprinted = refl })
    c.refuse_filter.ensures.code)

-- memory ran out

pub returns-in_err-reading-clause-searches : goal.returns-in_err-reading-clause-searches
returns-in_err-reading-clause-searches g c =
    let ran = err_from_is_err_and c.from_residual.result c.from_residual.ensures.1 in
    rw ran.1 (runs_out_unasked ran.0 refl refl refl)

pub returns-in-Err-clause-searches : goal.returns-in-Err-clause-searches
returns-in-Err-clause-searches g c =
    runs_out_asked _ _ (rw c.in-Wanted.is at c.in_ok-reading.ensures.reads) c.in-Err.ensures.in_part c.in-Err.ensures.faults.output_sound c.in-Err.ensures.faults.net_sound
