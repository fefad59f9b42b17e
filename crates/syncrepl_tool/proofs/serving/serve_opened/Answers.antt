use Rattle.syncrepl_tool.proofs.EndedServing.{alone_from, following_from}
use Rattle.syncrepl_tool.proofs.serving.serve_opened.Goals as goal

-- it follows no other directory

pub returns-in-None-clause-serves : goal.returns-in-None-clause-serves
returns-in-None-clause-serves g c = alone_from _ c.args.ready _ _ c.serve_alone.result c.in-None.is c.serve_alone.ensures.serves

pub returns-in-None-clause-faults : goal.returns-in-None-clause-faults
returns-in-None-clause-faults g c = c.serve_alone.ensures.faults

-- it follows one

pub serve_following-requires-clause-seats : goal.serve_following-requires-clause-seats
serve_following-requires-clause-seats g c κs within = c.requires.seats

pub serve_following-requires-clause-filter : goal.serve_following-requires-clause-filter
serve_following-requires-clause-filter g c κs within = rw c.in-Some.is at c.requires.filter

pub returns-clause-serves : goal.returns-clause-serves
returns-clause-serves g c =
    following_from _ c.args.ready _ _ c.in-Some.upstream c.serve_following.result c.in-Some.is c.serve_following.ensures.serves

pub returns-clause-faults : goal.returns-clause-faults
returns-clause-faults g c = c.serve_following.ensures.faults
