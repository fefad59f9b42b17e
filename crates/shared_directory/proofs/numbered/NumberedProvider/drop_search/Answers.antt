-- What is left of the numbers where a search that this port opened is asked for, and where another one is.
use Rattle.std.proofs.Common.{◌∙◌}
use Rattle.shared_directory.proofs.Answered.{drop_unknown}
use Rattle.shared_directory.proofs.Seen.{drop_seen}
use Rattle.shared_directory.proofs.numbered.NumberedProvider.drop_search.Goals as goal

pub returns-then-opener-number : goal.returns-then-opener-number
returns-then-opener-number c =
    drop_unknown c.args.number c.args.self.now c.args.search (λ same. c.if-opener-number.true (c.opener.ensures ∙ same))

pub invariant_of-self : goal.invariant_of-self
invariant_of-self c =
    (drop_seen c.args.number _ c.args.self.now c.self.view_is c.self.invariant c.drop_search.new.self c.args.search c.opener.result c.opener.ensures c.if-opener-number.false
    c.drop_search.result c.drop_search.ensures.journal).numbered

pub returns : goal.returns
returns c =
    (drop_seen c.args.number _ c.args.self.now c.self.view_is c.self.invariant c.drop_search.new.self c.args.search c.opener.result c.opener.ensures c.if-opener-number.false
    c.drop_search.result c.drop_search.ensures.journal).answered
