use Rattle.std.proofs.Common.{◌≡◌, refl}
use Rattle.std.proofs.lemmas.Result.{IfOk-weaker}
use Rattle.drill_plan.specs.Plain.{plain_of_each}
use Rattle.drill_plan.specs.Summary.{writes_line}
use Rattle.sync_drill.specs.Summing.{IsWholeLine}
use Rattle.sync_drill.proofs.Summings.{whole_line_is}
use Rattle.sync_drill.proofs.summing_up.whole_line.Goals as goal

pub returns-in-Found-clause-line : goal.returns-in-Found-clause-line
returns-in-Found-clause-line g c =
    let old = g.P.Port.state c.args.port.now in
    let mid = g.P.Port.state c.writes-count.new.self in
    let new = g.P.Port.state c.search-found.new.self in
    IfOk-weaker c.line_of.result (λ line. line.items ≡ writes_line c.writes-count.result (plain_of_each c.in-Found.entries))
    (λ line. IsWholeLine old new line.items)
    (λ line is. whole_line_is old mid new c.writes-count.result (record { spec = c.in_ok-spec.spec; size_limit = 0 }) c.in-Found.entries line.items
    c.writes-count.ensures.replies (rw c.in-Found.is at c.search-found.ensures.replies) c.in_ok-spec.ensures refl is)
    c.line_of.ensures
