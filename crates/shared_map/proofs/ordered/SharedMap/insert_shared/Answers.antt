-- A copy of a pair is the pair.
use Rattle.std.proofs.Common.{ap, ◌∙◌}
use Rattle.std.proofs.lemmas.Result.{on_ok_weaker}
use Rattle.std.specs.BTreeMap.{insert_entry}
use Rattle.shared_map.proofs.ordered.SharedMap.insert_shared.Goals as goal

pub returns-clause-ok : goal.returns-clause-ok
returns-clause-ok g c =
    let old = c.args.self.now in
    on_ok_weaker c.insert_pair.result
    (λ is. is ∙ ap (λ (both : g.row.K.Denot × g.row.V.Denot). insert_entry g.K.Ord.cmp old both.0 both.1) c.in_ok-copy.ensures)
    c.insert_pair.ensures.ok
