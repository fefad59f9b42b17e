use Rattle.std.proofs.Common.{◌≤◌, ap, ◌∙◌, sym, map, subst}
use Rattle.std.specs.Map.{keys_of}
use Rattle.std.proofs.lemmas.Result.{IfOk-weaker}
use Rattle.entry_tree.specs.State.{total_weight, most_weight}
use Rattle.sync_model.specs.Copy.{Stage, puts_of}
use Rattle.entry_tree.specs.Touched.{rises}
use Rattle.sync_consumer.specs.Staging.{change_of, changes_kept}
use Rattle.sync_consumer.proofs.Stages.{limits}
use Rattle.sync_consumer.proofs.stage.Stage.list.Goals as goal

pub returns-clause-value : goal.returns-clause-value
returns-clause-value c = IfOk-weaker c.values.result _ _ (λ list is. ap (map change_of) is ∙ c.self.view_is) c.values.ensures

pub returns-clause-ordered : goal.returns-clause-ordered
returns-clause-ordered c = ap (λ (s : Stage). rises (keys_of s)) (sym c.self.view_is) ∙ c.self.invariant.ordered

pub returns-clause-light : goal.returns-clause-light
returns-clause-light c =
    subst (λ (s : Stage). total_weight (puts_of s) ≤ most_weight) c.self.view_is (limits (puts_of (changes_kept c.self.inside.changes)) c.self.invariant.within).1
