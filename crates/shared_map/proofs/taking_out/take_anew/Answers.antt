-- Nodes that are made anew lack the pair; where there is none, or memory runs out, the old ones stay.
use Rattle.std.proofs.Common.{length, sym, ap₂, ◌∙◌}
use Rattle.shared_map.specs.Nodes.{count_with}
use Rattle.shared_map.proofs.taking_out.take_anew.Goals as goal

pub returns-in-Ok-clause-ok : goal.returns-in-Ok-clause-ok
returns-in-Ok-clause-ok g c = λ ascends.
    c.taken_or_same-after.ensures.pairs ∙ c.in-Ok.ensures.pairs ascends

pub returns-in-Ok-clause-count : goal.returns-in-Ok-clause-count
returns-in-Ok-clause-count g c =
    c.in-Ok.ensures.count
    ∙ ap₂ (λ was_there es. count_with was_there (length es))
    (sym c.taken_or_same-after.ensures.was_there) (sym c.taken_or_same-after.ensures.pairs)
