use Rattle.std.proofs.Common.{map, set, ap, ◌∙◌}
use Rattle.std.proofs.lemmas.List.{map-set}
use Rattle.shared_directory.proofs.held.remember.Goals as goal

pub returns : goal.returns
returns c =
    map-set (λ s. s.value) c.args.last.now.items c.args.number c.of.result
    ∙ ap (set (map (λ s. s.value) c.args.last.now.items) c.args.number) c.of.ensures
