use Rattle.std.proofs.Common.{◌++◌, sym, ap, ◌∙◌, append-nil}
use Rattle.shared_map.specs.Nodes.{pairs}
use Rattle.shared_map.proofs.Opened.{IfOk-same, nothing-first}
use Rattle.shared_map.proofs.taking.joined.Goals as goal

pub returns-in_default : goal.returns-in_default
returns-in_default g c =
    let lower = pairs c.args.lower.now in
    let higher = pairs c.args.higher.now in
    IfOk-same c.copy.result pairs _ _ c.copy.ensures
    (sym (append-nil lower)
    ∙ ap (λ es. lower ++ es) (sym (nothing-first higher (sym c.in_default.ensures))))
