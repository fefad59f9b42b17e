use Rattle.std.proofs.Common.{◌∷◌, ◌++◌, sym, ap, ◌∙◌, drop}
use Rattle.shared_map.specs.Nodes.{pair_of, pairs, pairs_of}
use Rattle.shared_map.proofs.Opened.{IfOk-same, drop-first}
use Rattle.shared_map.proofs.taking.+without_first.Goals as goal

pub returns-in_ok-lower-in-Fork-lower : goal.returns-in_ok-lower-in-Fork-lower
returns-in_ok-lower-in-Fork-lower g t c =
    let node = c.deref-node.result.now in
    let first = c.in-Fork-lower.field-1.value in
    let rest = pair_of node.pair ∷ pairs node.higher in
    let opened = ap pairs c.in-Fork.is ∙ sym (ap pairs_of c.deref-node.ensures) in
    IfOk-same c.with_lower.result pairs _ _ c.with_lower.ensures
    (ap (λ es. es ++ rest)
    (c.in_ok-lower-in-Fork-lower.ensures ∙ ap (λ nodes. drop 1 (pairs nodes)) c.in-Fork-lower.is)
    ∙ sym (drop-first (pairs first.lower) (pair_of first.pair) (pairs first.higher) rest)
    ∙ ap (λ nodes. drop 1 (pairs nodes ++ rest)) (sym c.in-Fork-lower.is)
    ∙ ap (drop 1) (sym opened))
