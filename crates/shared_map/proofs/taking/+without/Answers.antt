use Rattle.std.proofs.Common.{◌∷◌, ◌++◌, length, sym, ap, ap₂, ◌∙◌, is_some, true, Less, Equal, Greater}
use Rattle.std.specs.BTreeMap.{is_at}
use Rattle.std.specs.Map.{remove_entry}
use Rattle.std.proofs.lemmas.Result.{IfOk-weaker}
use Rattle.shared_map.specs.Nodes.{count_with, pair_of, pairs, pairs_of, pairs_or}
use Rattle.shared_map.proofs.Around.{remove_entry-around}
use Rattle.shared_map.proofs.Counts.{count-lower, count-higher, count-own}
use Rattle.shared_map.proofs.Opened.{ascends-opened, ascends-lower, ascends-higher, IfOk-both}
use Rattle.shared_map.proofs.taking.+without.Goals as goal

pub returns-in_ok-lower-in-Less-clause-pairs : goal.returns-in_ok-lower-in-Less-clause-pairs
returns-in_ok-lower-in-Less-clause-pairs g t c = λ ascends.
    let compare = g.Q.Query.compare c.args.key in
    let node = c.deref-node.result.now in
    let opened = ap pairs c.in-Fork.is ∙ sym (ap pairs_of c.deref-node.ensures) in
    let all = ascends-opened g.K.Ord.cmp c.args.nodes.now node opened ascends in
    let is = ap compare (sym c.deref.ensures) ∙ sym c.compare.ensures ∙ c.in-Less.is in
    let below = c.in_ok-lower-in-Less.ensures.pairs
    (ascends-lower g.K.Ord.cmp c.args.nodes.now node opened ascends) in
    IfOk-weaker c.below_pair.result _ _
    (λ taken made. ap (pairs_or taken) opened ∙ made
    ∙ ap (λ es. es ++ pair_of node.pair ∷ pairs node.higher) below
    ∙ sym (remove_entry-around (g.met.Q.Query.laws c.args.key) (pairs node.lower)
    (pair_of node.pair) (pairs node.higher) all Less is)
    ∙ ap (remove_entry (is_at compare)) (sym opened))
    c.below_pair.ensures.pairs

pub returns-in_ok-lower-in-Less-clause-count : goal.returns-in_ok-lower-in-Less-clause-count
returns-in_ok-lower-in-Less-clause-count g t c =
    let node = c.deref-node.result.now in
    let lower = c.in_ok-lower-in-Less.lower in
    let opened = ap pairs c.in-Fork.is ∙ sym (ap pairs_of c.deref-node.ensures) in
    IfOk-both c.below_pair.result _ _ _
    (λ taken made same. ap length opened
    ∙ count-lower (is_some lower) (pairs_or lower (pairs node.lower)) (pairs node.lower)
    c.in_ok-lower-in-Less.ensures.count (pair_of node.pair) (pairs node.higher)
    ∙ ap₂ (λ was_there es. count_with was_there (length es)) (sym same)
    (sym made ∙ ap (pairs_or taken) (sym opened)))
    c.below_pair.ensures.pairs c.below_pair.ensures.same

pub returns-in_ok-after-in-Equal-clause-pairs : goal.returns-in_ok-after-in-Equal-clause-pairs
returns-in_ok-after-in-Equal-clause-pairs g t c = λ ascends.
    let compare = g.Q.Query.compare c.args.key in
    let node = c.deref-node.result.now in
    let opened = ap pairs c.in-Fork.is ∙ sym (ap pairs_of c.deref-node.ensures) in
    let all = ascends-opened g.K.Ord.cmp c.args.nodes.now node opened ascends in
    let is = ap compare (sym c.deref.ensures) ∙ sym c.compare.ensures ∙ c.in-Equal.is in
    c.in_ok-after-in-Equal.ensures
    ∙ sym (remove_entry-around (g.met.Q.Query.laws c.args.key) (pairs node.lower)
    (pair_of node.pair) (pairs node.higher) all Equal is)
    ∙ ap (remove_entry (is_at compare)) (sym opened)

pub returns-in_ok-after-in-Equal-clause-count : goal.returns-in_ok-after-in-Equal-clause-count
returns-in_ok-after-in-Equal-clause-count g t c =
    let node = c.deref-node.result.now in
    let opened = ap pairs c.in-Fork.is ∙ sym (ap pairs_of c.deref-node.ensures) in
    ap length opened ∙ count-own (pairs node.lower) (pair_of node.pair) (pairs node.higher)
    ∙ ap (λ es. count_with true (length es)) (sym c.in_ok-after-in-Equal.ensures)

pub returns-in_ok-higher-in-Greater-clause-pairs : goal.returns-in_ok-higher-in-Greater-clause-pairs
returns-in_ok-higher-in-Greater-clause-pairs g t c = λ ascends.
    let compare = g.Q.Query.compare c.args.key in
    let node = c.deref-node.result.now in
    let opened = ap pairs c.in-Fork.is ∙ sym (ap pairs_of c.deref-node.ensures) in
    let all = ascends-opened g.K.Ord.cmp c.args.nodes.now node opened ascends in
    let is = ap compare (sym c.deref.ensures) ∙ sym c.compare.ensures ∙ c.in-Greater.is in
    let below = c.in_ok-higher-in-Greater.ensures.pairs
    (ascends-higher g.K.Ord.cmp c.args.nodes.now node opened ascends) in
    IfOk-weaker c.above_pair.result _ _
    (λ taken made. ap (pairs_or taken) opened ∙ made
    ∙ ap (λ es. pairs node.lower ++ pair_of node.pair ∷ es) below
    ∙ sym (remove_entry-around (g.met.Q.Query.laws c.args.key) (pairs node.lower)
    (pair_of node.pair) (pairs node.higher) all Greater is)
    ∙ ap (remove_entry (is_at compare)) (sym opened))
    c.above_pair.ensures.pairs

pub returns-in_ok-higher-in-Greater-clause-count : goal.returns-in_ok-higher-in-Greater-clause-count
returns-in_ok-higher-in-Greater-clause-count g t c =
    let node = c.deref-node.result.now in
    let higher = c.in_ok-higher-in-Greater.higher in
    let opened = ap pairs c.in-Fork.is ∙ sym (ap pairs_of c.deref-node.ensures) in
    IfOk-both c.above_pair.result _ _ _
    (λ taken made same. ap length opened
    ∙ count-higher (is_some higher) (pairs_or higher (pairs node.higher)) (pairs node.higher)
    c.in_ok-higher-in-Greater.ensures.count (pair_of node.pair) (pairs node.lower)
    ∙ ap₂ (λ was_there es. count_with was_there (length es)) (sym same)
    (sym made ∙ ap (pairs_or taken) (sym opened)))
    c.above_pair.ensures.pairs c.above_pair.ensures.same
