use Rattle.std.proofs.Common.{◌∷◌, ◌++◌, length, sym, ap, ap₂, ◌∙◌, Less, Equal, Greater}
use Rattle.std.specs.BTreeMap.{insert_entry}
use Rattle.shared_map.specs.Nodes.{count_with, pair_of, pairs, pairs_of}
use Rattle.shared_map.proofs.Around.{insert_entry-around}
use Rattle.shared_map.proofs.Counts.{count-lower, count-higher, count-same}
use Rattle.shared_map.proofs.Opened.{ascends-opened, ascends-lower, ascends-higher}
use Rattle.shared_map.proofs.placing.+with_pair.Goals as goal

pub returns-in_ok-after-in-Less-clause-pairs : goal.returns-in_ok-after-in-Less-clause-pairs
returns-in_ok-after-in-Less-clause-pairs g t c = λ ascends.
    let cmp = g.K.Ord.cmp in
    let key = c.args.pair.key.value in
    let value = c.args.pair.value.value in
    let node = c.deref-node.result.now in
    let opened = ap pairs c.in-Fork.is ∙ sym (ap pairs_of c.deref-node.ensures) in
    let all = ascends-opened cmp c.args.nodes.now node opened ascends in
    let is = sym (ap₂ cmp c.deref-key.ensures c.deref.ensures) ∙ sym c.cmp.ensures
    ∙ c.in-Less.is in
    c.in_ok-after-in-Less.ensures ∙ ap (λ es. es ++ pair_of node.pair ∷ pairs node.higher)
    (c.in_ok-lower-in-Less.ensures.pairs
    (ascends-lower cmp c.args.nodes.now node opened ascends))
    ∙ sym (insert_entry-around g.met.K.Ord.total key value (pairs node.lower) (pair_of node.pair)
    (pairs node.higher) all Less is)
    ∙ ap (λ es. insert_entry cmp es key value) (sym opened)

pub returns-in_ok-after-in-Less-clause-count : goal.returns-in_ok-after-in-Less-clause-count
returns-in_ok-after-in-Less-clause-count g t c =
    let node = c.deref-node.result.now in
    let opened = ap pairs c.in-Fork.is ∙ sym (ap pairs_of c.deref-node.ensures) in
    ap length c.in_ok-after-in-Less.ensures
    ∙ count-lower c.in_ok-lower-in-Less.is_new (pairs node.lower)
    (pairs c.in_ok-lower-in-Less.lower) c.in_ok-lower-in-Less.ensures.count
    (pair_of node.pair) (pairs node.higher)
    ∙ ap (λ es. count_with c.in_ok-lower-in-Less.is_new (length es)) (sym opened)

pub returns-in_ok-after-in-Equal-clause-pairs : goal.returns-in_ok-after-in-Equal-clause-pairs
returns-in_ok-after-in-Equal-clause-pairs g t c = λ ascends.
    let cmp = g.K.Ord.cmp in
    let key = c.args.pair.key.value in
    let value = c.args.pair.value.value in
    let node = c.deref-node.result.now in
    let opened = ap pairs c.in-Fork.is ∙ sym (ap pairs_of c.deref-node.ensures) in
    let all = ascends-opened cmp c.args.nodes.now node opened ascends in
    let is = sym (ap₂ cmp c.deref-key.ensures c.deref.ensures) ∙ sym c.cmp.ensures
    ∙ c.in-Equal.is in
    c.in_ok-after-in-Equal.ensures
    ∙ sym (insert_entry-around g.met.K.Ord.total key value (pairs node.lower) (pair_of node.pair)
    (pairs node.higher) all Equal is)
    ∙ ap (λ es. insert_entry cmp es key value) (sym opened)

pub returns-in_ok-after-in-Equal-clause-count : goal.returns-in_ok-after-in-Equal-clause-count
returns-in_ok-after-in-Equal-clause-count g t c =
    let node = c.deref-node.result.now in
    let opened = ap pairs c.in-Fork.is ∙ sym (ap pairs_of c.deref-node.ensures) in
    ap length c.in_ok-after-in-Equal.ensures
    ∙ count-same (pairs node.lower) _ (pair_of node.pair) (pairs node.higher)
    ∙ ap length (sym opened)

pub returns-in_ok-after-in-Greater-clause-pairs : goal.returns-in_ok-after-in-Greater-clause-pairs
returns-in_ok-after-in-Greater-clause-pairs g t c = λ ascends.
    let cmp = g.K.Ord.cmp in
    let key = c.args.pair.key.value in
    let value = c.args.pair.value.value in
    let node = c.deref-node.result.now in
    let opened = ap pairs c.in-Fork.is ∙ sym (ap pairs_of c.deref-node.ensures) in
    let all = ascends-opened cmp c.args.nodes.now node opened ascends in
    let is = sym (ap₂ cmp c.deref-key.ensures c.deref.ensures) ∙ sym c.cmp.ensures
    ∙ c.in-Greater.is in
    c.in_ok-after-in-Greater.ensures ∙ ap (λ es. pairs node.lower ++ pair_of node.pair ∷ es)
    (c.in_ok-higher-in-Greater.ensures.pairs
    (ascends-higher cmp c.args.nodes.now node opened ascends))
    ∙ sym (insert_entry-around g.met.K.Ord.total key value (pairs node.lower) (pair_of node.pair)
    (pairs node.higher) all Greater is)
    ∙ ap (λ es. insert_entry cmp es key value) (sym opened)

pub returns-in_ok-after-in-Greater-clause-count : goal.returns-in_ok-after-in-Greater-clause-count
returns-in_ok-after-in-Greater-clause-count g t c =
    let node = c.deref-node.result.now in
    let opened = ap pairs c.in-Fork.is ∙ sym (ap pairs_of c.deref-node.ensures) in
    ap length c.in_ok-after-in-Greater.ensures
    ∙ count-higher c.in_ok-higher-in-Greater.is_new (pairs node.higher)
    (pairs c.in_ok-higher-in-Greater.higher) c.in_ok-higher-in-Greater.ensures.count
    (pair_of node.pair) (pairs node.lower)
    ∙ ap (λ es. count_with c.in_ok-higher-in-Greater.is_new (length es)) (sym opened)
