use Rattle.std.proofs.Common.{sym, ap, ◌∙◌, Less, Equal, Greater, is_eq}
use Rattle.std.specs.BTreeMap.{is_at}
use Rattle.std.specs.Map.{lookup_entry}
use Rattle.shared_map.specs.Nodes.{pair_of, pairs, pairs_of}
use Rattle.shared_map.proofs.Around.{lookup_entry-around}
use Rattle.shared_map.proofs.Opened.{ascends-opened, ascends-lower, ascends-higher}
use Rattle.shared_map.proofs.seeking.+pair_at.Goals as goal

pub returns-in-Less-clause-pair : goal.returns-in-Less-clause-pair
returns-in-Less-clause-pair g t c = λ ascends.
    let compare = g.Q.Query.compare c.args.key in
    let node = c.deref-node.result.now in
    let opened = ap pairs c.in-Fork.is ∙ sym (ap pairs_of c.deref-node.ensures) in
    let all = ascends-opened g.K.Ord.cmp c.args.nodes.now node opened ascends in
    let is = ap compare (sym c.deref.ensures) ∙ sym c.compare.ensures ∙ c.in-Less.is in
    c.pair_at.ensures.pair (ascends-lower g.K.Ord.cmp c.args.nodes.now node opened ascends)
    ∙ sym (lookup_entry-around (g.met.Q.Query.laws c.args.key) (pairs node.lower)
    (pair_of node.pair) (pairs node.higher) all Less is)
    ∙ ap (lookup_entry (is_at compare)) (sym opened)

pub returns-in-Equal-clause-pair : goal.returns-in-Equal-clause-pair
returns-in-Equal-clause-pair g t c = λ ascends.
    let compare = g.Q.Query.compare c.args.key in
    let node = c.deref-node.result.now in
    let opened = ap pairs c.in-Fork.is ∙ sym (ap pairs_of c.deref-node.ensures) in
    let all = ascends-opened g.K.Ord.cmp c.args.nodes.now node opened ascends in
    let is = ap compare (sym c.deref.ensures) ∙ sym c.compare.ensures ∙ c.in-Equal.is in
    sym (lookup_entry-around (g.met.Q.Query.laws c.args.key) (pairs node.lower)
    (pair_of node.pair) (pairs node.higher) all Equal is)
    ∙ ap (lookup_entry (is_at compare)) (sym opened)

pub returns-in-Equal-clause-key : goal.returns-in-Equal-clause-key
returns-in-Equal-clause-key g t c =
    let compare = g.Q.Query.compare c.args.key in
    ap is_eq (ap compare (sym c.deref.ensures) ∙ sym c.compare.ensures ∙ c.in-Equal.is)

pub returns-in-Greater-clause-pair : goal.returns-in-Greater-clause-pair
returns-in-Greater-clause-pair g t c = λ ascends.
    let compare = g.Q.Query.compare c.args.key in
    let node = c.deref-node.result.now in
    let opened = ap pairs c.in-Fork.is ∙ sym (ap pairs_of c.deref-node.ensures) in
    let all = ascends-opened g.K.Ord.cmp c.args.nodes.now node opened ascends in
    let is = ap compare (sym c.deref.ensures) ∙ sym c.compare.ensures ∙ c.in-Greater.is in
    c.pair_at-in-Greater.ensures.pair
    (ascends-higher g.K.Ord.cmp c.args.nodes.now node opened ascends)
    ∙ sym (lookup_entry-around (g.met.Q.Query.laws c.args.key) (pairs node.lower)
    (pair_of node.pair) (pairs node.higher) all Greater is)
    ∙ ap (lookup_entry (is_at compare)) (sym opened)
