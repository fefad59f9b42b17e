use Rattle.std.proofs.Common.{sym, ap, ◌∙◌, true, false, is_lt, Bor}
use Rattle.std.specs.Prelude.{Some}
use Rattle.std.specs.Map.{lookup_entry}
use Rattle.std.specs.Option.{option_map, option_or}
use Rattle.shared_map.specs.declared.nodes.MapPair.{MapPair}
use Rattle.shared_map.specs.Nodes.{pair_of, pairs, pairs_of}
use Rattle.shared_map.proofs.Around.{after-around}
use Rattle.shared_map.proofs.Opened.{ascends-opened, ascends-lower, ascends-higher, option_map-or}
use Rattle.shared_map.proofs.seeking.+pair_after.Goals as goal

pub returns-then-fits : goal.returns-then-fits
returns-then-fits g t c = λ ascends.
    let compare = g.Q.Query.compare c.args.key in
    let node = c.deref-node.result.now in
    let opened = ap pairs c.in-Fork.is ∙ sym (ap pairs_of c.deref-node.ensures) in
    let all = ascends-opened g.K.Ord.cmp c.args.nodes.now node opened ascends in
    let is = ap (λ key. is_lt (compare key)) (sym c.deref.ensures)
    ∙ ap is_lt (sym c.compare.ensures) ∙ sym c.is_lt-fits.ensures ∙ c.if-fits.true in
    ap (option_map (λ (pair : Bor (MapPair g.row.K.Denot g.row.V.Denot)). pair_of pair.now))
    c.or.ensures
    ∙ option_map-or (λ (pair : Bor (MapPair g.row.K.Denot g.row.V.Denot)). pair_of pair.now)
    c.pair_after.result _
    ∙ ap (λ found. option_or found (Some (pair_of node.pair)))
    (c.pair_after.ensures (ascends-lower g.K.Ord.cmp c.args.nodes.now node opened ascends))
    ∙ sym (after-around (g.met.Q.Query.laws c.args.key) (pairs node.lower) (pair_of node.pair)
    (pairs node.higher) all true is)
    ∙ ap (lookup_entry (λ key. is_lt (compare key))) (sym opened)

pub returns-else-fits : goal.returns-else-fits
returns-else-fits g t c = λ ascends.
    let compare = g.Q.Query.compare c.args.key in
    let node = c.deref-node.result.now in
    let opened = ap pairs c.in-Fork.is ∙ sym (ap pairs_of c.deref-node.ensures) in
    let all = ascends-opened g.K.Ord.cmp c.args.nodes.now node opened ascends in
    let is = ap (λ key. is_lt (compare key)) (sym c.deref.ensures)
    ∙ ap is_lt (sym c.compare.ensures) ∙ sym c.is_lt-fits.ensures ∙ c.if-fits.false in
    c.pair_after-in-Fork.ensures
    (ascends-higher g.K.Ord.cmp c.args.nodes.now node opened ascends)
    ∙ sym (after-around (g.met.Q.Query.laws c.args.key) (pairs node.lower) (pair_of node.pair)
    (pairs node.higher) all false is)
    ∙ ap (lookup_entry (λ key. is_lt (compare key))) (sym opened)
