use Rattle.std.proofs.Common.{◌∷◌, ◌++◌, [], sym, ap, ap₂, ◌∙◌, append_assoc, map, Less, Equal, Greater, Bor}
use Rattle.std.specs.List.{filter}
use Rattle.std.specs.Map.{values_of}
use Rattle.std.proofs.lemmas.List.{map-append}
use Rattle.std.proofs.lemmas.Result.{IfOk-equal}
use Rattle.shared_map.specs.Nodes.{pair_of, pairs, pairs_of}
use Rattle.shared_map.specs.Queries.{begins, octets_cmp}
use Rattle.shared_map.proofs.Beginnings.{within-around}
use Rattle.shared_map.proofs.Opened.{ascends-opened, ascends-lower, ascends-higher}
use Rattle.shared_map.proofs.walking.+push_values_within.Goals as goal

pub returns-in-Less : goal.returns-in-Less
returns-in-Less g t c = λ ascends.
    let octets = c.args.octets.now in
    let seen = λ (value : Bor g.row.V.Denot). value.now in
    let node = c.deref-node.result.now in
    let opened = ap pairs c.in-Fork.is ∙ sym (ap pairs_of c.deref-node.ensures) in
    let all = ascends-opened octets_cmp c.args.nodes.now node opened ascends in
    let is = sym c.place_at.ensures ∙ c.in-Less.is in
    IfOk-equal c.push_values_within.result _ _ _
    (c.push_values_within.ensures
    (ascends-lower octets_cmp c.args.nodes.now node opened ascends))
    (ap (λ es. map seen c.args.list.now.items ++ values_of es)
    (sym (within-around octets (pairs node.lower) (pair_of node.pair) (pairs node.higher) all Less
    is)
    ∙ ap (filter (λ pair. begins octets pair.0)) (sym opened)))

pub returns-in_ok-push-in-Equal : goal.returns-in_ok-push-in-Equal
returns-in_ok-push-in-Equal g t c = λ ascends.
    let octets = c.args.octets.now in
    let seen = λ (value : Bor g.row.V.Denot). value.now in
    let node = c.deref-node.result.now in
    let opened = ap pairs c.in-Fork.is ∙ sym (ap pairs_of c.deref-node.ensures) in
    let all = ascends-opened octets_cmp c.args.nodes.now node opened ascends in
    let is = sym c.place_at.ensures ∙ c.in-Equal.is in
    let before = c.in_ok-push_values_within-in-Equal.ensures
    (ascends-lower octets_cmp c.args.nodes.now node opened ascends) in
    let old = map seen c.args.list.now.items in
    let lower = filter (λ pair. begins octets pair.0) (pairs node.lower) in
    let own = node.pair.value.value in
    let higher = filter (λ pair. begins octets pair.0) (pairs node.higher) in
    IfOk-equal c.push_values_within-in-Equal-2.result _ _ _
    (c.push_values_within-in-Equal-2.ensures
    (ascends-higher octets_cmp c.args.nodes.now node opened ascends))
    (ap (λ es. map seen es ++ values_of higher) c.in_ok-push-in-Equal.ensures.items
    ∙ ap (λ es. es ++ values_of higher)
    (map-append seen c.push_values_within-in-Equal.new.list.items (c.deref.result ∷ []))
    ∙ ap₂ (λ es value. (es ++ value ∷ []) ++ values_of higher) before c.deref.ensures
    ∙ append_assoc (old ++ values_of lower) (own ∷ []) (values_of higher)
    ∙ append_assoc old (values_of lower) (own ∷ values_of higher)
    ∙ ap (λ es. old ++ es)
    (sym (map-append (λ pair. pair.1) lower (pair_of node.pair ∷ higher))
    ∙ ap values_of (sym (within-around octets (pairs node.lower) (pair_of node.pair)
    (pairs node.higher) all Equal is)
    ∙ ap (filter (λ pair. begins octets pair.0)) (sym opened))))

pub returns-in-Greater : goal.returns-in-Greater
returns-in-Greater g t c = λ ascends.
    let octets = c.args.octets.now in
    let seen = λ (value : Bor g.row.V.Denot). value.now in
    let node = c.deref-node.result.now in
    let opened = ap pairs c.in-Fork.is ∙ sym (ap pairs_of c.deref-node.ensures) in
    let all = ascends-opened octets_cmp c.args.nodes.now node opened ascends in
    let is = sym c.place_at.ensures ∙ c.in-Greater.is in
    IfOk-equal c.push_values_within-in-Greater.result _ _ _
    (c.push_values_within-in-Greater.ensures
    (ascends-higher octets_cmp c.args.nodes.now node opened ascends))
    (ap (λ es. map seen c.args.list.now.items ++ values_of es)
    (sym (within-around octets (pairs node.lower) (pair_of node.pair) (pairs node.higher) all
    Greater is)
    ∙ ap (filter (λ pair. begins octets pair.0)) (sym opened)))
