use Rattle.std.proofs.Common.{◌∷◌, ◌++◌, [], sym, ap, ap₂, ◌∙◌, append_assoc, map, true, false, is_lt, Bor}
use Rattle.std.specs.List.{filter}
use Rattle.std.specs.Map.{values_of}
use Rattle.std.proofs.lemmas.List.{map-append}
use Rattle.std.proofs.lemmas.Result.{IfOk-equal}
use Rattle.shared_map.specs.Nodes.{pair_of, pairs, pairs_of}
use Rattle.shared_map.proofs.Around.{filter-around}
use Rattle.shared_map.proofs.Opened.{ascends-opened, ascends-lower, ascends-higher}
use Rattle.shared_map.proofs.walking.+push_values_after.Goals as goal

pub returns-in_ok-push-in-Fork : goal.returns-in_ok-push-in-Fork
returns-in_ok-push-in-Fork g t c = λ ascends.
    let compare = g.Q.Query.compare c.args.key in
    let seen = λ (value : Bor g.row.V.Denot). value.now in
    let node = c.deref-node.result.now in
    let opened = ap pairs c.in-Fork.is ∙ sym (ap pairs_of c.deref-node.ensures) in
    let all = ascends-opened g.K.Ord.cmp c.args.nodes.now node opened ascends in
    let is = ap (λ key. is_lt (compare key)) (sym c.deref.ensures)
    ∙ ap is_lt (sym c.compare.ensures) ∙ sym c.is_lt-fits.ensures ∙ c.if-fits.true in
    let before = c.in_ok-push_values_after-in-Fork.ensures
    (ascends-lower g.K.Ord.cmp c.args.nodes.now node opened ascends) in
    let old = map seen c.args.list.now.items in
    let lower = filter (λ pair. is_lt (compare pair.0)) (pairs node.lower) in
    let own = node.pair.value.value in
    let higher = values_of (pairs node.higher) in
    IfOk-equal c.push_values.result _ _ _ c.push_values.ensures
    (ap (λ es. map seen es ++ higher) c.in_ok-push-in-Fork.ensures.items
    ∙ ap (λ es. es ++ higher)
    (map-append seen c.push_values_after.new.list.items (c.deref-then-fits.result ∷ []))
    ∙ ap₂ (λ es value. (es ++ value ∷ []) ++ higher) before c.deref-then-fits.ensures
    ∙ append_assoc (old ++ values_of lower) (own ∷ []) higher
    ∙ append_assoc old (values_of lower) (own ∷ higher)
    ∙ ap (λ es. old ++ es)
    (sym (map-append (λ pair. pair.1) lower (pair_of node.pair ∷ pairs node.higher))
    ∙ ap values_of (sym (filter-around (g.met.Q.Query.laws c.args.key) (pairs node.lower)
    (pair_of node.pair) (pairs node.higher) all true is)
    ∙ ap (filter (λ pair. is_lt (compare pair.0))) (sym opened))))

pub returns-else-fits : goal.returns-else-fits
returns-else-fits g t c = λ ascends.
    let compare = g.Q.Query.compare c.args.key in
    let seen = λ (value : Bor g.row.V.Denot). value.now in
    let node = c.deref-node.result.now in
    let opened = ap pairs c.in-Fork.is ∙ sym (ap pairs_of c.deref-node.ensures) in
    let all = ascends-opened g.K.Ord.cmp c.args.nodes.now node opened ascends in
    let is = ap (λ key. is_lt (compare key)) (sym c.deref.ensures)
    ∙ ap is_lt (sym c.compare.ensures) ∙ sym c.is_lt-fits.ensures ∙ c.if-fits.false in
    IfOk-equal c.push_values_after-else-fits.result _ _ _
    (c.push_values_after-else-fits.ensures
    (ascends-higher g.K.Ord.cmp c.args.nodes.now node opened ascends))
    (ap (λ es. map seen c.args.list.now.items ++ values_of es)
    (sym (filter-around (g.met.Q.Query.laws c.args.key) (pairs node.lower)
    (pair_of node.pair) (pairs node.higher) all false is)
    ∙ ap (filter (λ pair. is_lt (compare pair.0))) (sym opened)))
