-- A pair that is put in below a node goes before or after the pair of that node.
use Rattle.std.proofs.Common.{◌∷◌, ◌++◌, length, sym, ap, ap₂, ◌∙◌, Less, Equal, Greater}
use Rattle.std.proofs.lemmas.Result.{IfOk-weaker, on_ok_weaker, on_err_weaker}
use Rattle.shared_map.specs.Nodes.{pair_of, pairs}
use Rattle.shared_map.proofs.Around.{insert_entry-around}
use Rattle.shared_map.proofs.Counts.{count-lower, count-higher, count-same}
use Rattle.shared_map.proofs.Keys.{ascends_before, ascends_after}
use Rattle.shared_map.proofs.in_place.+putting.Goals as goal

-- on the side of lower keys, of higher keys, and at the key
pub put_below-returns-in-Less : goal.put_below-returns-in-Less
put_below-returns-in-Less g t c =
    let node = c.args.node.now in
    let pair = c.args.pair in
    let is = sym (ap₂ g.K.Ord.cmp c.deref-key.ensures c.deref.ensures) ∙ sym c.cmp.ensures
    ∙ c.in-Less.is in
    let below = rw c.replace-lower.ensures.value at c.put_into-lower.ensures in
    record {
      ok = λ ascends. on_ok_weaker c.put_into-lower.result.1
          (λ put. c.set_lower.ensures ∙ ap (λ es. es ++ pair_of node.pair ∷ pairs node.higher) put
          ∙ sym (insert_entry-around g.met.K.Ord.total pair.key.value pair.value.value
          (pairs node.lower) (pair_of node.pair) (pairs node.higher) ascends Less is))
          (below.ok (ascends_before g.K.Ord.cmp (pairs node.lower)
          (pair_of node.pair ∷ pairs node.higher) ascends));
      count = IfOk-weaker c.put_into-lower.result.1 _ _
          (λ is_new count. ap length c.set_lower.ensures
          ∙ count-lower is_new (pairs node.lower) (pairs c.put_into-lower.result.0) count
          (pair_of node.pair) (pairs node.higher))
          below.count;
      err = on_err_weaker c.put_into-lower.result.1
          (λ same. c.set_lower.ensures
          ∙ ap (λ es. es ++ pair_of node.pair ∷ pairs node.higher) same)
          below.err;
    }

pub put_below-returns-in-Greater : goal.put_below-returns-in-Greater
put_below-returns-in-Greater g t c =
    let node = c.args.node.now in
    let pair = c.args.pair in
    let is = sym (ap₂ g.K.Ord.cmp c.deref-key.ensures c.deref.ensures) ∙ sym c.cmp.ensures
    ∙ c.in-Greater.is in
    let below = rw c.replace-higher.ensures.value at c.put_into-higher.ensures in
    record {
      ok = λ ascends. on_ok_weaker c.put_into-higher.result.1
          (λ put. c.set_higher.ensures ∙ ap (λ es. pairs node.lower ++ pair_of node.pair ∷ es) put
          ∙ sym (insert_entry-around g.met.K.Ord.total pair.key.value pair.value.value
          (pairs node.lower) (pair_of node.pair) (pairs node.higher) ascends Greater is))
          (below.ok (ascends_after g.K.Ord.cmp (pairs node.lower) (pair_of node.pair)
          (pairs node.higher) ascends));
      count = IfOk-weaker c.put_into-higher.result.1 _ _
          (λ is_new count. ap length c.set_higher.ensures
          ∙ count-higher is_new (pairs node.higher) (pairs c.put_into-higher.result.0) count
          (pair_of node.pair) (pairs node.lower))
          below.count;
      err = on_err_weaker c.put_into-higher.result.1
          (λ same. c.set_higher.ensures
          ∙ ap (λ es. pairs node.lower ++ pair_of node.pair ∷ es) same)
          below.err;
    }

pub put_below-returns-in-Equal : goal.put_below-returns-in-Equal
put_below-returns-in-Equal g t c =
    let node = c.args.node.now in
    let pair = c.args.pair in
    let is = sym (ap₂ g.K.Ord.cmp c.deref-key.ensures c.deref.ensures) ∙ sym c.cmp.ensures
    ∙ c.in-Equal.is in
    record {
      ok = λ ascends. sym (insert_entry-around g.met.K.Ord.total pair.key.value pair.value.value
          (pairs node.lower) (pair_of node.pair) (pairs node.higher) ascends Equal is);
      count = count-same (pairs node.lower) _ (pair_of node.pair) (pairs node.higher);
      err = tt;
    }
