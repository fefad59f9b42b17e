use Rattle.std.proofs.Common.{sym, ap, ◌∙◌, subst, length, arith}
use Rattle.std.specs.List.Sorted.{IsStrictlySortedBy}
use Rattle.std.specs.Map.{keys_of}
use Rattle.shared_map.specs.Nodes.{count_with, pairs}
use Rattle.shared_map.proofs.Changes.{ascends-insert_entry}
use Rattle.shared_map.proofs.Counts.{count-small}
use Rattle.shared_map.proofs.ordered.SharedMap.insert_pair.Goals as goal

pub invariant_of-self-2 : goal.invariant_of-self-2
invariant_of-self-2 g c =
    let cmp = g.K.Ord.cmp in
    let es = pairs c.self.inside.root in
    let key = c.args.pair.key.value in
    let value = c.args.pair.value.value in
    let is_new = c.in_ok-is_new.is_new in
    let put = rw (c.replace-root.ensures.value, c.in_ok-is_new.was) at c.put_into-root.ensures in (
      subst (λ es. IsStrictlySortedBy cmp (keys_of es)) (sym (put.ok c.self.invariant.0))
          (ascends-insert_entry g.met.K.Ord.total key value es c.self.invariant.0),
      c.count_with-self-inside.ensures ∙ ap (count_with is_new) c.self.invariant.1 ∙ sym put.count,
      omega (
        arith,
        c.count_with-self-inside.ensures,
        count-small is_new c.self.inside.len,
        c.self.invariant.2,
      ),
    )

pub invariant_of-self : goal.invariant_of-self
invariant_of-self g c =
    let cmp = g.K.Ord.cmp in
    let put = rw (c.replace-root.ensures.value, c.in_err-is_new.was) at c.put_into-root.ensures in (
      subst (λ es. IsStrictlySortedBy cmp (keys_of es)) (sym put.err) c.self.invariant.0,
      c.self.invariant.1 ∙ ap length (sym put.err),
      c.self.invariant.2,
    )
