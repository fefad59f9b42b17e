use Rattle.std.proofs.Common.{sym, ap, ◌∙◌, subst, length, arith}
use Rattle.std.specs.BTreeMap.{is_at}
use Rattle.std.specs.List.Sorted.{IsStrictlySortedBy}
use Rattle.std.specs.Map.{keys_of}
use Rattle.shared_map.specs.Nodes.{pairs}
use Rattle.shared_map.proofs.Changes.{ascends-remove_entry}
use Rattle.shared_map.proofs.Counts.{count-before, count-no_less, count-some}
use Rattle.shared_map.proofs.ordered.SharedMap.remove.Goals as goal

pub count_without-self-inside-requires : goal.count_without-self-inside-requires
count_without-self-inside-requires g c = λ there.
    let counted = rw (c.replace-root.ensures.value, c.in_ok-was_there.was) at
    c.take_from-root.ensures.count in
    count-some c.in_ok-was_there.was_there c.self.inside.len
    (length (pairs c.take_from-root.result.0)) (c.self.invariant.1 ∙ counted) there

pub invariant_of-self : goal.invariant_of-self
invariant_of-self g c =
    let kept = rw (c.replace-root.ensures.value, c.in_err-was_there.was) at
    c.take_from-root.ensures.err in (
      subst (λ es. IsStrictlySortedBy g.K.Ord.cmp (keys_of es)) (sym kept) c.self.invariant.0,
      c.self.invariant.1 ∙ ap length (sym kept),
      c.self.invariant.2,
    )

pub invariant_of-self-2 : goal.invariant_of-self-2
invariant_of-self-2 g c =
    let es = pairs c.self.inside.root in
    let after = pairs c.take_from-root.result.0 in
    let was_there = c.in_ok-was_there.was_there in
    let len = c.count_without-self-inside.result in
    let taken = rw (c.replace-root.ensures.value, c.in_ok-was_there.was) at
    c.take_from-root.ensures.ok in
    let counted = rw (c.replace-root.ensures.value, c.in_ok-was_there.was) at
    c.take_from-root.ensures.count in (
      subst (λ es. IsStrictlySortedBy g.K.Ord.cmp (keys_of es)) (sym (taken c.self.invariant.0))
          (ascends-remove_entry (is_at (g.Q.Query.compare c.args.key)) g.K.Ord.cmp es
          c.self.invariant.0),
      count-before was_there len (length after)
          (sym c.count_without-self-inside.ensures ∙ c.self.invariant.1 ∙ counted),
      omega (
        arith,
        c.count_without-self-inside.ensures,
        count-no_less was_there len,
        c.self.invariant.2,
      ),
    )
