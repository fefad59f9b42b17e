-- None, all that is left, or as many as a piece has.
use Rattle.std.proofs.Common.{rules, ◌≡◌, ◌+◌, ◌-◌, arith, drop, length, take, subst, sym, ◌∙◌}
use Rattle.std.specs.List.Sorted.{IsStrictlySortedBy}
use Rattle.std.specs.Ordering.{nat_cmp}
use Rattle.sync_slices.specs.Slices.{most_decided}
use Rattle.sync_provider.proofs.WalkedOver.{none_sorted, piece_all, piece_first, piece_sorted}
use Rattle.sync_provider.proofs.walk.Walk.next_of.Goals as goal

pub returns-then-uuids-next-clause-ascends : goal.returns-then-uuids-next-clause-ascends
returns-then-uuids-next-clause-ascends c = subst (IsStrictlySortedBy nat_cmp) (sym c.new.ensures.items) none_sorted

pub returns-then-uuids-next-le-MOST_DECIDED-clause-exact : goal.returns-then-uuids-next-le-MOST_DECIDED-clause-exact
returns-then-uuids-next-le-MOST_DECIDED-clause-exact c =
    let us = c.args.uuids.now in
    let next = c.args.next in
    let same : c.in_ok-piece.piece.items ≡ take (length us - next) (drop next us) = search rules in
    same ∙ piece_all most_decided next us (omega (arith, c.if-uuids-next-le-MOST_DECIDED.true))

pub returns-then-uuids-next-le-MOST_DECIDED-clause-ascends : goal.returns-then-uuids-next-le-MOST_DECIDED-clause-ascends
returns-then-uuids-next-le-MOST_DECIDED-clause-ascends c =
    let us = c.args.uuids.now in
    let next = c.args.next in
    let same : c.in_ok-piece.piece.items ≡ take (length us - next) (drop next us) = search rules in
    let exact = same ∙ piece_all most_decided next us (omega (arith, c.if-uuids-next-le-MOST_DECIDED.true)) in
    subst (IsStrictlySortedBy nat_cmp) (sym exact) (piece_sorted most_decided next us c.requires)

pub returns-clause-exact : goal.returns-clause-exact
returns-clause-exact c =
    let us = c.args.uuids.now in
    let next = c.args.next in
    let same : c.in_ok-piece-2.piece.items ≡ take (next + most_decided - next) (drop next us) = search rules in
    same ∙ piece_first most_decided next us

pub returns-clause-ascends : goal.returns-clause-ascends
returns-clause-ascends c =
    let us = c.args.uuids.now in
    let next = c.args.next in
    let same : c.in_ok-piece-2.piece.items ≡ take (next + most_decided - next) (drop next us) = search rules in
    let exact = same ∙ piece_first most_decided next us in
    subst (IsStrictlySortedBy nat_cmp) (sym exact) (piece_sorted most_decided next us c.requires)
