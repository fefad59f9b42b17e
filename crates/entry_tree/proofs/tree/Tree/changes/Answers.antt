-- The last entry of each identity that is put is what it has after the commit.
use Rattle.std.proofs.Common.{◌≡◌, ◌∙◌, true, [], ◌∷◌, length, ap, sym, arith}
use Rattle.std.specs.Prelude.{IfOk}
use Rattle.std.proofs.lemmas.Bool.{eqb-true}
use Rattle.std.proofs.lemmas.Result.{IfOk-weaker}
use Rattle.std.specs.BTreeMap as btree
use Rattle.std.specs.Option.{option_copied}
use Rattle.std.specs.Ordering.{nat_cmp}
use Rattle.entry_writes.specs.Effects.{committed}
use Rattle.entry_writes.specs.State.{ascends}
use Rattle.entry_writes.specs.Touched.{touched}
use Rattle.entry_tree.proofs.Committing.{ids}
use Rattle.entry_tree.proofs.Latest.{alone_only, touched_latest}
use Rattle.entry_tree.proofs.tree.Tree.changes.Goals as goal

pub returns-then-is_empty-clause-exact : goal.returns-then-is_empty-clause-exact
returns-then-is_empty-clause-exact c =
    let es = c.args.self.now in
    let puts = c.args.puts.now in
    let drops = c.args.drops.now in
    let e = c.entry-item.result in
    let one : length puts ≡ 1 = omega arith in
    let none : length drops ≡ 0 = eqb-true (length drops) 0 (sym c.is_empty.ensures ∙ c.if-is_empty.true) in
    IfOk-weaker c.change_to.result (λ changes. changes ≡ touched es (committed es (e ∷ []) [])) (λ changes. changes ≡ touched es (committed es puts drops))
    (λ changes is. is ∙ alone_only es puts drops e one c.entry-item.is none) c.change_to.ensures.exact

pub returns-then-is_empty-clause-ascends : goal.returns-then-is_empty-clause-ascends
returns-then-is_empty-clause-ascends c = c.change_to.ensures.ascends

pub returns-clause-exact : goal.returns-clause-exact
returns-clause-exact c =
    let es = c.args.self.now in
    let puts = c.args.puts.now in
    let drops = c.args.drops.now in
    let asc : ascends es ≡ true = ap ascends (sym c.self.view_is) ∙ c.self.invariant.directory.ascends in
    let named : c.deref.result.now ≡ ids puts drops = c.deref.ensures.value ∙ c.in_ok-uuids.ensures in
    let is = touched_latest es puts drops (λ u. option_copied (btree.get nat_cmp c.in_ok-latest.latest u)) asc c.in_ok-latest.ensures in
    let exact : IfOk c.differences.result (λ changes. changes ≡ touched es (committed es puts drops)) = rw (← is, ← named) c.differences.ensures in
    exact
