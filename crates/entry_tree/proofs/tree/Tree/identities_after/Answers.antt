-- One more of them, none any more, or enough.
use Rattle.std.proofs.Common.{◌≡◌, ◌∙◌, [], ◌∷◌, ◌++◌, Some, ap, arith, length, length-append, rules, subst, sym, take, true}
use Rattle.std.specs.List.Sorted.{IsStrictlySortedBy}
use Rattle.std.specs.Ordering.{nat_cmp}
use Rattle.entry_writes.specs.State.{ascends}
use Rattle.entry_writes.specs.Touched.{identities, rises}
use Rattle.entry_tree.specs.IdentityOrder.{above}
use Rattle.entry_tree.proofs.Following.{above_sorted, enough, identities_rise, no_more, one_more}
use Rattle.entry_tree.proofs.tree.Tree.identities_after.Goals as goal

pub loop-preserved : goal.loop-preserved
loop-preserved c =
    let ids = identities c.args.self.now in
    let up : rises ids ≡ true = identities_rise c.args.self.now (ap ascends (sym c.self.view_is) ∙ c.self.invariant.directory.ascends) in
    let pushed : c.push.new.self.items ≡ c.loop.uuids.items ++ c.in-Some.uuid ∷ [] = search rules in
    let longer = length-append c.loop.uuids.items (c.in-Some.uuid ∷ []) in
    let long = ap length pushed in
    record {
      counted = omega (arith, long, longer, c.loop.invariant.counted);
      all =
          ap (λ us. us ++ above (Some c.in-Some.uuid) ids) pushed
          ∙ one_more c.args.after c.loop.last ids c.loop.uuids.items c.in-Some.uuid up c.loop.invariant.all (sym c.in-Some.is ∙ c.identity_after.ensures);
    }

pub returns-in_default-clause-exact : goal.returns-in_default-clause-exact
returns-in_default-clause-exact c =
    no_more c.args.after c.loop.last (identities c.args.self.now) c.loop.uuids.items c.args.most c.loop.invariant.all (sym c.in_default.is ∙ c.identity_after.ensures)
    (omega (arith, c.loop.invariant.counted, c.loop-test.true))

pub returns-in_default-clause-ascends : goal.returns-in_default-clause-ascends
returns-in_default-clause-ascends c =
    let ids = identities c.args.self.now in
    let up : rises ids ≡ true = identities_rise c.args.self.now (ap ascends (sym c.self.view_is) ∙ c.self.invariant.directory.ascends) in
    let exact : c.loop.uuids.items ≡ take c.args.most (above c.args.after ids) =
    no_more c.args.after c.loop.last ids c.loop.uuids.items c.args.most c.loop.invariant.all (sym c.in_default.is ∙ c.identity_after.ensures)
    (omega (arith, c.loop.invariant.counted, c.loop-test.true)) in
    subst (IsStrictlySortedBy nat_cmp) (sym exact) (above_sorted c.args.after c.args.most ids up)

pub returns-clause-exact : goal.returns-clause-exact
returns-clause-exact c =
    enough c.args.after c.loop.last (identities c.args.self.now) c.loop.uuids.items c.args.most c.loop.invariant.all
    (omega (arith, c.loop.invariant.counted, c.loop-test.false, c.loop.auto.counter-end))

pub returns-clause-ascends : goal.returns-clause-ascends
returns-clause-ascends c =
    let ids = identities c.args.self.now in
    let up : rises ids ≡ true = identities_rise c.args.self.now (ap ascends (sym c.self.view_is) ∙ c.self.invariant.directory.ascends) in
    let exact : c.loop.uuids.items ≡ take c.args.most (above c.args.after ids) =
    enough c.args.after c.loop.last ids c.loop.uuids.items c.args.most c.loop.invariant.all
    (omega (arith, c.loop.invariant.counted, c.loop-test.false, c.loop.auto.counter-end)) in
    subst (IsStrictlySortedBy nat_cmp) (sym exact) (above_sorted c.args.after c.args.most ids up)
