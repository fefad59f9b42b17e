-- One more of them, none any more, or all.
use Rattle.std.proofs.Common.{◌≡◌, ◌≤◌, ◌∙◌, [], ◌∷◌, ◌++◌, None, Some, ap, arith, length, length-append, rules, subst, sym, true}
use Rattle.std.specs.List.Sorted.{IsStrictlySortedBy}
use Rattle.std.specs.Ordering.{nat_cmp}
use Rattle.std.proofs.lemmas.List.{take_all}
use Rattle.std.proofs.lemmas.Map.Entries.{length-keys_of}
use Rattle.entry_tree.specs.IdentityOrder.{above}
use Rattle.entry_tree.specs.Touched.{rises}
use Rattle.entry_tree.proofs.Following.{enough, no_more, one_more}
use Rattle.sync_provider.proofs.KeptChanges.{sorted_rise}
use Rattle.sync_provider.proofs.changed_set.ChangedSet.list.Goals as goal

pub loop-preserved : goal.loop-preserved
loop-preserved c =
    let ids = c.args.self.now in
    let up : rises ids ≡ true = sorted_rise ids (subst (IsStrictlySortedBy nat_cmp) c.self.view_is c.len-end.ensures.ordered) in
    let pushed : c.push.new.self.items ≡ c.loop.uuids.items ++ c.in-Some.uuid ∷ [] = search rules in
    let longer = length-append c.loop.uuids.items (c.in-Some.uuid ∷ []) in
    let long = ap length pushed in
    record {
      counted = omega (arith, long, longer, c.loop.invariant.counted);
      all =
          ap (λ us. us ++ above (Some c.in-Some.uuid) ids) pushed
          ∙ one_more None c.loop.last ids c.loop.uuids.items c.in-Some.uuid up c.loop.invariant.all (sym c.in-Some.is ∙ c.first_above.ensures);
    }

pub returns-in_default-clause-exact : goal.returns-in_default-clause-exact
returns-in_default-clause-exact c =
    let ids = c.args.self.now in
    let many : length ids ≤ c.len-end.result = let same = c.len-end.ensures.value ∙ sym (length-keys_of c.self.inside.uuids) ∙ ap length c.self.view_is in omega (arith, same) in
    no_more None c.loop.last ids c.loop.uuids.items c.len-end.result c.loop.invariant.all (sym c.in_default.is ∙ c.first_above.ensures) (omega (arith, c.loop.invariant.counted, c.loop-test.true))
    ∙ take_all c.len-end.result ids many

pub returns-in_default-clause-ascends : goal.returns-in_default-clause-ascends
returns-in_default-clause-ascends c =
    let ids = c.args.self.now in
    let many : length ids ≤ c.len-end.result = let same = c.len-end.ensures.value ∙ sym (length-keys_of c.self.inside.uuids) ∙ ap length c.self.view_is in omega (arith, same) in
    let exact : c.loop.uuids.items ≡ ids =
    no_more None c.loop.last ids c.loop.uuids.items c.len-end.result c.loop.invariant.all (sym c.in_default.is ∙ c.first_above.ensures) (omega (arith, c.loop.invariant.counted, c.loop-test.true))
    ∙ take_all c.len-end.result ids many in
    subst (IsStrictlySortedBy nat_cmp) (c.self.view_is ∙ sym exact) c.len-end.ensures.ordered

pub returns-clause-exact : goal.returns-clause-exact
returns-clause-exact c =
    let ids = c.args.self.now in
    let many : length ids ≤ c.len-end.result = let same = c.len-end.ensures.value ∙ sym (length-keys_of c.self.inside.uuids) ∙ ap length c.self.view_is in omega (arith, same) in
    enough None c.loop.last ids c.loop.uuids.items c.len-end.result c.loop.invariant.all (omega (arith, c.loop.invariant.counted, c.loop-test.false, c.loop.auto.counter-end))
    ∙ take_all c.len-end.result ids many

pub returns-clause-ascends : goal.returns-clause-ascends
returns-clause-ascends c =
    let ids = c.args.self.now in
    let many : length ids ≤ c.len-end.result = let same = c.len-end.ensures.value ∙ sym (length-keys_of c.self.inside.uuids) ∙ ap length c.self.view_is in omega (arith, same) in
    let exact : c.loop.uuids.items ≡ ids =
    enough None c.loop.last ids c.loop.uuids.items c.len-end.result c.loop.invariant.all (omega (arith, c.loop.invariant.counted, c.loop-test.false, c.loop.auto.counter-end))
    ∙ take_all c.len-end.result ids many in
    subst (IsStrictlySortedBy nat_cmp) (c.self.view_is ∙ sym exact) c.len-end.ensures.ordered
