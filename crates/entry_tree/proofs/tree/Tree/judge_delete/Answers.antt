-- The entries of the name go.
use Rattle.std.proofs.Common.{◌≡◌, ◌∙◌, ◌-◌, Bor, not, ap, map, sym}
use Rattle.std.specs.List.{filter}
use Rattle.std.specs.Map.{values_of}
use Rattle.entry_writes.specs.declared.entry.Entry.{Entry}
use Rattle.entry_writes.specs.State.{is_named, total_weight}
use Rattle.entry_tree.proofs.Directory.{without_passing}
use Rattle.entry_tree.proofs.Removed.{removed, touched_removed}
use Rattle.entry_tree.proofs.Weighing.{directory_total}
use Rattle.entry_tree.proofs.tree.Tree.judge_delete.Goals as goal

pub check_delete-requires : goal.check_delete-requires
check_delete-requires c = ap (map (λ (e : Bor Entry). e.now)) c.as_slice-named.ensures.value ∙ c.in_ok-entries.ensures

pub returns-clause-plan : goal.returns-clause-plan
returns-clause-plan c =
    let goes = is_named c.args.dn.now in
    let es = values_of c.self.inside.entries in
    let named : map (λ (e : Bor Entry). e.now) c.as_slice-named.result.now ≡ filter goes es =
    ap (map (λ (e : Bor Entry). e.now)) c.as_slice-named.ensures.value ∙ c.in_ok-entries.ensures ∙ ap (filter goes) (sym c.self.view_is)
    in
    rw (← c.self.view_is)
    (record {
      ordered = c.self.invariant.directory.ascends;
      exact = c.in_ok-removals.ensures ∙ ap (map removed) named ∙ sym (touched_removed goes es c.self.invariant.directory.ascends);
      directory = directory_total (filter (λ e. not (goes e)) es) (c.self.inside.weight - total_weight (filter goes es)) (without_passing goes es c.self.inside.weight c.self.invariant.directory);
    })
