-- The entry takes the place of one of its identity, and there is room for it.
use Rattle.std.proofs.Common.{◌∙◌, [], ◌∷◌, subst, sym}
use Rattle.std.specs.List.{filter}
use Rattle.entry_writes.specs.declared.entry.Entry.{Entry}
use Rattle.entry_writes.specs.State.{IsDirectory}
use Rattle.entry_writes.specs.Touched.{is_change}
use Rattle.entry_tree.proofs.Limits.{add_where_none}
use Rattle.entry_tree.proofs.Putting.{put_change, touched_put}
use Rattle.entry_tree.proofs.Weighing.{directory_put}
use Rattle.entry_tree.proofs.tree.Tree.judge_add.Goals as goal

pub returns-clause-plan : goal.returns-clause-plan
returns-clause-plan c =
    let es = c.args.self.now in
    let made : Entry = record { uuid = c.args.uuid; csn = c.args.csn; dn = c.args.dn.now; attrs = c.args.attrs.now } in
    let room = add_where_none c.args.suffix.now es c.args.dn.now c.args.attrs.now c.in_ok-entry.ensures.accepted in
    let held = subst (λ xs. IsDirectory xs c.self.inside.weight) c.self.view_is c.self.invariant.directory in
    record {
      ordered = held.ascends;
      exact = c.in_ok-change.ensures ∙ (λ i. filter is_change (put_change (c.get-was.ensures.value i) (c.in_ok-entry.ensures.value i) ∷ [])) ∙ sym (touched_put made es held.ascends);
      directory = directory_put made es c.self.inside.weight held room.0 room.1;
    }
