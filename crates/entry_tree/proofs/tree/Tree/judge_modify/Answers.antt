-- The entry of the name is in its place.
use Rattle.std.proofs.Common.{◌≡◌, ◌+◌, Some, set, ap, sym, ◌∙◌, refl, subst}
use Rattle.std.specs.Map.{values_of}
use Rattle.std.proofs.lemmas.Result.{err_from_is_err_and}
use Rattle.schema_rules.specs.Attributes.{weight_of}
use Rattle.entry_writes.specs.declared.entry.Entry.{Entry}
use Rattle.entry_writes.specs.Codes.{modify_code}
use Rattle.entry_writes.specs.Fault.{HasOpCode}
use Rattle.entry_writes.specs.State.{is_named, entry_named, total_weight}
use Rattle.entry_writes.specs.Touched.{IsPlan}
use Rattle.entry_tree.proofs.Modifying.{placed, code_placed, effect_placed, touched_placed}
use Rattle.entry_tree.proofs.Moving.{held_where_found, part_le}
use Rattle.entry_tree.proofs.Replacing.{IsDirectory-replaced}
use Rattle.entry_tree.proofs.Weighing.{directory_total}
use Rattle.entry_tree.proofs.tree.Tree.judge_modify.Goals as goal

pub weight_without-others-requires : goal.weight_without-others-requires
weight_without-others-requires c =
    let es = values_of c.self.inside.entries in
    let name = c.args.dn.now in
    let e = c.in-Some.was.now in
    let found : entry_named es name ≡ Some e = ap (λ xs. entry_named xs name) c.self.view_is ∙ sym c.in-Some.ensures in
    let held = held_where_found (is_named name) es e c.self.invariant.directory.ascends found in
    record { part = part_le es e c.self.inside.weight c.self.invariant.directory held }

pub returns-in_err-entry-clause-refused : goal.returns-in_err-entry-clause-refused
returns-in_err-entry-clause-refused c =
    let es = values_of c.self.inside.entries in
    let name = c.args.dn.now in
    let e = c.in-Some.was.now in
    let view : c.args.self.now ≡ es = sym c.self.view_is in
    let found : entry_named es name ≡ Some e = ap (λ xs. entry_named xs name) c.self.view_is ∙ sym c.in-Some.ensures in
    let there = placed es name e c.self.invariant.directory.ascends found in
    let rest : c.weight_without-others.result + weight_of e.attrs ≡ total_weight es = c.weight_without-others.ensures ∙ c.self.invariant.directory.weighed in
    let code = code_placed es name there.0 e c.weight_without-others.result c.args.edits.now there.1 rest in
    let shown : HasOpCode (modify_code es (entry_named es name) c.args.edits.now) c.in_err-entry.field-0.0 = rw code c.in_err-entry.ensures.refused in
    let p = err_from_is_err_and c.from_residual.result c.from_residual.ensures.1 in
    rw (p.1, p.2, view) shown

pub returns-clause-accepted : goal.returns-clause-accepted
returns-clause-accepted c =
    let es = values_of c.self.inside.entries in
    let name = c.args.dn.now in
    let e = c.in-Some.was.now in
    let view : c.args.self.now ≡ es = sym c.self.view_is in
    let found : entry_named es name ≡ Some e = ap (λ xs. entry_named xs name) c.self.view_is ∙ sym c.in-Some.ensures in
    let there = placed es name e c.self.invariant.directory.ascends found in
    let rest : c.weight_without-others.result + weight_of e.attrs ≡ total_weight es = c.weight_without-others.ensures ∙ c.self.invariant.directory.weighed in
    rw view (code_placed es name there.0 e c.weight_without-others.result c.args.edits.now there.1 rest ∙ c.in_ok-entry.ensures.accepted)

pub returns-clause-plan : goal.returns-clause-plan
returns-clause-plan c =
    let es = values_of c.self.inside.entries in
    let name = c.args.dn.now in
    let e = c.in-Some.was.now in
    let found : entry_named es name ≡ Some e = ap (λ xs. entry_named xs name) c.self.view_is ∙ sym c.in-Some.ensures in
    let there = placed es name e c.self.invariant.directory.ascends found in
    let place = there.0 in
    let entry = c.in_ok-entry.entry in
    let value = c.in_ok-entry.ensures.value in
    let others = c.weight_without-others.result in
    let same = ap (λ (x : Entry). x.uuid) value in
    let made = ap (λ (x : Entry). set es place x) value ∙ effect_placed es name place e c.args.edits.now c.args.csn there.1 in
    let left = IsDirectory-replaced es c.self.inside.weight others (weight_of entry.attrs) place e entry c.self.invariant.directory there.1.within there.1.at same c.weight_without-others.ensures refl c.in_ok-entry.ensures.light in
    rw (← c.self.view_is)
    (subst (λ new. IsPlan es new c.in_ok-entry_changes.entry_changes) made
    (record {
      ordered = c.self.invariant.directory.ascends;
      exact = c.in_ok-entry_changes.ensures ∙ sym (touched_placed es name place e entry there.1 same);
      directory = directory_total (set es place entry) (others + weight_of entry.attrs) left;
    }))
