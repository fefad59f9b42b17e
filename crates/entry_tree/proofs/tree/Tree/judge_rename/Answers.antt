-- The entry that is found moves with all below it.
use Rattle.std.proofs.Common.{◌≡◌, ◌≤◌, ◌∙◌, ℕ, Option, None, Some, ap, map, sym, subst, true}
use Rattle.std.specs.Map.{values_of}
use Rattle.std.specs.Option.{option_or}
use Rattle.std.proofs.lemmas.Result.{err_from_is_err_and}
use Rattle.schema_rules.specs.Attributes.{entry_code, weight_of}
use Rattle.entry_writes.specs.Codes.{length_code, rename_code, target_code, weight_code}
use Rattle.entry_writes.specs.Effects.{moved, new_attributes, new_name, renamed}
use Rattle.entry_writes.specs.State.{ascends, entry_named, is_named, weight_with, most_weight}
use Rattle.entry_writes.specs.Touched.{IsPlan}
use Rattle.entry_writes.proofs.Firsts.{HasCode-same}
use Rattle.entry_tree.proofs.Moving.{held_where_found, held_seen, moved_plan}
use Rattle.entry_tree.proofs.tree.Tree.judge_rename.Goals as goal

pub renamed-requires : goal.renamed-requires
renamed-requires c =
    let asc : ascends c.args.self.now ≡ true = ap ascends (sym c.self.view_is) ∙ c.self.invariant.directory.ascends in
    held_where_found (is_named c.args.dn.now) c.args.self.now c.in-Some.top.now asc (sym c.in-Some.ensures)

-- the last of four codes, where none of the others is there
after_three : (one two three four : Option ℕ) (n : ℕ) → option_or one (option_or two three) ≡ None → four ≡ Some n → option_or one (option_or two (option_or three four)) ≡ Some n
after_three None None None four n none some = some
after_three None None (Some code) four n never some = let off : Some code ≡ None = never in absurd (cc)
after_three None (Some code) three four n never some = let off : Some code ≡ None = never in absurd (cc)
after_three (Some code) two three four n never some = let off : Some code ≡ None = never in absurd (cc)

pub returns-in_err-moved-clause-refused : goal.returns-in_err-moved-clause-refused
returns-in_err-moved-clause-refused c =
    let top = c.in-Some.top.now in
    let now = c.args.self.now in
    let suffix = c.args.suffix.now in
    let superior = c.args.superior.now in
    let attrs = new_attributes top c.args.rdn.now c.args.deletes in
    let name = new_name top c.args.rdn.now superior in
    let p = err_from_is_err_and c.from_residual-in_err-moved.result c.from_residual-in_err-moved.ensures.1 in
    rw (p.1, p.2)
    (HasCode-same (length_code now top c.in_ok-renamed.renamed.name) (rename_code suffix now (entry_named now c.args.dn.now) c.args.rdn.now c.args.deletes superior) _
    (λ n some. ap (λ found. rename_code suffix now found c.args.rdn.now c.args.deletes superior) (sym c.in-Some.ensures)
    ∙ after_three (target_code suffix now top name superior) (entry_code attrs) (weight_code (weight_of attrs) (weight_with now top (weight_of attrs))) (length_code now top name) n
    c.in_ok-renamed.ensures.accepted (ap (length_code now top) (sym c.in_ok-renamed.ensures.name) ∙ some))
    c.in_err-moved.ensures.refused)

pub returns-clause-plan : goal.returns-clause-plan
returns-clause-plan c =
    let top = c.in-Some.top.now in
    let es = values_of c.self.inside.entries in
    let now = c.args.self.now in
    let new = c.in_ok-renamed.renamed in
    let asc : ascends now ≡ true = ap ascends (sym c.self.view_is) ∙ c.self.invariant.directory.ascends in
    let held = held_where_found (is_named c.args.dn.now) now top asc (sym c.in-Some.ensures) in
    let light : weight_with es top (weight_of new.attrs) ≤ most_weight = rw c.self.view_is c.in_ok-renamed.ensures.light in
    let plan = moved_plan top new.name new.attrs c.args.csn es now c.self.inside.weight c.in_ok-moved.moved c.self.invariant.directory (held_seen es now top c.self.view_is held) light (sym c.self.view_is) c.in_ok-moved.ensures.entry_changes in
    let leads = (λ i. map (moved top (c.in_ok-renamed.ensures.name i) (c.in_ok-renamed.ensures.attrs i) c.args.csn) (c.self.view_is i))
    ∙ ap (λ found. renamed now found c.args.rdn.now c.args.deletes c.args.superior.now c.args.csn) c.in-Some.ensures in
    subst (λ xs. IsPlan xs (renamed now (entry_named now c.args.dn.now) c.args.rdn.now c.args.deletes c.args.superior.now c.args.csn) c.in_ok-moved.moved) c.self.view_is
    (subst (λ xs. IsPlan es xs c.in_ok-moved.moved) leads plan)
