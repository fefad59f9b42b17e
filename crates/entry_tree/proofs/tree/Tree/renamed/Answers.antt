-- The codes against the new name and attributes, one after another.
use Rattle.std.proofs.Common.{◌≡◌, ◌+◌, None, ap, sym, ◌∙◌, arith}
use Rattle.std.specs.Map.{values_of}
use Rattle.std.specs.Option.{option_or}
use Rattle.std.specs.Result.{result_ok}
use Rattle.std.proofs.lemmas.Result.{err_from_is_err_and}
use Rattle.ldap_constants.specs.declared.result_codes.TheConstants.{ADMIN_LIMIT_EXCEEDED}
use Rattle.schema_rules.specs.Attributes.{entry_code, weight_of}
use Rattle.dn_names.specs.Reading.{limited}
use Rattle.entry_writes.specs.Codes.{target_code, weight_code, length_code, moved_code}
use Rattle.entry_writes.specs.Effects.{new_name, new_attributes}
use Rattle.entry_writes.specs.State.{is_identified, weight_with}
use Rattle.entry_writes.proofs.Firsts.{HasCode-same}
use Rattle.entry_tree.proofs.Limits.{light_where_none, third_some, three_none, fourth_some}
use Rattle.entry_tree.proofs.Moving.{held_seen, part_le, weight_judged, name_is, attributes_are, long_where_none, too_long_top}
use Rattle.entry_tree.proofs.tree.Tree.renamed.Goals as goal

pub weight_without-requires : goal.weight_without-requires
weight_without-requires c =
    let part = part_le (values_of c.self.inside.entries) c.args.top.now c.self.inside.weight c.self.invariant.directory (held_seen (values_of c.self.inside.entries) c.args.self.now c.args.top.now c.self.view_is c.requires) in
    omega (arith, part)

pub returns-in_err-check_target-clause-refused : goal.returns-in_err-check_target-clause-refused
returns-in_err-check_target-clause-refused c =
    let top = c.args.top.now in
    let now = c.args.self.now in
    let attrs = new_attributes top c.args.rdn.now c.args.deletes in
    let name = new_name top c.args.rdn.now c.args.superior.now in
    let later = option_or (entry_code attrs) (option_or (weight_code (weight_of attrs) (weight_with now top (weight_of attrs))) (length_code now top name)) in
    let p = err_from_is_err_and c.from_residual-in_err-check_target.result c.from_residual-in_err-check_target.ensures.1 in
    rw (p.1, p.2)
    (HasCode-same (target_code c.args.suffix.now now top name c.args.superior.now) (moved_code c.args.suffix.now now top name attrs c.args.superior.now) _
    (λ n some. ap (λ code. option_or code later) some)
    (c.in_err-check_target.ensures.fault name (name_is top c.args.rdn.now c.in_ok-above.above c.args.superior.now c.in_ok-name.name c.in_ok-above.ensures c.in_ok-name.ensures)))

pub returns-in_err-check_weight-clause-refused : goal.returns-in_err-check_weight-clause-refused
returns-in_err-check_weight-clause-refused c =
    let top = c.args.top.now in
    let es = values_of c.self.inside.entries in
    let attrs = c.in_ok-attrs.attrs in
    let now = new_attributes top c.args.rdn.now c.args.deletes in
    let name = new_name top c.args.rdn.now c.args.superior.now in
    let are : attrs ≡ now = attributes_are top c.args.rdn.now c.own_pairs.result.now c.args.deletes attrs c.in_ok-attrs.ensures c.own_pairs.ensures in
    let target = ap (λ xs. target_code c.args.suffix.now xs top name c.args.superior.now) c.self.view_is ∙ c.in_ok-check_target.ensures.ok name (name_is top c.args.rdn.now c.in_ok-above.above c.args.superior.now c.in_ok-name.name c.in_ok-above.ensures c.in_ok-name.ensures) in
    let judged = weight_judged es top attrs c.self.inside.weight c.weight_without.result c.weight.result c.self.invariant.directory (held_seen es c.args.self.now top c.self.view_is c.requires) c.weight_without.ensures c.weight.ensures in
    let p = err_from_is_err_and c.from_residual-in_err-check_weight.result c.from_residual-in_err-check_weight.ensures.1 in
    rw (p.1, p.2, ← c.self.view_is, ← are)
    (HasCode-same (weight_code c.weight.result (c.weight_without.result + c.weight.result)) (moved_code c.args.suffix.now es top name attrs c.args.superior.now) _
    (λ n some. third_some (target_code c.args.suffix.now es top name c.args.superior.now) (entry_code attrs) (weight_code (weight_of attrs) (weight_with es top (weight_of attrs))) (length_code es top name) n
    target c.in_ok-check_entry.ensures.ok (sym judged ∙ some))
    c.in_err-check_weight.ensures.fault)

pub returns-in-None-clause-refused : goal.returns-in-None-clause-refused
returns-in-None-clause-refused c =
    let top = c.args.top.now in
    let es = values_of c.self.inside.entries in
    let attrs = c.in_ok-attrs.attrs in
    let now = new_attributes top c.args.rdn.now c.args.deletes in
    let name = new_name top c.args.rdn.now c.args.superior.now in
    let held = held_seen es c.args.self.now top c.self.view_is c.requires in
    let are : attrs ≡ now = attributes_are top c.args.rdn.now c.own_pairs.result.now c.args.deletes attrs c.in_ok-attrs.ensures c.own_pairs.ensures in
    let target = ap (λ xs. target_code c.args.suffix.now xs top name c.args.superior.now) c.self.view_is ∙ c.in_ok-check_target.ensures.ok name (name_is top c.args.rdn.now c.in_ok-above.above c.args.superior.now c.in_ok-name.name c.in_ok-above.ensures c.in_ok-name.ensures) in
    let judged = weight_judged es top attrs c.self.inside.weight c.weight_without.result c.weight.result c.self.invariant.directory held c.weight_without.ensures c.weight.ensures in
    let none : result_ok (limited name) ≡ None = sym (name_is top c.args.rdn.now c.in_ok-above.above c.args.superior.now c.in_ok-name.name c.in_ok-above.ensures c.in_ok-name.ensures) ∙ c.in-None.is in
    rw (← c.self.view_is, ← are)
    (fourth_some (target_code c.args.suffix.now es top name c.args.superior.now) (entry_code attrs) (weight_code (weight_of attrs) (weight_with es top (weight_of attrs))) (length_code es top name) ADMIN_LIMIT_EXCEEDED
    target c.in_ok-check_entry.ensures.ok (sym judged ∙ c.in_ok-check_weight.ensures.ok) (too_long_top (is_identified top.uuid) es top name held (long_where_none name none)))

pub returns-clause-light : goal.returns-clause-light
returns-clause-light c =
    let top = c.args.top.now in
    let es = values_of c.self.inside.entries in
    let attrs = c.in_ok-attrs.attrs in
    let judged = weight_judged es top attrs c.self.inside.weight c.weight_without.result c.weight.result c.self.invariant.directory (held_seen es c.args.self.now top c.self.view_is c.requires) c.weight_without.ensures c.weight.ensures in
    rw (← c.self.view_is) (light_where_none (weight_of attrs) (weight_with es top (weight_of attrs)) (sym judged ∙ c.in_ok-check_weight.ensures.ok))

pub returns-clause-accepted : goal.returns-clause-accepted
returns-clause-accepted c =
    let top = c.args.top.now in
    let es = values_of c.self.inside.entries in
    let attrs = c.in_ok-attrs.attrs in
    let now = new_attributes top c.args.rdn.now c.args.deletes in
    let name = new_name top c.args.rdn.now c.args.superior.now in
    let are : attrs ≡ now = attributes_are top c.args.rdn.now c.own_pairs.result.now c.args.deletes attrs c.in_ok-attrs.ensures c.own_pairs.ensures in
    let target = ap (λ xs. target_code c.args.suffix.now xs top name c.args.superior.now) c.self.view_is ∙ c.in_ok-check_target.ensures.ok name (name_is top c.args.rdn.now c.in_ok-above.above c.args.superior.now c.in_ok-name.name c.in_ok-above.ensures c.in_ok-name.ensures) in
    let judged = weight_judged es top attrs c.self.inside.weight c.weight_without.result c.weight.result c.self.invariant.directory (held_seen es c.args.self.now top c.self.view_is c.requires) c.weight_without.ensures c.weight.ensures in
    rw (← c.self.view_is, ← are)
    (three_none (target_code c.args.suffix.now es top name c.args.superior.now) (entry_code attrs) (weight_code (weight_of attrs) (weight_with es top (weight_of attrs)))
    target c.in_ok-check_entry.ensures.ok (sym judged ∙ c.in_ok-check_weight.ensures.ok))
