-- The next edit is refused, or made.
use Rattle.std.proofs.Common.{◌≡◌, take, ap, sym, ◌∙◌}
use Rattle.std.proofs.lemmas.List.Sums.{AllPass-from_list_all}
use Rattle.std.proofs.lemmas.Result.{err_from_is_err_and}
use Rattle.entry_writes.specs.Edits.{after_edit, after_edits, edit_code, edits_code}
use Rattle.entry_writes.specs.Sound.{is_sound_edit}
use Rattle.entry_writes.proofs.Editing.{after_edits_more, edits_code_none, edits_code_some}
use Rattle.entry_writes.proofs.Firsts.{HasCode-same}
use Rattle.entry_writes.proofs.changing.edited.Goals as goal

pub after_edit-requires : goal.after_edit-requires
after_edit-requires c =
    ap is_sound_edit c.edit-item.is ∙ AllPass-from_list_all is_sound_edit c.args.edits.now c.requires _ c.edit-item.result c.loop-edit-test.true

pub returns-in_err-check_edit-clause-fault : goal.returns-in_err-check_edit-clause-fault
returns-in_err-check_edit-clause-fault c =
    let attrs = c.args.attrs.now in
    let edits = c.args.edits.now in
    let edit = c.edit-item.result in
    let p = err_from_is_err_and c.from_residual-in_err-check_edit.result c.from_residual-in_err-check_edit.ensures.1 in
    let held : c.list.result.now ≡ after_edits attrs (take c.loop-edit.edit-index edits) = c.list.ensures.value ∙ c.loop-edit.invariant.made in
    rw (p.1, p.2) (HasCode-same (edit_code c.list.result.now edit) (edits_code attrs edits) _
    (λ n some. edits_code_some attrs edits _ edit n c.loop-edit-test.true c.edit-item.is c.loop-edit.invariant.none (ap (λ xs. edit_code xs edit) (sym held) ∙ some))
    c.in_err-check_edit.ensures.fault)

pub loop-edit-preserved : goal.loop-edit-preserved
loop-edit-preserved c =
    let attrs = c.args.attrs.now in
    let edits = c.args.edits.now in
    let edit = c.edit-item.result in
    let held : c.list.result.now ≡ after_edits attrs (take c.loop-edit.edit-index edits) = c.list.ensures.value ∙ c.loop-edit.invariant.made in
    record {
      made = c.in_ok-after-2.ensures ∙ ap (λ xs. after_edit xs edit) c.loop-edit.invariant.made
          ∙ sym (after_edits_more attrs edits _ edit c.loop-edit-test.true c.edit-item.is);
      none = edits_code_none attrs edits _ edit c.loop-edit-test.true c.edit-item.is c.loop-edit.invariant.none
          (ap (λ xs. edit_code xs edit) (sym held) ∙ c.in_ok-check_edit.ensures.ok);
    }
