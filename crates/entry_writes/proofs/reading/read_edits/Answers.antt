-- The next edit is refused, or goes last.
use Rattle.std.proofs.Common.{◌≡◌, ◌++◌, ◌∷◌, [], true, ap, sym, ◌∙◌, refl}
use Rattle.std.specs.List.{filter_map, list_all}
use Rattle.std.specs.Result.{result_err}
use Rattle.std.proofs.lemmas.Bool.{and_from}
use Rattle.std.proofs.lemmas.List.Folds.{list_all-append}
use Rattle.std.proofs.lemmas.Result.{err_from_is_err_and}
use Rattle.schema_rules.proofs.Lists.{filter_map_some}
use Rattle.entry_writes.specs.Reading.{raw_code, typed, typed_edits, read_edits}
use Rattle.entry_writes.specs.Sound.{is_sound_edit}
use Rattle.entry_writes.proofs.Firsts.{first_code_none, first_code_some, HasCode-same}
use Rattle.entry_writes.proofs.reading.read_edits.Goals as goal

pub returns-in_err-edit-clause-fault : goal.returns-in_err-edit-clause-fault
returns-in_err-edit-clause-fault c =
    let raws = c.args.raws.now in
    let listed = c.list-raw-items.result.now in
    let p = err_from_is_err_and c.from_residual.result c.from_residual.ensures.1 in
    let same : listed ≡ raws = c.list-raw-items.ensures in
    rw (p.1, p.2) (HasCode-same (raw_code c.raw-item.result) (result_err (read_edits raws)) _
    (λ n some.
    ap (λ xs. result_err (read_edits xs)) (sym same)
    ∙ ap (λ o. result_err (typed_edits o (filter_map typed listed)))
    (first_code_some raw_code listed _ _ n c.loop-raw-test.true c.raw-item.is c.loop-raw.invariant.none some)) c.in_err-edit.ensures.fault)

pub loop-raw-preserved : goal.loop-raw-preserved
loop-raw-preserved c =
    let listed = c.list-raw-items.result.now in
    let edit = c.in_ok-edit.edit in
    let low = c.loop-raw-test.true in
    let grown = c.in_ok-push.ensures.ok in
    record {
      read = grown ∙ ap (λ xs. xs ++ edit ∷ []) c.loop-raw.invariant.read
          ∙ sym (filter_map_some typed listed _ c.raw-item.result edit low c.raw-item.is c.in_ok-edit.ensures.typed);
      none = first_code_none raw_code listed _ c.raw-item.result low c.raw-item.is c.loop-raw.invariant.none c.in_ok-edit.ensures.ok;
      sound = ap (list_all is_sound_edit) grown ∙ list_all-append is_sound_edit c.loop-raw.edits (edit ∷ [])
          ∙ and_from (list_all is_sound_edit c.loop-raw.edits) (list_all is_sound_edit (edit ∷ [])) c.loop-raw.invariant.sound
          (and_from (is_sound_edit edit) true c.in_ok-edit.ensures.sound refl);
    }
