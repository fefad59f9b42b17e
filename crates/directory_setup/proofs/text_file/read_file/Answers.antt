use Rattle.std.proofs.Common.{◌∙◌, refl, rules}
use Rattle.std.proofs.lemmas.Result.{IfOk-weaker, on_err_weaker}
use Rattle.directory_setup.proofs.ReadTexts.{file_read, given_back}
use Rattle.directory_setup.proofs.text_file.read_file.Goals as goal

pub returns-in-Ok-clause-text : goal.returns-in-Ok-clause-text
returns-in-Ok-clause-text g c =
    IfOk-weaker c.read_text-found.result _ _
    (λ text read. file_read (g.F.Shelf.files c.args.shelf.now) c.args.name.now _ _ text c.in-Ok.ensures.file read)
    c.read_text-found.ensures.text

-- ---- the faults of the shelf

pub returns-in-Ok-clause-faults : goal.returns-in-Ok-clause-faults
returns-in-Ok-clause-faults g c =
    let came = c.in-Ok.ensures.faultless (λ e. let never : ⊥ = cc in never) in
    record {
      failed = IfOk-weaker c.read_text-found.result _ _
          (λ text rises is. given_back _ _ _ _ _ came c.in-Ok.ensures.sound (rises is) c.give_back.ensures.faulty)
          c.read_text-found.ensures.failed;
      sound = IfOk-weaker c.read_text-found.result _ _
          (λ text same other. c.give_back.ensures.sound (same other ∙ c.in-Ok.ensures.sound) ∙ came)
          c.read_text-found.ensures.sound;
      err = on_err_weaker c.read_text-found.result
          (λ same. c.give_back.ensures.sound (same ∙ c.in-Ok.ensures.sound) ∙ came)
          c.read_text-found.ensures.err;
      later = search rules;
    }

pub returns-in-Err-Failed-clause-faults : goal.returns-in-Err-Failed-clause-faults
returns-in-Err-Failed-clause-faults g c = record {
  failed = λ _. c.in-Err-Failed.ensures.failed (rw c.in-Err-Failed.field-0-is refl);
  sound = λ far. absurd (far refl);
  err = tt;
  later = c.in-Err-Failed.ensures.later;
}

-- where memory ran out

pub returns-in-Err-NoMemory-clause-faults : goal.returns-in-Err-NoMemory-clause-faults
returns-in-Err-NoMemory-clause-faults g c = record {
  failed = tt;
  sound = tt;
  err = c.in-Err-NoMemory.ensures.faultless (λ e. let never : ⊥ = cc in never);
  later = c.in-Err-NoMemory.ensures.later;
}
