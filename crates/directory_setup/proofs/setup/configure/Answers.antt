use Rattle.std.proofs.Common.{◌≡◌, inl, inr, refl, sym}
use Rattle.std.proofs.lemmas.Result.{err_from_is_err_and}
use Rattle.directory_setup.specs.declared.setup.Configured.TheVariants.{Config, ReadFault, Refused}
use Rattle.directory_setup.proofs.ReadFaults.{read_fails, reads_in_part, reads_well}
use Rattle.directory_setup.proofs.ReadTexts.{text_came}
use Rattle.directory_setup.proofs.setup.configure.Goals as goal

pub returns-in-Some-clause-configures : goal.returns-in-Some-clause-configures
returns-in-Some-clause-configures g c = (
  c.in-Text.text,
  rw c.in-Text.is at c.in_ok-found.ensures.text,
  inl (record {
    line = c.in-Some.passed.line;
    limit = c.in-Some.passed.limit;
    passed = sym (rw c.as_slice-bytes.ensures at c.in-Some.ensures);
    refusal_is = refl;
  }),
)

pub returns-in-Ok-clause-configures : goal.returns-in-Ok-clause-configures
returns-in-Ok-clause-configures g c = record {
  text = c.in-Text.text;
  file = rw c.in-Text.is at c.in_ok-found.ensures.text;
  short = sym (rw c.as_slice-bytes.ensures at c.in_default.ensures);
  read = rw c.as_slice-bytes.ensures at c.in-Ok.ensures.ok;
}

pub returns-clause-configures : goal.returns-clause-configures
returns-clause-configures g c = (
  c.in-Text.text,
  rw c.in-Text.is at c.in_ok-found.ensures.text,
  inr (sym (rw c.as_slice-bytes.ensures at c.in_default.ensures), c.in-Err.fault, c.in_ok-refusal-in-Err.ensures.0, rw c.as_slice-bytes.ensures at c.in-Err.ensures.fault, c.in_ok-refusal-in-Err.ensures.1),
)

-- ---- the faults of the shelf

pub returns-in-Failed-clause-faults : goal.returns-in-Failed-clause-faults
returns-in-Failed-clause-faults g c = read_fails _ _ ReadFault _ _ c.in_ok-found.ensures.faults c.in-Failed.is

pub returns-in-Some-clause-faults : goal.returns-in-Some-clause-faults
returns-in-Some-clause-faults g c =
    reads_well _ _ ReadFault _ _ _ c.in_ok-found.ensures.faults (text_came _ c.in-Text.text c.in-Text.is)
    (λ is. let wrong : Refused _ ≡ ReadFault = is in cc)

pub returns-in-Ok-clause-faults : goal.returns-in-Ok-clause-faults
returns-in-Ok-clause-faults g c =
    reads_well _ _ ReadFault _ _ _ c.in_ok-found.ensures.faults (text_came _ c.in-Text.text c.in-Text.is)
    (λ is. let wrong : Config _ ≡ ReadFault = is in cc)

pub returns-clause-faults : goal.returns-clause-faults
returns-clause-faults g c =
    reads_well _ _ ReadFault _ _ _ c.in_ok-found.ensures.faults (text_came _ c.in-Text.text c.in-Text.is)
    (λ is. let wrong : Refused _ ≡ ReadFault = is in cc)

-- where memory ran out

pub returns-in_err-found-clause-faults : goal.returns-in_err-found-clause-faults
returns-in_err-found-clause-faults g c =
    let ran = err_from_is_err_and c.from_residual.result c.from_residual.ensures.1 in
    reads_in_part _ c.from_residual.result ran.0 _ _ ran.1 c.in_err-found.ensures.faults.err

pub returns-in_err-refusal-in-Err-clause-faults : goal.returns-in_err-refusal-in-Err-clause-faults
returns-in_err-refusal-in-Err-clause-faults g c =
    let ran = err_from_is_err_and c.from_residual-in_err-refusal-in-Err.result c.from_residual-in_err-refusal-in-Err.ensures.1 in
    reads_in_part _ c.from_residual-in_err-refusal-in-Err.result ran.0 _ _ ran.1
    (c.in_ok-found.ensures.faults.sound (text_came _ c.in-Text.text c.in-Text.is))
