use Rattle.std.proofs.Common.{◌≡◌, inl, inr, refl, sym}
use Rattle.std.proofs.lemmas.Result.{err_from_is_err_and}
use Rattle.directory_setup.specs.declared.setup.Loading.TheVariants.{Loaded, NotRead, RefusedAt}
use Rattle.directory_setup.proofs.ReadFaults.{read_fails, reads_in_part, reads_nothing, reads_well}
use Rattle.directory_setup.proofs.ReadTexts.{text_came}
use Rattle.directory_setup.proofs.setup.load.Goals as goal

pub returns-in_default-clause-loads : goal.returns-in_default-clause-loads
returns-in_default-clause-loads g c = rw c.in_default.is refl

pub returns-in-Some-too_long-clause-loads : goal.returns-in-Some-too_long-clause-loads
returns-in-Some-too_long-clause-loads g c =
    rw c.in-Some.is (
      c.in-Text.text,
      rw (c.in-Text.is, c.as_str.ensures) at c.in_ok-found.ensures.text,
      inl (record {
        line = c.in-Some-too_long.passed.line;
        limit = c.in-Some-too_long.passed.limit;
        passed = sym (rw c.as_slice-bytes.ensures at c.in-Some-too_long.ensures);
        refusal_is = refl;
      }),
    )

pub returns-in-Filled-clause-loads : goal.returns-in-Filled-clause-loads
returns-in-Filled-clause-loads g c =
    rw c.in-Some.is (
      c.in-Text.text,
      rw (c.in-Text.is, c.as_str.ensures) at c.in_ok-found.ensures.text,
      sym (rw c.as_slice-bytes.ensures at c.in_default-too_long.ensures),
      rw (c.in-Filled.is, c.as_slice-bytes.ensures) at c.in_ok-filling.ensures.fills,
    )

pub returns-clause-loads : goal.returns-clause-loads
returns-clause-loads g c =
    rw c.in-Some.is (
      c.in-Text.text,
      rw (c.in-Text.is, c.as_str.ensures) at c.in_ok-found.ensures.text,
      inr (sym (rw c.as_slice-bytes.ensures at c.in_default-too_long.ensures), c.in-Refused.line, c.in-Refused.cause, _, rw (c.in-Refused.is, c.as_slice-bytes.ensures) at c.in_ok-filling.ensures.fills, refl),
    )

-- ---- the faults of the shelf

pub returns-in_default-clause-faults : goal.returns-in_default-clause-faults
returns-in_default-clause-faults g c = reads_nothing NotRead Loaded _ (λ is. let wrong : Loaded ≡ NotRead = is in cc)

pub returns-in-Failed-clause-faults : goal.returns-in-Failed-clause-faults
returns-in-Failed-clause-faults g c = read_fails _ _ NotRead _ _ c.in_ok-found.ensures.faults c.in-Failed.is

pub returns-in-Some-too_long-clause-faults : goal.returns-in-Some-too_long-clause-faults
returns-in-Some-too_long-clause-faults g c =
    reads_well _ _ NotRead _ _ _ c.in_ok-found.ensures.faults (text_came _ c.in-Text.text c.in-Text.is)
    (λ is. let wrong : RefusedAt _ _ ≡ NotRead = is in cc)

pub returns-in-Filled-clause-faults : goal.returns-in-Filled-clause-faults
returns-in-Filled-clause-faults g c =
    reads_well _ _ NotRead _ _ _ c.in_ok-found.ensures.faults (text_came _ c.in-Text.text c.in-Text.is)
    (λ is. let wrong : Loaded ≡ NotRead = is in cc)

pub returns-clause-faults : goal.returns-clause-faults
returns-clause-faults g c =
    reads_well _ _ NotRead _ _ _ c.in_ok-found.ensures.faults (text_came _ c.in-Text.text c.in-Text.is)
    (λ is. let wrong : RefusedAt _ _ ≡ NotRead = is in cc)

-- where memory ran out

pub returns-in_err-found-clause-faults : goal.returns-in_err-found-clause-faults
returns-in_err-found-clause-faults g c =
    let ran = err_from_is_err_and c.from_residual.result c.from_residual.ensures.1 in
    reads_in_part _ c.from_residual.result ran.0 _ _ ran.1 c.in_err-found.ensures.faults.err

pub returns-in_err-filling-clause-faults : goal.returns-in_err-filling-clause-faults
returns-in_err-filling-clause-faults g c =
    let ran = err_from_is_err_and c.from_residual-in_err-filling.result c.from_residual-in_err-filling.ensures.1 in
    reads_in_part _ c.from_residual-in_err-filling.result ran.0 _ _ ran.1
    (c.in_ok-found.ensures.faults.sound (text_came _ c.in-Text.text c.in-Text.is))
