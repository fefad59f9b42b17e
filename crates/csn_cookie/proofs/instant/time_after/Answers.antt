use Rattle.std.proofs.Common.{◌≡◌, ℕ, ℤ, to_z, ◌≤◌, ◌<◌, ◌*◌, ◌^◌, ◌∙◌, ap, zero-add, arith, pos, ◌*ℤ◌, w64}
use Rattle.std.proofs.lemmas.Int.{to_z_pos}
use Rattle.jiff.specs.Words.{signed_nanos}
use Rattle.jiff_core.proofs.SignedLemmas.{signed_arith}
use Rattle.csn_cookie.specs.Csn.{greatest_micros}
use Rattle.csn_cookie.proofs.instant.time_after.Goals as goal

nanos_since : (micros : ℕ) (since : ℤ) → micros ≤ greatest_micros → since ≡ to_z w64 micros *ℤ pos 1000 → since ≡ pos (micros * 1000)
nanos_since micros since early e =
    let small : micros < 2 ^ 63 = omega arith in
    e ∙ ap (λ z. z *ℤ pos 1000) (to_z_pos w64 micros small)

pub unwrap-requires : goal.unwrap-requires
unwrap-requires c =
    c.checked_add.ensures.succeeds.1 (rw (c.epoch.ensures, nanos_since c.args.micros (signed_nanos c.from_micros-since.result) c.requires c.from_micros-since.ensures) (omega (arith, signed_arith)))

pub returns : goal.returns
returns c =
    let sum = rw c.unwrap.ensures at c.checked_add.ensures.value in
    sum ∙ rw (c.epoch.ensures, nanos_since c.args.micros (signed_nanos c.from_micros-since.result) c.requires c.from_micros-since.ensures) (ap pos (zero-add (c.args.micros * 1000)))
