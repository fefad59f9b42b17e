use Rattle.std.proofs.Common.{◌≡◌, ◌∙◌, ◌*◌, ◌/◌, ◌%◌, ap, arith, refl, w8, w32, pos}
use Rattle.std.specs.Int.{w16}
use Rattle.csn_cookie.proofs.instant.Instant.new.Goals as goal
use Rattle.csn_cookie.proofs.InstantLemmas.{instant_of-civil_nanos, unsigned_abs_back}

pub returns : goal.returns
returns c =
    let is = instant_of-civil_nanos c.time_after-time.result c.args.micros c.time_after-time.ensures in
    let year = unsigned_abs_back w16 _ _ _ c.unsigned_abs.ensures.value (c.year.ensures ∙ is.year) c.year.type_inv in
    let month = unsigned_abs_back w8 _ _ _ c.unsigned_abs-2.ensures.value (c.month.ensures ∙ ap pos is.month) c.month.type_inv in
    let day = unsigned_abs_back w8 _ _ _ c.unsigned_abs-3.ensures.value (c.day.ensures ∙ ap pos is.day) c.day.type_inv in
    let hour = unsigned_abs_back w8 _ _ _ c.unsigned_abs-4.ensures.value (c.hour.ensures ∙ ap pos is.hour) c.hour.type_inv in
    let minute = unsigned_abs_back w8 _ _ _ c.unsigned_abs-5.ensures.value (c.minute.ensures ∙ ap pos is.minute) c.minute.type_inv in
    let second = unsigned_abs_back w8 _ _ _ c.unsigned_abs-6.ensures.value (c.second.ensures ∙ ap pos is.second) c.second.type_inv in
    let nanos : c.unsigned_abs-7.result ≡ c.args.micros % 1_000_000 * 1000 = unsigned_abs_back w32 _ _ _ c.unsigned_abs-7.ensures.value (c.subsec_nanosecond.ensures ∙ ap pos is.micro) c.subsec_nanosecond.type_inv in
    let micro : c.unsigned_abs-7.result / 1000 ≡ c.args.micros % 1_000_000 = omega (arith, nanos) in
    rw (year, month, day, hour, minute, second, micro) refl
